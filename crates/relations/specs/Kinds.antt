-- The documents' kinds as evaluation tells them apart, and back.
-- Assumes nothing.
use Rattle.std.specs.Prelude.{◌≡◌, refl, Option, Some, None}
use Rattle.std.proofs.Common.{sym, subst}
use Rattle.pattern.specs.declared.types.Comparison.{Comparison}
use Rattle.pattern.specs.declared.table.Kind.{Kind}
use Rattle.pattern.specs.declared.table.Sort.{Sort}
use Rattle.pattern.specs.File.Table.{sort_of, path_no_node, neither_no_node, neither_no_path}
use Rattle.relations.specs.declared.kinds.NodeKind.{NodeKind}
use Rattle.relations.specs.declared.kinds.PathKind.{PathKind}

abbrev pub node_kind_of : Kind → Option NodeKind
node_kind_of Kind.Property = Some NodeKind.Property
node_kind_of Kind.Name = Some NodeKind.Name
node_kind_of Kind.Not = Some NodeKind.Not
node_kind_of Kind.Both = Some NodeKind.Both
node_kind_of Kind.After = Some NodeKind.After
node_kind_of Kind.Same = Some (NodeKind.Compare Comparison.Same)
node_kind_of Kind.Differ = Some (NodeKind.Compare Comparison.Differ)
node_kind_of Kind.Step = None
node_kind_of Kind.Jump = None
node_kind_of Kind.Test = None
node_kind_of Kind.Fork = None
node_kind_of Kind.Either = Some NodeKind.Either
node_kind_of Kind.Unknown = None

abbrev pub path_kind_of : Kind → Option PathKind
path_kind_of Kind.Step = Some PathKind.Step
path_kind_of Kind.Jump = Some PathKind.Jump
path_kind_of Kind.Test = Some PathKind.Test
path_kind_of Kind.Fork = Some PathKind.Fork
path_kind_of Kind.Property = None
path_kind_of Kind.Name = None
path_kind_of Kind.Not = None
path_kind_of Kind.Both = None
path_kind_of Kind.After = None
path_kind_of Kind.Same = None
path_kind_of Kind.Differ = None
path_kind_of Kind.Either = None
path_kind_of Kind.Unknown = None

-- the kind of a comparison
abbrev pub comparison_kind : Comparison → Kind
comparison_kind Comparison.Same = Kind.Same
comparison_kind Comparison.Differ = Kind.Differ

-- what each says of the kind itself
abbrev pub IsNodeKind : Option NodeKind → Kind → Type 0
IsNodeKind (Some NodeKind.Property) κ = κ ≡ Kind.Property
IsNodeKind (Some NodeKind.Name) κ = κ ≡ Kind.Name
IsNodeKind (Some NodeKind.Not) κ = κ ≡ Kind.Not
IsNodeKind (Some NodeKind.Both) κ = κ ≡ Kind.Both
IsNodeKind (Some NodeKind.Either) κ = κ ≡ Kind.Either
IsNodeKind (Some NodeKind.After) κ = κ ≡ Kind.After
IsNodeKind (Some (NodeKind.Compare c)) κ = κ ≡ comparison_kind c
IsNodeKind None κ = sort_of κ ≡ Sort.Node → ⊥

abbrev pub IsPathKind : Option PathKind → Kind → Type 0
IsPathKind (Some PathKind.Step) κ = κ ≡ Kind.Step
IsPathKind (Some PathKind.Jump) κ = κ ≡ Kind.Jump
IsPathKind (Some PathKind.Test) κ = κ ≡ Kind.Test
IsPathKind (Some PathKind.Fork) κ = κ ≡ Kind.Fork
IsPathKind None κ = sort_of κ ≡ Sort.Path → ⊥

-- ---- laws
is_node_kind : (κ : Kind) → IsNodeKind (node_kind_of κ) κ
is_node_kind Kind.Property = refl
is_node_kind Kind.Name = refl
is_node_kind Kind.Not = refl
is_node_kind Kind.Both = refl
is_node_kind Kind.After = refl
is_node_kind Kind.Same = refl
is_node_kind Kind.Differ = refl
is_node_kind Kind.Step = path_no_node
is_node_kind Kind.Jump = path_no_node
is_node_kind Kind.Test = path_no_node
is_node_kind Kind.Fork = path_no_node
is_node_kind Kind.Either = refl
is_node_kind Kind.Unknown = neither_no_node

is_path_kind : (κ : Kind) → IsPathKind (path_kind_of κ) κ
is_path_kind Kind.Property = λ e. path_no_node (sym e)
is_path_kind Kind.Name = λ e. path_no_node (sym e)
is_path_kind Kind.Not = λ e. path_no_node (sym e)
is_path_kind Kind.Both = λ e. path_no_node (sym e)
is_path_kind Kind.After = λ e. path_no_node (sym e)
is_path_kind Kind.Same = λ e. path_no_node (sym e)
is_path_kind Kind.Differ = λ e. path_no_node (sym e)
is_path_kind Kind.Step = refl
is_path_kind Kind.Jump = refl
is_path_kind Kind.Test = refl
is_path_kind Kind.Fork = refl
is_path_kind Kind.Either = λ e. path_no_node (sym e)
is_path_kind Kind.Unknown = neither_no_path

pub node_kind_is : (κ : Kind) (kind : Option NodeKind) → kind ≡ node_kind_of κ → IsNodeKind kind κ
node_kind_is κ kind e = subst (λ (t : Option NodeKind). IsNodeKind t κ) (sym e) (is_node_kind κ)

pub path_kind_is : (κ : Kind) (kind : Option PathKind) → kind ≡ path_kind_of κ → IsPathKind kind κ
path_kind_is κ kind e = subst (λ (t : Option PathKind). IsPathKind t κ) (sym e) (is_path_kind κ)
