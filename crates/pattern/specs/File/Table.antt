-- 01's table of entries, "Pattern file", and the row that 02's Job 6 adds: the kinds by number, which are nodes and which paths, and what
-- the fields of each hold.
-- Assumes nothing.
use Rattle.std.specs.Prelude.{◌≡◌, refl, Bool, true, false, List, [], ◌∷◌, ℕ, zero, suc, ◌<◌, length, get_or, eqb}
use Rattle.std.proofs.Common.{sym, ◌∙◌, ap, arith, eqb-true}
use Rattle.std.proofs.lemmas.Bool.{false≢true}
use Rattle.std.proofs.Math.ListN.{get_or-eq_default}
use Rattle.pattern.specs.declared.table.Kind.{Kind}
use Rattle.pattern.specs.declared.table.Sort.{Sort}
use Rattle.pattern.specs.declared.table.Field.{Field}
use Rattle.pattern.specs.declared.table.Form.{Form}

-- the kinds from number 1 on, in 01's order and 02's
abbrev pub kinds : List Kind
kinds =
    Kind.Property ∷ Kind.Name ∷ Kind.Not ∷ Kind.Both ∷ Kind.After ∷ Kind.Same ∷ Kind.Differ
    ∷ Kind.Step ∷ Kind.Jump ∷ Kind.Test ∷ Kind.Fork ∷ Kind.Either ∷ []

abbrev pub kind_of : ℕ → Kind
kind_of zero = Kind.Unknown
kind_of (suc n) = get_or kinds n Kind.Unknown

-- the documents' number of each kind; 0 is of none
abbrev pub kind_number : Kind → ℕ
kind_number Kind.Property = 1
kind_number Kind.Name = 2
kind_number Kind.Not = 3
kind_number Kind.Both = 4
kind_number Kind.After = 5
kind_number Kind.Same = 6
kind_number Kind.Differ = 7
kind_number Kind.Step = 8
kind_number Kind.Jump = 9
kind_number Kind.Test = 10
kind_number Kind.Fork = 11
kind_number Kind.Either = 12
kind_number Kind.Unknown = 0

abbrev pub same_kind : Kind → Kind → Bool
same_kind κ κ' = eqb (kind_number κ) (kind_number κ')

-- "A path reference 255 means end of path."
abbrev pub end_of_path : ℕ
end_of_path = 255

-- "Kinds 1 to 7 are nodes, 8 to 11 paths." 02: "node kind 12, either"
abbrev pub sort_of : Kind → Sort
sort_of Kind.Property = Sort.Node
sort_of Kind.Name = Sort.Node
sort_of Kind.Not = Sort.Node
sort_of Kind.Both = Sort.Node
sort_of Kind.After = Sort.Node
sort_of Kind.Same = Sort.Node
sort_of Kind.Differ = Sort.Node
sort_of Kind.Step = Sort.Path
sort_of Kind.Jump = Sort.Path
sort_of Kind.Test = Sort.Path
sort_of Kind.Fork = Sort.Path
sort_of Kind.Either = Sort.Node
sort_of Kind.Unknown = Sort.Neither

abbrev row : Field → Field → Field → Form
row a b c = record { x = a; y = b; z = c }

-- the rows of the table. φ, ψ are node references, α, β path references. "Fields not listed are zero." 02: "either, with x and y node
-- references"
abbrev pub form_of : Kind → Form
form_of Kind.Property = row Field.Property Field.Unused Field.Unused
form_of Kind.Name = row Field.Name Field.Unused Field.Unused
form_of Kind.Not = row Field.Node Field.Unused Field.Unused
form_of Kind.Both = row Field.Node Field.Node Field.Unused
form_of Kind.After = row Field.Axis Field.Node Field.Unused
form_of Kind.Same = row Field.Channel Field.Path Field.Path
form_of Kind.Differ = row Field.Channel Field.Path Field.Path
form_of Kind.Step = row Field.Axis Field.Path Field.Unused
form_of Kind.Jump = row Field.Name Field.Path Field.Unused
form_of Kind.Test = row Field.Node Field.Path Field.Unused
form_of Kind.Fork = row Field.Path Field.Path Field.Unused
form_of Kind.Either = row Field.Node Field.Node Field.Unused
form_of Kind.Unknown = row Field.Unused Field.Unused Field.Unused

abbrev pub is_neither : Sort → Bool
is_neither Sort.Node = false
is_neither Sort.Path = false
is_neither Sort.Neither = true

abbrev pub is_node : Sort → Bool
is_node Sort.Node = true
is_node Sort.Path = false
is_node Sort.Neither = false

abbrev pub is_path : Sort → Bool
is_path Sort.Node = false
is_path Sort.Path = true
is_path Sort.Neither = false

-- ---- laws
kind_of_number : (κ : Kind) → kind_of (kind_number κ) ≡ κ
kind_of_number Kind.Property = refl
kind_of_number Kind.Name = refl
kind_of_number Kind.Not = refl
kind_of_number Kind.Both = refl
kind_of_number Kind.After = refl
kind_of_number Kind.Same = refl
kind_of_number Kind.Differ = refl
kind_of_number Kind.Step = refl
kind_of_number Kind.Jump = refl
kind_of_number Kind.Test = refl
kind_of_number Kind.Fork = refl
kind_of_number Kind.Either = refl
kind_of_number Kind.Unknown = refl

pub same_kind_law : (κ κ' : Kind) → same_kind κ κ' ≡ true → κ ≡ κ'
same_kind_law κ κ' h = sym (kind_of_number κ) ∙ ap kind_of (eqb-true (kind_number κ) (kind_number κ') h) ∙ kind_of_number κ'

-- a number that no row of the table has is of no kind
pub kind_beyond : (n : ℕ) → ((k : ℕ) → k < length kinds → n ≡ suc k → ⊥) → kind_of n ≡ Kind.Unknown
kind_beyond zero none = refl
kind_beyond (suc k) none =
    let beyond : k < length kinds → ⊥ = λ l. none k l refl in
    get_or-eq_default kinds Kind.Unknown {n = k} (omega arith)

-- the sorts are three
pub path_no_node : Sort.Path ≡ Sort.Node → ⊥
path_no_node e = let z : ◌≡◌ {A = ℕ} 0 1 = cc in omega arith

pub neither_no_node : Sort.Neither ≡ Sort.Node → ⊥
neither_no_node e = let z : ◌≡◌ {A = ℕ} 0 1 = cc in omega arith

pub neither_no_path : Sort.Neither ≡ Sort.Path → ⊥
neither_no_path e = let z : ◌≡◌ {A = ℕ} 0 1 = cc in omega arith

-- what the test of a node says
pub sort_node : (s : Sort) → is_node s ≡ true → s ≡ Sort.Node
sort_node Sort.Node h = refl
sort_node Sort.Path h = absurd (false≢true h)
sort_node Sort.Neither h = absurd (false≢true h)

pub sort_no_node : (s : Sort) → is_node s ≡ false → s ≡ Sort.Node → ⊥
sort_no_node s h e = false≢true (sym h ∙ ap is_node e)
