-- A finite data model in tables of node sets, as evaluation reads it: of properties, names and values what the pattern uses. The values stand in
-- a table of their own.
-- Assumes nothing.
use Rattle.std.specs.Prelude.{◌≡◌, true, List, ℕ, ◌+◌, ◌*◌, ◌≤◌, ◌<◌}
use Rattle.nodeset.specs.declared.NodeSet.{NodeSet}
use Rattle.nodeset.specs.Set.{width, has}
use Rattle.nodeset.specs.Stored.{set_at}
use Rattle.nodeset.specs.Members.{HasExactly}
use Rattle.pattern.specs.File.Types.{max_axis, max_property, max_name, max_channel}
use Rattle.pattern.specs.declared.types.Comparison.{Comparison}
use Rattle.pattern.specs.declared.table.Kind.{Kind}
use Rattle.pattern.specs.File.Entries.{entry_at}
use Rattle.pattern.specs.File.Reading.{count_of}
use Rattle.pattern.specs.Meaning.Names.{uses_name}
use Rattle.pattern.specs.Logic.Finite.{Finite, NodeOf}
use Rattle.relations.specs.Kinds.{comparison_kind}

-- a set has exactly the nodes of the model at which P holds
abbrev pub IsSet : (F : Finite) → (NodeOf F → Type 0) → NodeSet → Type 0
IsSet F P s = HasExactly (λ u. (l : u < F.size) × P (u, l)) s

-- a set has nodes of the model only
abbrev pub Inside : Finite → NodeSet → Type 0
Inside F s = (u : ℕ) → has s u ≡ true → u < F.size

-- the pattern has an entry of the kind with the number as its first field
abbrev pub Uses : List ℕ → Kind → ℕ → Type 0
Uses bs κ x = (k : ℕ) × ((k < count_of bs) × ((entry_at bs k).kind ≡ κ) × ((entry_at bs k).x ≡ x))

-- the row of node u among the rows of an axis or of a channel
abbrev pub row_of : ℕ → ℕ → ℕ
row_of group u = width * group + u

-- where each set stands in the table of a model: the successors of a node on an axis, the nodes with a property, the node of a name,
-- and all nodes
abbrev pub successors_row : ℕ → ℕ → ℕ
successors_row a u = row_of a u

abbrev pub successors_rows : ℕ
successors_rows = width * (max_axis + 1)

abbrev pub property_row : ℕ → ℕ
property_row p = successors_rows + p

abbrev pub name_row : ℕ → ℕ
name_row i = property_row (max_property + 1) + i

abbrev pub nodes_row : ℕ
nodes_row = name_row (max_name + 1)

abbrev pub model_rows : ℕ
model_rows = nodes_row + 1

-- the table of a model, for a pattern
pub record Tabled (F : Finite) (bs table : List ℕ) : Type 0 where
  pub narrow : F.size ≤ width
  pub successors : (a u : ℕ) → a ≤ max_axis → u < F.size → IsSet F (λ v. F.edge a u v.0 ≡ true) (set_at table (successors_row a u))
  pub properties : (p : ℕ) → Uses bs Kind.Property p → IsSet F (λ u. F.label p u.0 ≡ true) (set_at table (property_row p))
  pub names : (i : ℕ) → uses_name bs i ≡ true → IsSet F (λ u. F.named i ≡ u.0) (set_at table (name_row i))
  pub nodes : IsSet F (λ u. Unit {0}) (set_at table nodes_row)

-- the nodes below n that have a successor in the set
abbrev pub Before : List ℕ → ℕ → ℕ → NodeSet → ℕ → Type 0
Before table n a s u = (u < n) × ((v : ℕ) × ((has (set_at table (successors_row a u)) v ≡ true) × (has s v ≡ true)))

-- the table of a model's values: the nodes whose value on a channel is that of a node
abbrev pub alike_row : ℕ → ℕ → ℕ
alike_row e u = row_of e u

abbrev pub alike_rows : ℕ
alike_rows = width * (max_channel + 1)

abbrev pub AlikeOn : Finite → List ℕ → ℕ → Type 0
AlikeOn F alike e = (u : ℕ) → u < F.size → IsSet F (λ v. F.value e u ≡ F.value e v.0) (set_at alike (alike_row e u))

-- on each channel on which the pattern compares
abbrev pub Alike : Finite → (bs alike : List ℕ) → Type 0
Alike F bs alike = (c : Comparison) (e : ℕ) → Uses bs (comparison_kind c) e → AlikeOn F alike e
