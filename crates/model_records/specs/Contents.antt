-- The finite model that a model file stands for, and which names it lists.
-- Assumes nothing.
use Rattle.std.specs.Prelude.{◌≡◌, Bool, true, ◌&&◌, List, ℕ, ◌^◌, ◌/◌, ◌%◌, leb, eqb}
use Rattle.wire.specs.Choice.{pick}
use Rattle.nodeset.specs.Below.{lowest_below}
use Rattle.pattern.specs.Logic.Finite.{Finite}
use Rattle.pattern.specs.File.Types.{max_channel}
use Rattle.pattern.specs.Checks.Range.{some_below}
use Rattle.pattern.specs.Meaning.Names.{uses_name}
use Rattle.model_records.specs.Layout.{node_count, name_count, edge_count, property_set, value_on, name_of, node_of_record, from_of, axis_of, to_of}

-- edge record i says that axis a leads from u to v
abbrev pub record_leads : List ℕ → ℕ → ℕ → ℕ → ℕ → Bool
record_leads ds a u v i = eqb (from_of ds i) u && (eqb (axis_of ds i) a && eqb (to_of ds i) v)

-- axis a leads from u to v where some record says so. 01: "Edges stand in any order; a repeat counts as one.", which is true of this
-- definition still; 02's Job 3 amends it to edges that rise, and its Job 4 takes older files as 01 has them
unfoldable pub leads_in : List ℕ → ℕ → ℕ → ℕ → Bool
leads_in ds a u v = some_below (edge_count ds) (record_leads ds a u v)

-- the models of two files have the same edges
abbrev pub SameEdges : List ℕ → List ℕ → Type 0
SameEdges ds es = (a u v : ℕ) → leads_in ds a u v ≡ leads_in es a u v

-- 01: "bit p for property p": property p is in the set of node u
abbrev pub has_property : List ℕ → ℕ → ℕ → Bool
has_property ds p u = eqb (property_set ds u / 2 ^ p % 2) 1

-- 01: "four data values per node", "channels 0 to 3": the value of node u on channel e; zero on any other, which no record holds
abbrev pub value_in : List ℕ → ℕ → ℕ → ℕ
value_in ds e u = pick (leb e max_channel) (value_on ds e u) 0

-- name record j lists name i
abbrev pub record_lists : List ℕ → ℕ → ℕ → Bool
record_lists ds i j = eqb (name_of ds j) i

-- one of the name records below j lists name i
abbrev pub is_listed_below : List ℕ → ℕ → ℕ → Bool
is_listed_below ds j i = some_below j (record_lists ds i)

-- 02, Job 1, "listed in the model": some name record lists name i
unfoldable pub is_listed : List ℕ → ℕ → Bool
is_listed ds i = is_listed_below ds (name_count ds) i

-- 02, Job 1: "A name used in the pattern must be listed in the model"
abbrev pub NamesListed : List ℕ → List ℕ → Type 0
NamesListed bs ds = (i : ℕ) → uses_name bs i ≡ true → is_listed ds i ≡ true

-- the name record that lists name i; the count of the name records where none does
abbrev pub record_of_name : List ℕ → ℕ → ℕ
record_of_name ds i = lowest_below (name_count ds) (record_lists ds i)

-- the node of the record that lists the name. 01: "Names not listed name node 0.", amended by 02's Job 1: "node 0 stands in only for names
-- that the pattern doesn't use"; a model that doesn't list a name that the pattern uses is refused (27)
unfoldable pub node_named : List ℕ → ℕ → ℕ
node_named ds i = pick (is_listed ds i) (node_of_record ds (record_of_name ds i)) 0

-- 01: "A data model has one or more nodes, edges per axis, a property set and four data values per node, and a node for every name."
abbrev pub model_from : List ℕ → Finite
model_from ds = record {
  size = node_count ds;
  edge = λ a u v. leads_in ds a u v;
  label = λ p u. has_property ds p u;
  value = λ e u. value_in ds e u;
  named = λ i. node_named ds i;
}
