-- The checks of a model file: 01's refusals 10 to 14 and 02's 28, in their order, as an executable definition.
-- Assumes nothing.
use Rattle.std.specs.Prelude.{Bool, not, ◌||◌, List, ℕ, length, leb, ltb, eqb}
use Rattle.wire.specs.Fields.{begins_with, word_at}
use Rattle.pattern.specs.File.Types.{max_name, max_axis}
use Rattle.pattern.specs.Checks.Finding.{Check, refuses_if, ◌then◌}
use Rattle.pattern.specs.Checks.Range.{some_below, each_below}
use Rattle.model_records.specs.Layout.{mark, node_count, max_nodes, name_count, max_names, edge_count, max_edges, length_of, name_of, node_of_record, from_of, axis_of, to_of}
use Rattle.model_records.specs.declared.Order.{Order}
use Rattle.model_records.specs.Order.{in_order}

-- "10: under 9 bytes or wrong mark."
abbrev pub mark_check : List ℕ → Check
mark_check ds = refuses_if (ltb (length ds) 9 || not (begins_with mark ds)) 10 0

-- "11: version."
abbrev pub version_check : List ℕ → Check
version_check ds = refuses_if (not (eqb (word_at ds 3) 1)) 11 0

-- a node count out of "1 to 64", a name count over 128, an edge count over 4096, or a length that isn't the one that they ask for
abbrev pub counts_wrong : List ℕ → Bool
counts_wrong ds =
    eqb (node_count ds) 0 || (ltb max_nodes (node_count ds) || (ltb max_names (name_count ds) || (ltb max_edges (edge_count ds)
    || not (eqb (length ds) (length_of ds)))))

-- "12: a count out of range or length wrong."
abbrev pub count_check : List ℕ → Check
count_check ds = refuses_if (counts_wrong ds) 12 0

unfoldable pub header_check : List ℕ → Check
header_check ds = mark_check ds then version_check ds then count_check ds

-- "a name that an earlier record has"
abbrev pub repeats_name : List ℕ → ℕ → Bool
repeats_name ds j = some_below j (λ i. eqb (name_of ds i) (name_of ds j))

-- "13, place the name record: name or node out of range, or a name that an earlier record has."
unfoldable pub name_check : List ℕ → ℕ → Check
name_check ds j =
    refuses_if (not (leb (name_of ds j) max_name) || (not (ltb (node_of_record ds j) (node_count ds)) || repeats_name ds j)) 13 j

-- "14, place the edge record: field out of range."
unfoldable pub edge_check : List ℕ → ℕ → Check
edge_check ds i =
    refuses_if
    (not (ltb (from_of ds i) (node_count ds)) || (not (leb (axis_of ds i) max_axis) || not (ltb (to_of ds i) (node_count ds)))) 14 i

-- 02, Job 3: "28, .. when it doesn't come after the record before it, place that record". In any order nothing is out of it.
unfoldable pub order_check : Order → List ℕ → ℕ → Check
order_check order ds i = refuses_if (not (in_order order ds i)) 28 i

-- "in each edge record after its 14 check"
unfoldable pub record_check : Order → List ℕ → ℕ → Check
record_check order ds i = edge_check ds i then order_check order ds i

-- refusals 10 to 14 and 28 of a file whose edges must stand in that order: all name records before any edge record
unfoldable pub model_check : Order → List ℕ → Check
model_check order ds = header_check ds then each_below (name_count ds) (name_check ds) then each_below (edge_count ds) (record_check order ds)
