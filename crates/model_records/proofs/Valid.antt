-- The checks of a model file pass exactly the valid files whose edges stand in the order; where the edges rise, they are those of files in any
-- order.
-- Assumes nothing.
use Rattle.std.specs.Prelude.{◌≡◌, ◌||◌, List, ℕ, ◌<◌, leb, ltb}
use Rattle.std.proofs.Math.Bool.{true, not}
use Rattle.std.proofs.Math.Dec.{eqb}
use borrow.Author.Tests.{ltb-true, leb-true, ne_eqb, lt-ltb, le-leb, not-false}
use Rattle.pattern.specs.File.Types.{max_name, max_axis}
use Rattle.pattern.specs.Checks.Tests.{or_is_false}
use Rattle.pattern.specs.Checks.Finding.{passes, ◌then◌, then_passes, refuses_if_passes}
use Rattle.pattern.specs.Checks.Range.{each_below, each_at, each_below_law, each_same, none_below}
use Rattle.model_records.specs.Layout.{node_count, name_count, edge_count, name_of, node_of_record, from_of, axis_of, to_of}
use Rattle.model_records.specs.declared.Order.{Order}
use Rattle.model_records.specs.Order.{EdgesRise, in_order}
use Rattle.model_records.specs.Rising.{Ordered}
use Rattle.model_records.specs.Checks.{header_check, name_check, edge_check, order_check, record_check, model_check}
use Rattle.model_records.specs.Valid.{ValidName, ValidEdge, ValidModel, header_passes, header_accepted, name_passes, order_passes}
use Rattle.model_records.proofs.Rising.{ordered, in_order_law}

module _ (ds : List ℕ) (j : ℕ) where
  name_accepted : ValidName ds j → name_check ds j ≡ passes
  unfolding name_check
  name_accepted h =
      rw (
        le-leb (name_of ds j) max_name h.name_within,
        lt-ltb (node_of_record ds j) (node_count ds) h.node_is_within,
        none_below (λ i. eqb (name_of ds i) (name_of ds j)) j (λ i l. ne_eqb _ _ (h.different i l)),
      )

module _ (ds : List ℕ) (i : ℕ) where
  edge_passes : edge_check ds i ≡ passes → ValidEdge ds i
  unfolding edge_check
  edge_passes h =
      let axis = not (leb (axis_of ds i) max_axis) in
      let to = not (ltb (to_of ds i) (node_count ds)) in
      let a = or_is_false (not (ltb (from_of ds i) (node_count ds))) (axis || to) (refuses_if_passes _ 14 i h) in
      let b = or_is_false axis to a.1 in
      record {
        from_within = ltb-true _ _ (not-false _ a.0);
        axis_within = leb-true _ _ (not-false _ b.0);
        to_within = ltb-true _ _ (not-false _ b.1);
      }

  edge_accepted : ValidEdge ds i → edge_check ds i ≡ passes
  unfolding edge_check
  edge_accepted h =
      rw (
        lt-ltb (from_of ds i) (node_count ds) h.from_within,
        le-leb (axis_of ds i) max_axis h.axis_within,
        lt-ltb (to_of ds i) (node_count ds) h.to_within,
      )

module _ (order : Order) (ds : List ℕ) (i : ℕ) where
  record_passes : record_check order ds i ≡ passes → ValidEdge ds i × (in_order order ds i ≡ true)
  unfolding record_check order_check
  record_passes h =
      let a = then_passes (edge_check ds i) (order_check order ds i) h in
      (edge_passes ds i a.0, not-false _ (refuses_if_passes _ 28 i a.1))

-- a file that the checks pass is valid, and its edges stand in the order
pub model_valid : (order : Order) (ds : List ℕ) → model_check order ds ≡ passes → ValidModel ds × Ordered order ds
unfolding model_check
model_valid order ds h =
    let names = each_below (name_count ds) (name_check ds) in
    let edges = each_below (edge_count ds) (record_check order ds) in
    let a = then_passes (header_check ds) (names then edges) h in
    let b = then_passes names edges a.1 in
    let each : (i : ℕ) → i < edge_count ds → ValidEdge ds i × (in_order order ds i ≡ true) =
    λ i l. record_passes order ds i (each_at (record_check order ds) (edge_count ds) i b.1 l) in (
      record {
        header = header_passes ds a.0;
        names = λ j l. name_passes ds j (each_at (name_check ds) (name_count ds) j b.0 l);
        edges = λ i l. (each i l).0;
      },
      ordered order ds (λ i l. (each i l).1),
    )

-- the checks pass a valid file whose edges stand in the order
pub model_accepted : (order : Order) (ds : List ℕ) → ValidModel ds → Ordered order ds → model_check order ds ≡ passes
unfolding model_check
model_accepted order ds h o =
    rw (
      header_accepted ds h.header,
      each_below_law (name_check ds) (name_count ds) (λ j l. name_accepted ds j (h.names j l)),
      each_below_law (record_check order ds) (edge_count ds) (λ i l. order_passes order ds i (edge_accepted ds i (h.edges i l)) (in_order_law order ds o i l)),
    )

-- where the edges rise, the checks are those of files in any order
pub model_unordered : (ds : List ℕ) → EdgesRise ds → model_check Order.Rising ds ≡ model_check Order.Any ds
unfolding model_check record_check order_check
model_unordered ds h = rw (each_same (record_check Order.Rising ds) (record_check Order.Any ds) (edge_count ds) same)
  where
    same : (i : ℕ) → i < edge_count ds → record_check Order.Rising ds i ≡ record_check Order.Any ds i
    same i l = rw (in_order_law Order.Rising ds h i l)
