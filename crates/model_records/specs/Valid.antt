-- A valid model file, put declaratively: it is what the checks 10 to 14 pass, and what later work knows of a model that they passed. That
-- its edges rise stands beside it (`EdgesRise`). That the checks pass just these is proved in `proofs.Valid`.
-- Assumes nothing.
use Rattle.std.specs.Prelude.{◌≡◌, Bool, ◌&&◌, ◌||◌, List, ℕ, ◌≤◌, ◌<◌, length, leb, ltb}
use Rattle.std.proofs.Math.Path.{refl}
use Rattle.std.proofs.Math.Bool.{true, false, not}
use Rattle.std.proofs.Common.{arith}
use Rattle.std.proofs.Math.Dec.{eqb}
use borrow.Author.Tests.{eqb-false, eqb-true, ltb-false, ltb-true, leb-true, ne_eqb, eq-eqb, le-ltb, not-false}
use Rattle.wire.specs.Fields.{begins_with, word_at}
use Rattle.wire.specs.Choice.{pick}
use Rattle.nodeset.specs.Below.{lowest_below_law, lowest_is}
use Rattle.pattern.specs.Logic.Finite.{Named}
use Rattle.pattern.specs.File.Types.{max_name, max_axis}
use Rattle.pattern.specs.Checks.Tests.{or_is_false, and_is_true}
use Rattle.pattern.specs.Checks.Finding.{passes, refuses, ◌then◌, then_passes, passes_last, refuses_if_passes}
use Rattle.pattern.specs.Checks.Range.{each_below, each_first, each_same, none_at, some_at, some_found}
use Rattle.model_records.specs.Layout.{mark, node_count, max_nodes, name_count, max_names, edge_count, max_edges, length_of, name_of, node_of_record, from_of, axis_of, to_of}
use Rattle.model_records.specs.declared.Order.{Order}
use Rattle.model_records.specs.Order.{in_order}
use Rattle.model_records.specs.Contents.{record_leads, leads_in, record_lists, is_listed, record_of_name, node_named, model_from}
use Rattle.model_records.specs.Checks.{mark_check, version_check, count_check, header_check, repeats_name, name_check, edge_check, order_check, record_check, model_check}

-- a header that meets the checks 10 to 12
pub record ValidHeader (ds : List ℕ) : Type 0 where
  pub marked : begins_with mark ds ≡ true
  pub version_one : word_at ds 3 ≡ 1
  pub some_node : 0 < node_count ds
  pub narrow : node_count ds ≤ max_nodes
  pub names_few : name_count ds ≤ max_names
  pub edges_few : edge_count ds ≤ max_edges
  pub length_is : length ds ≡ length_of ds

-- a name record that meets check 13
pub record ValidName (ds : List ℕ) (j : ℕ) : Type 0 where
  pub name_within : name_of ds j ≤ max_name
  pub node_is_within : node_of_record ds j < node_count ds
  pub different : (i : ℕ) → i < j → name_of ds i ≡ name_of ds j → ⊥

-- an edge record that meets check 14
pub record ValidEdge (ds : List ℕ) (i : ℕ) : Type 0 where
  pub from_within : from_of ds i < node_count ds
  pub axis_within : axis_of ds i ≤ max_axis
  pub to_within : to_of ds i < node_count ds

-- a file that meets the checks 10 to 14, in whatever order its edges stand
pub record ValidModel (ds : List ℕ) : Type 0 where
  pub header : ValidHeader ds
  pub names : (j : ℕ) → j < name_count ds → ValidName ds j
  pub edges : (i : ℕ) → i < edge_count ds → ValidEdge ds i

-- ---- laws
-- each check, and what it says
pub header_passes : (ds : List ℕ) → header_check ds ≡ passes → ValidHeader ds
unfolding header_check
header_passes ds h =
    let a = then_passes (mark_check ds) (version_check ds then count_check ds) h in
    let b = then_passes (version_check ds) (count_check ds) a.1 in
    let marks = or_is_false (ltb (length ds) 9) (not (begins_with mark ds)) (refuses_if_passes _ 10 0 a.0) in
    let n = node_count ds in
    let m = name_count ds in
    let k = edge_count ds in
    let long = not (eqb (length ds) (length_of ds)) in
    let zeros = or_is_false (eqb n 0) (ltb max_nodes n || (ltb max_names m || (ltb max_edges k || long))) (refuses_if_passes _ 12 0 b.1) in
    let nodes = or_is_false (ltb max_nodes n) (ltb max_names m || (ltb max_edges k || long)) zeros.1 in
    let names = or_is_false (ltb max_names m) (ltb max_edges k || long) nodes.1 in
    let edges = or_is_false (ltb max_edges k) long names.1 in
    record {
      marked = not-false _ marks.1;
      version_one = eqb-true _ _ (not-false _ (refuses_if_passes _ 11 0 b.0));
      some_node = let not_zero = eqb-false n 0 zeros.0 in omega arith;
      narrow = ltb-false max_nodes n nodes.0;
      names_few = ltb-false max_names m names.0;
      edges_few = ltb-false max_edges k edges.0;
      length_is = eqb-true _ _ (not-false _ edges.1);
    }

pub header_accepted : (ds : List ℕ) → ValidHeader ds → header_check ds ≡ passes
unfolding header_check
header_accepted ds h =
    let long : 9 ≤ length ds = omega (arith, h.length_is) in
    rw (
      le-ltb (length ds) 9 long,
      h.marked,
      eq-eqb _ _ h.version_one,
      ne_eqb (node_count ds) 0 (λ e. omega (arith, h.some_node)),
      le-ltb max_nodes (node_count ds) h.narrow,
      le-ltb max_names (name_count ds) h.names_few,
      le-ltb max_edges (edge_count ds) h.edges_few,
      eq-eqb _ _ h.length_is,
    )

module _ (ds : List ℕ) (j : ℕ) where
  pub name_passes : name_check ds j ≡ passes → ValidName ds j
  unfolding name_check
  name_passes h =
      let node = not (ltb (node_of_record ds j) (node_count ds)) in
      let a = or_is_false (not (leb (name_of ds j) max_name)) (node || repeats_name ds j) (refuses_if_passes _ 13 j h) in
      let b = or_is_false node (repeats_name ds j) a.1 in
      record {
        name_within = leb-true _ _ (not-false _ a.0);
        node_is_within = ltb-true _ _ (not-false _ b.0);
        different = λ i l. eqb-false _ _ (none_at (λ i. eqb (name_of ds i) (name_of ds j)) j i b.1 l);
      }

-- the check of an edge record: 14 decides first, and of a record that meets it the order
module _ (order : Order) (ds : List ℕ) (i : ℕ) where
  pub edge_decides : (number place : ℕ) → edge_check ds i ≡ refuses number place → record_check order ds i ≡ refuses number place
  unfolding record_check
  edge_decides number place h = rw h

  pub order_refuses : edge_check ds i ≡ passes → in_order order ds i ≡ false → record_check order ds i ≡ refuses 28 i
  unfolding record_check order_check
  order_refuses h e = rw (h, e)

  pub order_passes : edge_check ds i ≡ passes → in_order order ds i ≡ true → record_check order ds i ≡ passes
  unfolding record_check order_check
  order_passes h e = rw (h, e)

-- the first edge record at fault decides, by 14 or by 28: 28 at one record comes before 14 at the next
pub first_decides : (order : Order) (ds : List ℕ) (i number place : ℕ) → header_check ds ≡ passes
    → each_below (name_count ds) (name_check ds) ≡ passes → i < edge_count ds → ((j : ℕ) → j < i → record_check order ds j ≡ passes)
    → record_check order ds i ≡ refuses number place → model_check order ds ≡ refuses number place
unfolding model_check
first_decides order ds i number place h names l before e =
    rw (h, names, each_first (record_check order ds) (edge_count ds) i number place l before e)

-- in any order they are 01's own, 10 to 14 without 28
pub model_any : (ds : List ℕ)
    → model_check Order.Any ds ≡ header_check ds then each_below (name_count ds) (name_check ds) then each_below (edge_count ds) (edge_check ds)
unfolding model_check record_check order_check
model_any ds = rw (each_same (record_check Order.Any ds) (edge_check ds) (edge_count ds) same)
  where
    same : (i : ℕ) → i < edge_count ds → record_check Order.Any ds i ≡ edge_check ds i
    same i l = passes_last (edge_check ds i)

-- the model of a valid file
module _ {ds : List ℕ} (ok : ValidModel ds) where
  -- "a node for every name"
  pub all_named : Named (model_from ds)
  unfolding node_named is_listed
  all_named i = go (is_listed ds i) refl
    where
      go : (t : Bool) → is_listed ds i ≡ t → pick t (node_of_record ds (record_of_name ds i)) 0 < node_count ds
      go true e =
          let r = some_found (record_lists ds i) (name_count ds) e in
          (ok.names (record_of_name ds i) (lowest_below_law (name_count ds) (record_lists ds i) r.0 r.1 r.2)).node_is_within
      go false e = ok.header.some_node

  -- the name of a record is the name of the record's node
  pub listed : (j : ℕ) → j < name_count ds → (model_from ds).named (name_of ds j) ≡ node_of_record ds j
  unfolding node_named is_listed
  listed j l = rw (some_at (record_lists ds (name_of ds j)) (name_count ds) j l own, here)
    where
      own : record_lists ds (name_of ds j) j ≡ true
      own = eq-eqb (name_of ds j) (name_of ds j) refl

      here : record_of_name ds (name_of ds j) ≡ j
      here = lowest_is (name_count ds) (record_lists ds (name_of ds j)) j l own (λ k g. ne_eqb _ _ ((ok.names j l).different k g))

  -- an edge leads from a node to a node, on an axis
  pub edge_in : (a u v : ℕ) → (model_from ds).edge a u v ≡ true → (u < node_count ds) × (a ≤ max_axis) × (v < node_count ds)
  unfolding leads_in
  edge_in a u v h =
      let r = some_found (record_leads ds a u v) (edge_count ds) h in
      let i = r.0 in
      let e = ok.edges i r.1 in
      let b = and_is_true (eqb (from_of ds i) u) (eqb (axis_of ds i) a && eqb (to_of ds i) v) r.2 in
      let c = and_is_true (eqb (axis_of ds i) a) (eqb (to_of ds i) v) b.1 in (
        rw (eqb-true (from_of ds i) u b.0) at e.from_within,
        rw (eqb-true (axis_of ds i) a c.0) at e.axis_within,
        rw (eqb-true (to_of ds i) v c.1) at e.to_within,
      )

-- a name that isn't listed has the node that stands in
pub unlisted : (ds : List ℕ) (i : ℕ) → is_listed ds i ≡ false → (model_from ds).named i ≡ 0
unfolding node_named
unlisted ds i e = rw e

-- a name that is listed is that of a record
pub listed_found : (ds : List ℕ) (i : ℕ) → is_listed ds i ≡ true → (j : ℕ) × (j < name_count ds) × (name_of ds j ≡ i)
unfolding is_listed
listed_found ds i e = let r = some_found (record_lists ds i) (name_count ds) e in (r.0, r.1, eqb-true _ _ r.2)
