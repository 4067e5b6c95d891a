-- Node evaluation and path ends meet their contracts, by the laws of `Evaluated` and `SweepEntry` for each way out; the entry number falls.
-- Assumes nothing.
use Rattle.std.proofs.Common.{rules, ◌≡◌, sym, ap, ◌∙◌, Some, subst, ℕ, ◌≤◌, arith, ◌+◌, ◌*◌, ◌<◌}
use Rattle.pattern.specs.File.Types.{max_channel}
use Rattle.pattern.specs.File.Entries.{max_entries}
use Rattle.pattern.specs.File.Reading.{count_of, sort_at}
use Rattle.slots.specs.Marks.{PathOf, mark_of}
use Rattle.evaluation.specs.Learned.{Rowed, Stored}
use Rattle.evaluation.specs.Sweep.{entries_swept}
use Rattle.evaluation.specs.Entries.{earlier_path}
use Rattle.evaluation.specs.Evaluated.{CollectedAt, entry_long, lent_valid, compare_fields, collects_none, collects_next, collects_rows, evaluates_compare, NodeEntry, property_within, name_within, axis_within, not_refers, both_refers, either_refers, after_refers, evaluates_property, evaluates_name, evaluates_not, evaluates_both, evaluates_either, evaluates_after}
use Rattle.evaluation.specs.SweepEntry.{swept_below, SweptAt, sweep_begins, sweep_goes_on, sweep_ends, PathEntry, sweeps_none, step_axis, jump_name, test_node, sweeps_step, sweeps_jump, sweeps_test, sweeps_fork, sweeps_no_path}
use Rattle.pattern.specs.File.Valid.{EarlierNode}
use Rattle.pattern.specs.declared.table.Sort.{Sort}
use Rattle.evaluation.specs.Judged.{Knows}
use Rattle.slots.specs.Area.{place_of, set_room}
use Rattle.evaluation.proofs.judged.Judged.+evaluation.Goals.{compare-After-at-e, compare-Then-is_held-2, compute-After-node_kind, ends-Then-is_held, evaluate-Then-is_known, evaluate-After-set_place, sweep_entry-After-path_kind}
use Rattle.evaluation.proofs.judged.Judged.+evaluation.Goals as goal

pub compare-at-e-requires : goal.compare-at-e-requires
compare-at-e-requires t c = entry_long c.args.self.now.lent c.args.k c.requires.k_bound.0

-- the fields of the comparison, its paths as references of the pattern, and how far their sweeps go
fields_of_compare : (t : ℕ) (c : compare-After-at-e t)
    → let a = c.args in
    let e = c.at-e.result in
    (e.x ≤ max_channel) × PathOf a.self.now.p.now e.y × PathOf a.self.now.p.now e.z × (entries_swept e.y ≤ a.k) × (entries_swept e.z ≤ a.k)
fields_of_compare t c =
    let a = c.args in
    let e = c.at-e.result in
    let f = compare_fields c.args.self.now.lent a.k c.requires.k_bound.0 a.c c.requires.k_bound.1 e c.at-e.ensures in
    let few : a.k ≤ max_entries = omega (arith, c.requires.k_bound.0, (lent_valid c.args.self.now.lent).header.one_byte) in
    let below : a.k ≤ count_of a.self.now.p.now = omega (arith, c.requires.k_bound.0) in (
      f.0,
      earlier_path a.self.now.p.now a.k (count_of a.self.now.p.now) e.y below f.1,
      earlier_path a.self.now.p.now a.k (count_of a.self.now.p.now) e.z below f.2,
      swept_below a.self.now.p.now a.k e.y few f.1,
      swept_below a.self.now.p.now a.k e.z few f.2,
    )

-- both paths have their rows
rowed_of_compare : (t : ℕ) (c : compare-Then-is_held-2 t)
    → let a = c.args in
    Rowed a.self.now.p.now a.self.now.table.now a.self.now.alike.now a.self.now.n a.known.now.rows.now c.at-e.result.y (mark_of a.known.now.marks.now c.at-e.result.y)
    × Rowed a.self.now.p.now a.self.now.table.now a.self.now.alike.now a.self.now.n a.known.now.rows.now c.at-e.result.z (mark_of a.known.now.marks.now c.at-e.result.z)
rowed_of_compare t c =
    let f = fields_of_compare t (goal.at.compare-Then-is_held-2 t c).After-at-e in (
      c.requires.learned.held c.at-e.result.y f.1 (sym c.is_held.ensures ∙ c.if-is_held.true),
      c.requires.learned.held c.at-e.result.z f.2 (sym c.is_held-then-is_held.ensures ∙ c.if-is_held-2.true),
    )

pub compare-compare_rows-requires : goal.compare-compare_rows-requires
compare-compare_rows-requires t c = let r = rowed_of_compare t (goal.at.compare-compare_rows-requires t c).Then-is_held-2 in record {
  alike_rows_in_bounds = (c.args.self.now.lent.alike_long, (fields_of_compare t (goal.at.compare-compare_rows-requires t c).After-at-e).0, c.args.self.now.lent.narrow);
  rows_fit = (rw c.row_of_path-first.ensures r.0.fits, rw c.row_of_path-second.ensures r.1.fits);
}

pub compare-returns-then-is_held-2 : goal.compare-returns-then-is_held-2
compare-returns-then-is_held-2 t c = let a = c.args in
    let r = rowed_of_compare t (goal.at.compare-returns-then-is_held-2 t c).Then-is_held-2 in
    evaluates_compare c.args.self.now.lent a.k c.requires.k_bound.0 a.c c.requires.k_bound.1 c.compare_rows.result
    (collects_rows c.args.self.now.lent a.k c.requires.k_bound.0 a.c c.requires.k_bound.1 a.known.now.rows.now _ _ c.at-e.result c.compare_rows.result c.at-e.ensures r.0.ends r.1.ends (rw (c.row_of_path-first.ensures, c.row_of_path-second.ensures) at c.compare_rows.ensures))

pub compare-loop-u-init : goal.compare-loop-u-init
compare-loop-u-init t c = rw c.empty-found.ensures (collects_none c.args.self.now.lent c.args.k c.requires.k_bound.0 c.args.c c.requires.k_bound.1)

pub compare-ends-s-requires : goal.compare-ends-s-requires
compare-ends-s-requires t c = let f = fields_of_compare t (goal.at.compare-ends-s-requires t c).After-at-e in
    (omega (arith, c.decreases, f.3), (c.requires.learned, (f.1, search rules)))

pub compare-ends-t-requires : goal.compare-ends-t-requires
compare-ends-t-requires t c = let f = fields_of_compare t (goal.at.compare-ends-t-requires t c).After-at-e in
    (omega (arith, c.decreases, f.4), (c.requires.learned, (f.2, search rules)))

pub compare-some_pair-requires-clause-channel_le_max_channel : goal.compare-some_pair-requires-clause-channel_le_max_channel
compare-some_pair-requires-clause-channel_le_max_channel t c = (fields_of_compare t (goal.at.compare-some_pair-requires-clause-channel_le_max_channel t c).After-at-e).0

pub compare-loop-u-preserved : goal.compare-loop-u-preserved
compare-loop-u-preserved t c =
    rw c.insert_if-found.ensures
    (collects_next c.args.self.now.lent c.args.k c.requires.k_bound.0 c.args.c c.requires.k_bound.1 c.loop-u.u c.loop-u.found c.at-e.result c.ends-s.result c.ends-t.result c.some_pair.result (search rules) c.at-e.ensures c.ends-s.ensures c.ends-t.ensures c.some_pair.ensures c.loop-u.invariant)

pub compare-returns : goal.compare-returns
compare-returns t c = let a = c.args in
    let all : c.loop-u.u ≡ a.self.now.n = omega arith in
    evaluates_compare a.self.now.lent a.k c.requires.k_bound.0 a.c c.requires.k_bound.1 c.loop-u.found
    (subst (λ (m : ℕ). CollectedAt a.self.now.p.now a.self.now.table.now a.self.now.alike.now a.self.now.n a.k a.c m c.loop-u.found) all c.loop-u.invariant)

pub compute-at-e-requires : goal.compute-at-e-requires
compute-at-e-requires t c = entry_long c.args.self.now.lent c.args.k c.requires.k_bound.0

-- the entry that is evaluated
entry_of_compute : (t : ℕ) (c : compute-After-node_kind t)
    → let a = c.args in
    NodeEntry a.self.now.p.now a.self.now.table.now a.self.now.alike.now a.self.now.n a.k c.at-e.result c.node_kind.result
entry_of_compute t c =
    record { lent = c.args.self.now.lent; within = c.requires.k_bound.0; node = c.requires.k_bound.1; same = c.at-e.ensures; by = c.node_kind.ensures }

-- what evaluation asks of itself at an earlier node
asks_of_compute : (t : ℕ) (c : compute-After-node_kind t) {x : ℕ}
    → let a = c.args in
    EarlierNode a.self.now.p.now a.k x
    → (8 * x + 6 < t)
    × (Knows a.self.now a.known.now
    × ((x < count_of a.self.now.p.now) × (sort_at a.self.now.p.now x ≡ Sort.Node)))
asks_of_compute t c h =
    (omega (arith, c.decreases, h.0), (c.requires.learned, (omega (arith, h.0, c.requires.k_bound.0), h.1)))

pub compute-with_property-requires-clause-property_le_max_property : goal.compute-with_property-requires-clause-property_le_max_property
compute-with_property-requires-clause-property_le_max_property t c = let n = entry_of_compute t (goal.at.compute-with_property-requires-clause-property_le_max_property t c).After-node_kind in property_within n (c.in-Some.is ∙ ap Some c.in-Property.is)

pub compute-with_name-requires-clause-name_le_max_name : goal.compute-with_name-requires-clause-name_le_max_name
compute-with_name-requires-clause-name_le_max_name t c = let n = entry_of_compute t (goal.at.compute-with_name-requires-clause-name_le_max_name t c).After-node_kind in name_within n (c.in-Some.is ∙ ap Some c.in-Name.is)

pub compute-evaluate-s-requires : goal.compute-evaluate-s-requires
compute-evaluate-s-requires t c = asks_of_compute t (goal.at.compute-evaluate-s-requires t c).After-node_kind (not_refers (entry_of_compute t (goal.at.compute-evaluate-s-requires t c).After-node_kind) (c.in-Some.is ∙ ap Some c.in-Not.is))

pub compute-evaluate-s-requires-in-Both : goal.compute-evaluate-s-requires-in-Both
compute-evaluate-s-requires-in-Both t c = asks_of_compute t (goal.at.compute-evaluate-s-requires-in-Both t c).After-node_kind (both_refers (entry_of_compute t (goal.at.compute-evaluate-s-requires-in-Both t c).After-node_kind) (c.in-Some.is ∙ ap Some c.in-Both.is)).0

pub compute-evaluate-requires : goal.compute-evaluate-requires
compute-evaluate-requires t c = asks_of_compute t (goal.at.compute-evaluate-requires t c).After-node_kind (both_refers (entry_of_compute t (goal.at.compute-evaluate-requires t c).After-node_kind) (c.in-Some.is ∙ ap Some c.in-Both.is)).1

pub compute-evaluate-s-requires-in-Either : goal.compute-evaluate-s-requires-in-Either
compute-evaluate-s-requires-in-Either t c = asks_of_compute t (goal.at.compute-evaluate-s-requires-in-Either t c).After-node_kind (either_refers (entry_of_compute t (goal.at.compute-evaluate-s-requires-in-Either t c).After-node_kind) (c.in-Some.is ∙ ap Some c.in-Either.is)).0

pub compute-evaluate-requires-in-Either : goal.compute-evaluate-requires-in-Either
compute-evaluate-requires-in-Either t c = asks_of_compute t (goal.at.compute-evaluate-requires-in-Either t c).After-node_kind (either_refers (entry_of_compute t (goal.at.compute-evaluate-requires-in-Either t c).After-node_kind) (c.in-Some.is ∙ ap Some c.in-Either.is)).1

pub compute-evaluate-s-requires-in-After : goal.compute-evaluate-s-requires-in-After
compute-evaluate-s-requires-in-After t c = asks_of_compute t (goal.at.compute-evaluate-s-requires-in-After t c).After-node_kind (after_refers (entry_of_compute t (goal.at.compute-evaluate-s-requires-in-After t c).After-node_kind) (c.in-Some.is ∙ ap Some c.in-After.is))

pub compute-before-requires-clause-n_le_width : goal.compute-before-requires-clause-n_le_width
compute-before-requires-clause-n_le_width t c = let n = entry_of_compute t (goal.at.compute-before-requires-clause-n_le_width t c).After-node_kind in (n.lent.narrow, axis_within n (c.in-Some.is ∙ ap Some c.in-After.is))

pub compute-returns-in-Property : goal.compute-returns-in-Property
compute-returns-in-Property t c = let n = entry_of_compute t (goal.at.compute-returns-in-Property t c).After-node_kind in rw c.with_property.ensures (evaluates_property n (c.in-Some.is ∙ ap Some c.in-Property.is))

pub compute-returns-in-Name : goal.compute-returns-in-Name
compute-returns-in-Name t c = let n = entry_of_compute t (goal.at.compute-returns-in-Name t c).After-node_kind in rw c.with_name.ensures (evaluates_name n (c.in-Some.is ∙ ap Some c.in-Name.is))

pub compute-returns-in-Not : goal.compute-returns-in-Not
compute-returns-in-Not t c = let n = entry_of_compute t (goal.at.compute-returns-in-Not t c).After-node_kind in
    rw (c.minus.ensures, c.all_nodes.ensures) (evaluates_not n c.evaluate-s.result (c.in-Some.is ∙ ap Some c.in-Not.is) c.evaluate-s.ensures)

pub compute-returns-in-Both : goal.compute-returns-in-Both
compute-returns-in-Both t c = let n = entry_of_compute t (goal.at.compute-returns-in-Both t c).After-node_kind in
    rw c.meet.ensures (evaluates_both n c.evaluate-s-in-Both.result c.evaluate.result (c.in-Some.is ∙ ap Some c.in-Both.is) c.evaluate-s-in-Both.ensures c.evaluate.ensures)

pub compute-returns-in-Either : goal.compute-returns-in-Either
compute-returns-in-Either t c = let n = entry_of_compute t (goal.at.compute-returns-in-Either t c).After-node_kind in
    rw c.union.ensures (evaluates_either n c.evaluate-s-in-Either.result c.evaluate-in-Either.result (c.in-Some.is ∙ ap Some c.in-Either.is) c.evaluate-s-in-Either.ensures c.evaluate-in-Either.ensures)

pub compute-returns-in-After : goal.compute-returns-in-After
compute-returns-in-After t c = let n = entry_of_compute t (goal.at.compute-returns-in-After t c).After-node_kind in
    evaluates_after n c.evaluate-s-in-After.result c.before-in-After.result (c.in-Some.is ∙ ap Some c.in-After.is) c.evaluate-s-in-After.ensures c.before-in-After.ensures

rowed_of_ends : (t : ℕ) (c : ends-Then-is_held t)
    → let a = c.args in
    Rowed a.self.now.p.now a.self.now.table.now a.self.now.alike.now a.self.now.n a.known.now.rows.now a.path (mark_of a.known.now.marks.now a.path)
rowed_of_ends t c = c.requires.learned.held c.args.path c.requires.path_of.0 (sym c.is_held.ensures ∙ c.if-is_held.true)

pub ends-returns-then-is_held : goal.ends-returns-then-is_held
ends-returns-then-is_held t c = rw (c.load.ensures, c.row_of_path.ensures) ((rowed_of_ends t (goal.at.ends-returns-then-is_held t c).Then-is_held).ends c.args.u c.requires.path_of.1)

pub ends-loop-j-init : goal.ends-loop-j-init
ends-loop-j-init t c = let a = c.args in (
  omega (arith, c.entries_swept-j.ensures),
  search rules,
  rw (c.entries_swept-j.ensures, c.store.ensures, c.only.ensures) (sweep_begins c.args.self.now.lent a.path a.u c.requires.path_of.0),
)

pub ends-loop-j-preserved : goal.ends-loop-j-preserved
ends-loop-j-preserved t c = let a = c.args in (
  omega (arith, c.loop-j.invariant.0),
  search rules,
  sweep_goes_on c.args.self.now.lent a.path a.u c.loop-j.j c.loop-j.pending _ (search rules) c.loop-j.invariant.2 c.sweep_entry.ensures,
)

pub ends-returns : goal.ends-returns
ends-returns t c = let a = c.args in
    let done : c.loop-j.j ≡ 0 = omega arith in
    rw c.load-2.ensures
    (sweep_ends c.args.self.now.lent a.path a.u c.loop-j.pending (subst (λ (j : ℕ). SweptAt a.self.now.p.now a.self.now.table.now a.self.now.alike.now a.self.now.n a.path a.u c.loop-j.pending j) done c.loop-j.invariant.2))

-- the set is in the area where the mark says so
stored_of_evaluate : (t : ℕ) (c : evaluate-Then-is_known t)
    → let a = c.args in
    Stored a.self.now.p.now a.self.now.table.now a.self.now.alike.now a.self.now.n a.known.now.area.now a.k (mark_of a.known.now.marks.now a.k)
stored_of_evaluate t c = c.requires.learned.sets c.args.k c.requires.k_bound.0 c.requires.k_bound.1 (sym c.is_known.ensures ∙ c.if-is_known.true)

-- and is looked for at its place
place_is_of_evaluate : (t : ℕ) (c : evaluate-After-set_place t)
    → let a = c.args in
    c.set_place.result ≡ place_of a.self.now.p.now a.k
place_is_of_evaluate t c = omega (arith, c.set_place.ensures, (stored_of_evaluate t (goal.at.evaluate-After-set_place t c).Then-is_known).place_is)

pub evaluate-load-requires : goal.evaluate-load-requires
evaluate-load-requires t c = rw (place_is_of_evaluate t (goal.at.evaluate-load-requires t c).After-set_place) (set_room c.args.self.now.p.now c.args.known.now.area.now c.requires.learned.area_long c.args.k c.requires.k_bound.0 c.requires.k_bound.1)

pub evaluate-returns-then-is_known : goal.evaluate-returns-then-is_known
evaluate-returns-then-is_known t c = rw (c.load.ensures, place_is_of_evaluate t (goal.at.evaluate-returns-then-is_known t c).After-set_place) (stored_of_evaluate t (goal.at.evaluate-returns-then-is_known t c).Then-is_known).set_is

pub sweep_entry-returns-then-is_empty : goal.sweep_entry-returns-then-is_empty
sweep_entry-returns-then-is_empty t c = sweeps_none c.args.self.now.lent c.args.i c.args.pending.now (rw c.load-s.ensures at (sym c.is_empty.ensures ∙ c.if-is_empty.true))

pub sweep_entry-at-e-requires : goal.sweep_entry-at-e-requires
sweep_entry-at-e-requires t c = entry_long c.args.self.now.lent c.args.i c.requires.i_bound

-- the entry of the sweep
entry_of_sweep_entry : (t : ℕ) (c : sweep_entry-After-path_kind t)
    → let a = c.args in
    PathEntry a.self.now.p.now a.self.now.table.now a.self.now.alike.now a.self.now.n a.i c.at-e.result c.path_kind.result a.pending.now c.load-s.result
entry_of_sweep_entry t c =
    record {
      lent = c.args.self.now.lent;
      within = c.requires.i_bound;
      long = c.requires.pending_bytes_in_bounds;
      same = c.at-e.ensures;
      by = c.path_kind.ensures;
      set = c.load-s.ensures;
      some = sym c.is_empty.ensures ∙ c.if-is_empty.false;
    }

pub sweep_entry-image-requires-clause-axis_le_max_axis : goal.sweep_entry-image-requires-clause-axis_le_max_axis
sweep_entry-image-requires-clause-axis_le_max_axis t c = let n = entry_of_sweep_entry t (goal.at.sweep_entry-image-requires-clause-axis_le_max_axis t c).After-path_kind in step_axis n (c.in-Some.is ∙ ap Some c.in-Step.is)

pub sweep_entry-with_name-requires-clause-name_le_max_name : goal.sweep_entry-with_name-requires-clause-name_le_max_name
sweep_entry-with_name-requires-clause-name_le_max_name t c = let n = entry_of_sweep_entry t (goal.at.sweep_entry-with_name-requires-clause-name_le_max_name t c).After-path_kind in jump_name n (c.in-Some.is ∙ ap Some c.in-Jump.is)

pub sweep_entry-evaluate-t-requires : goal.sweep_entry-evaluate-t-requires
sweep_entry-evaluate-t-requires t c = let n = entry_of_sweep_entry t (goal.at.sweep_entry-evaluate-t-requires t c).After-path_kind in
    let x = test_node n (c.in-Some.is ∙ ap Some c.in-Test.is) in
    (omega (arith, c.decreases, x.0), (c.requires.learned, (omega (arith, x.0, n.within), x.1)))

pub sweep_entry-returns-in-Step : goal.sweep_entry-returns-in-Step
sweep_entry-returns-in-Step t c = rw c.add.ensures
    (sweeps_step (entry_of_sweep_entry t (goal.at.sweep_entry-returns-in-Step t c).After-path_kind) c.image.result (c.in-Some.is ∙ ap Some c.in-Step.is) c.image.ensures)

pub sweep_entry-returns-in-Jump : goal.sweep_entry-returns-in-Jump
sweep_entry-returns-in-Jump t c = rw (c.add-in-Jump.ensures, c.with_name.ensures) (sweeps_jump (entry_of_sweep_entry t (goal.at.sweep_entry-returns-in-Jump t c).After-path_kind) (c.in-Some.is ∙ ap Some c.in-Jump.is))

pub sweep_entry-returns-in-Test : goal.sweep_entry-returns-in-Test
sweep_entry-returns-in-Test t c = rw (c.add-in-Test.ensures, c.meet.ensures)
    (sweeps_test (entry_of_sweep_entry t (goal.at.sweep_entry-returns-in-Test t c).After-path_kind) c.evaluate-t.result (c.in-Some.is ∙ ap Some c.in-Test.is) c.evaluate-t.ensures)

pub sweep_entry-returns-in-Fork : goal.sweep_entry-returns-in-Fork
sweep_entry-returns-in-Fork t c = rw (c.add-in-Fork-2.ensures, c.add-in-Fork.ensures) (sweeps_fork (entry_of_sweep_entry t (goal.at.sweep_entry-returns-in-Fork t c).After-path_kind) (c.in-Some.is ∙ ap Some c.in-Fork.is))

pub sweep_entry-returns-in_default : goal.sweep_entry-returns-in_default
sweep_entry-returns-in_default t c = sweeps_no_path (entry_of_sweep_entry t (goal.at.sweep_entry-returns-in_default t c).After-path_kind) c.in_default.is
