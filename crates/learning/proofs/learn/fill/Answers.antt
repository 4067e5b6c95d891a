-- `learning::learn::fill` meets its contract: the rows of the paths that the entry goes on by are those of other slots, and make its own.
-- Assumes nothing.
use Rattle.std.proofs.Common.{◌≡◌, refl, sym, ◌∙◌, true}
use Rattle.slots.specs.Marks.{is_held, PathOf}
use Rattle.evaluation.specs.Evaluated.{entry_long}
use Rattle.slots.specs.Marks.{slots_apart}
use Rattle.learning.specs.Rows.{other_path, PathRead, within_ranges, bounded, test_node, goes_on_by, goes_on_held, slot_filled, slot_left}
use Rattle.learning.proofs.learn.fill.Goals.{After-path_kind-path}
use Rattle.learning.proofs.learn.fill.Goals as goal

pub paths_held-requires : goal.paths_held-requires
paths_held-requires c = entry_long c.args.q.now.lent c.args.k c.requires.k_bound.0

pub returns-then-not-paths_held : goal.returns-then-not-paths_held
returns-then-not-paths_held c = let a = c.args in
    record {
      slot_filled = slot_left a.q.now.p.now a.q.now.table.now a.q.now.alike.now a.q.now.n a.k a.slot a.memory.now.rows.now;
      rows_long = refl;
      same_area = refl;
      same_marks = refl;
    }

pub at-e-requires : goal.at-e-requires
at-e-requires c = entry_long c.args.q.now.lent c.args.k c.requires.k_bound.0

-- the entry
read : (c : After-path_kind-path)
    → let a = c.args in
    PathRead a.q.now.p.now a.q.now.table.now a.q.now.alike.now a.q.now.n a.k c.at-e.result c.path_kind-path.result
read c =
    record { lent = c.args.q.now.lent; within = c.requires.k_bound.0; path = c.requires.k_bound.1; same = c.at-e.ensures; by = c.path_kind-path.ensures }

-- both paths that it goes on by are of the pattern, and held
on-by : (c : After-path_kind-path)
    → let a = c.args in
    let e = c.at-e.result in
    let other = other_path c.path_kind-path.result e.x e.y in
    (PathOf a.q.now.p.now other × (is_held a.memory.now.marks other ≡ true)) × (PathOf a.q.now.p.now e.y × (is_held a.memory.now.marks e.y ≡ true))
on-by c =
    let paths = goes_on_by (read c) in
    let held = goes_on_held (read c) c.args.memory.now.marks (sym c.paths_held.ensures ∙ c.if-not-paths_held.false) in
    ((paths.0, held.0), (paths.1, held.1))

pub test_nodes-held-requires-clause-test_node : goal.test_nodes-held-requires-clause-test_node
test_nodes-held-requires-clause-test_node c = test_node (read (goal.at.test_nodes-held-requires-clause-test_node c).After-path_kind-path)

pub fill_rows-requires : goal.fill_rows-requires
fill_rows-requires c =
    let a = c.args in
    let on = on-by (goal.at.fill_rows-requires c).After-path_kind-path in
    let first = c.requires.learned.held _ on.0.0 on.0.1 in
    let second = c.requires.learned.held _ on.1.0 on.1.1 in record {
      parts = record {
        table_long = c.args.q.now.lent.table_long;
        narrow = c.args.q.now.lent.narrow;
        within_ranges = within_ranges (read (goal.at.fill_rows-requires c).After-path_kind-path);
        bounded = bounded (read (goal.at.fill_rows-requires c).After-path_kind-path);
        first_fits = rw (c.row_of_path-first.ensures, c.other_path.ensures) first.fits;
        second_fits = rw c.row_of_path-second.ensures second.fits;
      };
      rows_fit = rw c.first_row-at.ensures c.requires.rows_fit.0;
      apart = (
        rw (c.row_of_path-first.ensures, c.other_path.ensures, c.first_row-at.ensures) (slots_apart a.q.now.n _ a.slot (c.requires.rows_fit.1 _ on.0.0 on.0.1)),
        rw (c.row_of_path-second.ensures, c.first_row-at.ensures) (slots_apart a.q.now.n _ a.slot (c.requires.rows_fit.1 _ on.1.0 on.1.1)),
      );
    }

pub returns : goal.returns
returns c = let a = c.args in
    let on = on-by (goal.at.returns c).After-path_kind-path in
    let first = (c.requires.learned.held _ on.0.0 on.0.1).ends in
    let second = (c.requires.learned.held _ on.1.0 on.1.1).ends in
    record {
      slot_filled = slot_filled (read (goal.at.returns c).After-path_kind-path) a.memory.now.rows.now _ c.test_nodes-held.result c.row_of_path-first.result c.row_of_path-second.result a.slot
          (rw (c.row_of_path-first.ensures, c.other_path.ensures) first)
          (rw c.row_of_path-second.ensures second)
          c.test_nodes-held.ensures
          (rw c.first_row-at.ensures at c.fill_rows.ensures);
      rows_long = c.fill_rows.auto.rows;
      same_area = refl;
      same_marks = refl;
    }
