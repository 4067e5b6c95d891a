-- `learning::learn::learn_path` meets its contract: the slot is taken from its path, filled, and given to the path if it could be filled.
-- Assumes nothing.
use Rattle.evaluation.specs.Learned.{learned_taken, taken_free, learned_lost, learned_filled}
use Rattle.learning.proofs.learn.learn_path.Goals as goal

pub fill-requires-clause-learned : goal.fill-requires-clause-learned
fill-requires-clause-learned c = rw c.tag.ensures (learned_taken c.args.q.now.lent c.requires.learned c.args.slot c.requires.rows_fit.1)

pub fill-requires-clause-rows_fit : goal.fill-requires-clause-rows_fit
fill-requires-clause-rows_fit c =
    (c.requires.rows_fit.0, rw c.tag.ensures (taken_free c.args.q.now.lent c.requires.learned c.args.slot c.requires.rows_fit.1))

pub returns-then-fill : goal.returns-then-fill
returns-then-fill c = let f = c.fill.ensures in
    rw (c.tag-then-fill.ensures, c.give.ensures, f.same_area, f.same_marks, c.tag.ensures)
    (learned_filled c.args.q.now.lent c.requires.learned c.args.slot c.requires.rows_fit.1 _ f.rows_long f.slot_filled.rest c.args.k c.requires.k_bound.0 c.requires.k_bound.1 c.requires.rows_fit.0 (f.slot_filled.ends c.if-fill.true), f.rows_long)

pub returns-else-fill : goal.returns-else-fill
returns-else-fill c = let f = c.fill.ensures in
    rw (f.same_area, f.same_marks, c.tag.ensures)
    (learned_lost c.args.q.now.lent c.requires.learned c.args.slot c.requires.rows_fit.1 _ f.rows_long f.slot_filled.rest, f.rows_long)
