-- `branch_walk::straight::straight` meets its contract: the steps passed lead on from the first to the one that is next.
-- Assumes nothing.
use Rattle.branch_walk.specs.Straight.{Onto}
use Rattle.branch_walk.proofs.straight.straight.Given as goal

abbrev pub invariant-loop-i : goal.invariant-loop-i
invariant-loop-i l = Onto l.given.p.now l.given.steps.now l.given.s l.initial.area l.k l.len l.area l.i l.lines
