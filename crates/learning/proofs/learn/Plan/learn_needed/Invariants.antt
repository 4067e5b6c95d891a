-- `learning::learn::Plan::learn_needed` meets its contract: what the marks say stays so with each entry.
-- Assumes nothing.
use Rattle.learning.specs.Learns.{Ready}
use Rattle.learning.proofs.learn.Plan.learn_needed.Given as goal

abbrev pub invariant-loop-j : goal.invariant-loop-j
invariant-loop-j l = Ready l.self l.memory
