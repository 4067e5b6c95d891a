-- `learning::learn::Plan::learn_all` meets its contract: what the marks say stays so with each entry.
-- Assumes nothing.
use Rattle.std.proofs.Common.{◌≡◌}
use Rattle.slots.specs.Area.{place_of}
use Rattle.learning.specs.Learns.{Ready}
use Rattle.learning.proofs.learn.Plan.learn_all.Given as goal

abbrev pub invariant-loop-k : goal.invariant-loop-k
invariant-loop-k l = Ready l.self l.memory × (l.place ≡ place_of l.self.q.now.p.now l.k)
