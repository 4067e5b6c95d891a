-- `slots::uses::path_count` stays within the pattern.
-- Assumes nothing.
use Rattle.std.proofs.Common.{◌≤◌}
use Rattle.slots.proofs.uses.path_count.Given as goal

abbrev pub invariant-loop-k : goal.invariant-loop-k
invariant-loop-k l = l.found ≤ l.k
