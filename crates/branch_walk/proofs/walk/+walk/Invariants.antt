-- The number of unread steps falls.
-- Assumes nothing.
use Rattle.std.proofs.Common.{◌-◌}
use Rattle.branch_walk.proofs.walk.+walk.Given as goal

abbrev pub decreases-walk : goal.decreases-walk
decreases-walk l = l.given.now.s - l.k
