-- `branch_walk::walk::walk_first` meets its contract: no right side waits at first.
-- Assumes nothing.
use Rattle.std.proofs.Common.{arith}
use Rattle.branch_walk.proofs.walk.walk_first.Goals as goal

pub walk-requires : goal.walk-requires
walk-requires c = record {
  walk_lent = c.requires.walk_lent;
  set_of = c.requires.set_of;
  waiting_le_max_waiting = (omega arith, c.requires.bounded);
}
