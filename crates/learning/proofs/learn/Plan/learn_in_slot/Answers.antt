-- `learning::learn::Plan::learn_in_slot` meets its contract: the slot is within the rows, and not that of the end of path.
-- Assumes nothing.
use Rattle.evaluation.specs.Evaluated.{entry_long}
use Rattle.learning.proofs.learn.Plan.learn_in_slot.Goals as goal

pub paths_held-requires : goal.paths_held-requires
paths_held-requires c = entry_long c.args.self.now.q.now.lent c.args.j c.requires.j_bound.0
