-- `learning::learn::Plan::bring_back` meets its contract.
-- Assumes nothing.
use Rattle.evaluation.specs.Evaluated.{entry_long}
use Rattle.learning.proofs.learn.Plan.bring_back.Goals as goal

pub paths_held-requires : goal.paths_held-requires
paths_held-requires c = entry_long c.args.self.now.q.now.lent c.args.k c.requires.k_bound
