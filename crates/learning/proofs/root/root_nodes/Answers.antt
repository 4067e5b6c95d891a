-- `learning::root::root_nodes` meets its contract: the set is that of the last entry, and the area is cleared.
-- Assumes nothing.
use Rattle.evaluation.specs.Learned.{root_known}
use Rattle.learning.proofs.root.root_nodes.Goals as goal

pub returns-clause-root : goal.returns-clause-root
returns-clause-root c = root_known c.requires.lent c.run_sized-s.result c.run_sized-s.ensures
