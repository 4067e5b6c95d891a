-- `nodeset::NodeSet::filter_below` meets its contract, by `filtered_next`: of the nodes passed those that pass the test are kept.
-- Assumes nothing.
use Rattle.std.proofs.Common.{arith}
use Rattle.nodeset.specs.Filtered.{filtered_first, filtered_next}
use Rattle.nodeset.proofs.NodeSet.filter_below.Goals as goal

pub loop-u-init : goal.loop-u-init
loop-u-init g c = rw c.empty-found.ensures (filtered_first _)

pub loop-u-preserved : goal.loop-u-preserved
loop-u-preserved g c = rw c.insert_if-found.ensures (filtered_next _ _ _ _ (omega arith) c.test.ensures c.loop-u.invariant)
