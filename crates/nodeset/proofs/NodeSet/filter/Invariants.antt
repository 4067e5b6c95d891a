-- `nodeset::NodeSet::filter` meets its contract: of the nodes passed those that pass the test are kept.
-- Assumes nothing.
use Rattle.nodeset.specs.Set.{size_of}
use Rattle.nodeset.specs.Filtered.{FilteredBut}
use Rattle.nodeset.proofs.NodeSet.filter.Given as goal

abbrev pub invariant-loop-u : goal.invariant-loop-u
invariant-loop-u g l = FilteredBut (goal.P-post g l.test) l.initial.rest l.rest l.kept

abbrev pub decreases-loop-u : goal.decreases-loop-u
decreases-loop-u g l = size_of l.rest
