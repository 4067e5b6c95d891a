-- `nodeset::NodeSet::filter_below` meets its contract: of the nodes below n those that pass the test are kept.
-- Assumes nothing.
use Rattle.nodeset.specs.Set.{below}
use Rattle.nodeset.specs.Filtered.{Filtered}
use Rattle.nodeset.proofs.NodeSet.filter_below.Given as goal

abbrev pub invariant-loop-u : goal.invariant-loop-u
invariant-loop-u g l = Filtered (goal.P-post g l.test) (below l.u) l.found
