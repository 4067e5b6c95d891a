-- `nodeset::NodeSet::filter` meets its contract, by `filtered_more`: of the nodes passed those that pass the test are kept.
-- Assumes nothing.
use Rattle.nodeset.specs.Members.{lowest_member, fewer}
use Rattle.nodeset.specs.Filtered.{filtered_none, filtered_more, filtered_all}
use Rattle.nodeset.proofs.NodeSet.filter.Goals as goal

pub loop-u-init : goal.loop-u-init
loop-u-init g c = rw c.empty-kept.ensures (filtered_none _ _)

pub test-requires : goal.test-requires
test-requires g c =
    let low = c.in-Some.ensures in
    rw low.1 (c.requires _ (c.loop-u.invariant.part _ (lowest_member _ low.0).1))

pub insert_if-kept-requires : goal.insert_if-kept-requires
insert_if-kept-requires g c = let low = c.in-Some.ensures in rw low.1 (lowest_member _ low.0).0

pub loop-u-smaller : goal.loop-u-smaller
loop-u-smaller g c = rw c.but_lowest-rest.ensures (fewer _ c.in-Some.ensures.0)

pub loop-u-preserved : goal.loop-u-preserved
loop-u-preserved g c =
    let low = c.in-Some.ensures in
    rw (c.but_lowest-rest.ensures, c.insert_if-kept.ensures, low.1)
    (filtered_more _ _ _ _ _ low.0 (rw low.1 at c.test.ensures) c.loop-u.invariant)

pub returns : goal.returns
returns g c = filtered_all _ _ _ _ c.in_default.ensures c.loop-u.invariant
