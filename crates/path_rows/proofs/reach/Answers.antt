-- `path_rows::reach` meets its contract.
-- Assumes nothing.
use Rattle.nodeset.specs.Members.{below_inside}
use Rattle.relations.specs.Covered.{every_covers, within_first, union_covers}
use Rattle.path_rows.proofs.reach.Goals as goal

pub union_within-requires : goal.union_within-requires
union_within-requires c =
    let a = c.args in
    let all = c.below-every in
    within_first a.rows.now a.n a.first c.below.result all.result c.requires.1
    (every_covers a.rows.now a.n a.first all.result all.ensures)
    (λ u m. below_inside a.n u c.requires.0 (rw c.below.ensures at m))

pub returns-then-matches : goal.returns-then-matches
returns-then-matches c =
    union_covers c.args.rows.now c.args.n c.args.first c.union_within.result c.requires.0
    (rw c.below.ensures at c.union_within.ensures)

pub returns : goal.returns
returns c = every_covers _ _ _ _ c.below-every.ensures
