-- `relations::model::union_within` meets its contract: the rows of the members passed are gathered, and no more is wanted once `all` is.
-- Assumes nothing.
use Rattle.std.proofs.Common.{sym, ◌∙◌, ◌+◌, ◌≤◌, arith, length}
use Rattle.nodeset.specs.Set.{but_lowest}
use Rattle.nodeset.specs.Stored.{table_bytes, set_at}
use Rattle.nodeset.specs.Members.{lowest_member, fewer}
use Rattle.relations.specs.Members.{Gathered, gathered_none, gathered_more, gathered_all, gathered_enough}
use Rattle.relations.proofs.model.union_within.Goals.{In-Some, After-union-sum}
use Rattle.relations.proofs.model.union_within.Goals as goal

-- the row of the lowest of the rest stands in the table
fits : (c : In-Some)
    → let a = c.args in
    table_bytes (a.first + c.in-Some.u + 1) ≤ length a.rows.now
fits c =
    rw c.in-Some.ensures.1 (c.requires.fits _ (c.loop-u.invariant.part _ (lowest_member _ c.in-Some.ensures.0).1))

-- that row is gathered
grown : (c : After-union-sum)
    → let a = c.args in
    Gathered (λ u. set_at a.rows.now (a.first + u)) a.s (but_lowest c.loop-u.rest) c.union-sum.result
grown c =
    rw (c.union-sum.ensures, c.load.ensures, c.in-Some.ensures.1)
    (gathered_more _ _ _ _ c.in-Some.ensures.0 c.loop-u.invariant)

pub loop-u-init : goal.loop-u-init
loop-u-init c = rw c.empty-sum.ensures (gathered_none _ _)

pub overflow_add-first : goal.overflow_add-first
overflow_add-first c = omega (arith, fits (goal.at.overflow_add-first c).In-Some)

pub load-requires : goal.load-requires
load-requires c = fits (goal.at.load-requires c).In-Some

pub returns-then-is_empty : goal.returns-then-is_empty
returns-then-is_empty c =
    gathered_enough _ _ _ _ _ c.requires.within
    (sym (rw c.minus.ensures at c.is_empty.ensures) ∙ c.if-is_empty.true) (grown (goal.at.returns-then-is_empty c).After-union-sum)

pub but_lowest-rest-requires : goal.but_lowest-rest-requires
but_lowest-rest-requires c = c.in-Some.ensures.0

pub loop-u-smaller : goal.loop-u-smaller
loop-u-smaller c = rw c.but_lowest-rest.ensures (fewer _ c.in-Some.ensures.0)

pub loop-u-preserved : goal.loop-u-preserved
loop-u-preserved c = rw c.but_lowest-rest.ensures (grown (goal.at.loop-u-preserved c).After-union-sum)

pub returns : goal.returns
returns c = gathered_all _ _ _ _ (c.in_default.ensures) c.loop-u.invariant
