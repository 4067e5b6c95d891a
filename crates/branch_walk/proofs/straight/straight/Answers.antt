-- `branch_walk::straight::straight` meets its contract: the steps passed lead on from the first to the one that is next.
-- Assumes nothing.
use Rattle.std.proofs.Common.{rules}
use Rattle.branch_walk.specs.StraightLaws.{straight_grows, straight_stops, straight_open}
use Rattle.branch_walk.proofs.straight.straight.Goals as goal

pub returns-in-Err : goal.returns-in-Err
returns-in-Err c = straight_stops c.loop-i.invariant (rw c.in-Err.is at c.take_step.ensures).says

pub returns-in-Ok-Clash : goal.returns-in-Ok-Clash
returns-in-Ok-Clash c = straight_stops c.loop-i.invariant (rw c.in-Ok-Clash.field-0-is at c.in-Ok-Clash.ensures).says

pub returns-in-Ok-Fork : goal.returns-in-Ok-Fork
returns-in-Ok-Fork c = straight_stops c.loop-i.invariant (rw c.in-Ok-Fork.field-0-is at c.in-Ok-Fork.ensures).says

pub loop-i-preserved : goal.loop-i-preserved
loop-i-preserved c = straight_grows c.loop-i.invariant (rw c.in-Ok-Grown.field-0-is at c.in-Ok-Grown.ensures)

pub returns : goal.returns
returns c = straight_open c.loop-i.invariant (search rules)
