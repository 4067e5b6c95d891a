-- `path_rows::step_row` meets its contract: of equal successors the unions of the rows are equal.
-- Assumes nothing.
use Rattle.std.proofs.Common.{◌-◌, arith}
use Rattle.path_rows.specs.Paths.{LeadsAlike}
use Rattle.path_rows.proofs.step_row.Goals.{Then-leads_alike}
use Rattle.path_rows.proofs.step_row.Goals as goal

-- what was found of the node and the one before it
alike : (c : Then-leads_alike) → let a = c.args in LeadsAlike a.table.now a.axis a.u
alike c = c.leads_alike.ensures c.if-leads_alike.true

pub overflow_sub-u : goal.overflow_sub-u
overflow_sub-u c = (alike (goal.at.overflow_sub-u c).Then-leads_alike).0

pub load-requires : goal.load-requires
load-requires c = omega (arith, (alike (goal.at.load-requires c).Then-leads_alike).0, c.requires.filled_below.0)

pub returns-then-leads_alike : goal.returns-then-leads_alike
returns-then-leads_alike c =
    let same = alike (goal.at.returns-then-leads_alike c).Then-leads_alike in
    rw c.load.ensures (rw same.1 at (c.requires.filled_below.1 (c.args.u - 1) (omega (arith, same.0))))

pub union_within-requires : goal.union_within-requires
union_within-requires c = rw c.successors.ensures c.requires.within

pub returns : goal.returns
returns c = rw c.successors.ensures at c.union_within.ensures
