-- `branch_lines::fresh::branch_has` meets its contract: the lines from the next one on have the name exactly where the branch has it, since none
-- that was passed has it.
-- Assumes nothing.
use Rattle.std.proofs.Common.{◌≡◌, ◌-◌}
use Rattle.lines.specs.Lines.{branch_has}
use Rattle.branch_lines.specs.Stored.{lines_from}
use Rattle.branch_lines.proofs.fresh.branch_has.Given as goal

abbrev pub invariant-loop-k : goal.invariant-loop-k
invariant-loop-k l = branch_has (lines_from l.area 0 l.len) l.name.number ≡ branch_has (lines_from l.area l.k (l.len - l.k)) l.name.number
