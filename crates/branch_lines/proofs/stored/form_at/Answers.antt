-- `branch_lines::stored::form_at` meets its contract: each arm is a clause of `form_of`.
-- Assumes nothing.
use Rattle.std.proofs.Common.{sym, ap}
use Rattle.branch_lines.specs.Stored.{form_of}
use Rattle.branch_lines.proofs.stored.form_at.Goals as goal

pub returns-in-0 : goal.returns-in-0
returns-in-0 c = sym (ap form_of c.in-0.is)

pub returns-in-1 : goal.returns-in-1
returns-in-1 c = sym (ap form_of c.in-1.is)

pub returns-in-2 : goal.returns-in-2
returns-in-2 c = sym (ap form_of c.in-2.is)
