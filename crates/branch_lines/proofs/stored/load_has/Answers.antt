-- `branch_lines::stored::load_has` meets its contract: each part is of its byte.
-- Assumes nothing.
use Rattle.std.proofs.Common.{refl}
use Rattle.branch_lines.proofs.stored.load_has.Goals as goal

pub returns : goal.returns
returns c = rw c.sign_at.ensures refl
