-- `branch_lines::stored::load_compare` meets its contract: each part is of its byte.
-- Assumes nothing.
use Rattle.std.proofs.Common.{refl}
use Rattle.branch_lines.proofs.stored.load_compare.Goals as goal

pub returns : goal.returns
returns c =
    rw (c.channel_at.ensures, c.comparison_at.ensures, c.sign_at.ensures) refl
