-- `branch_lines::stored::store` meets its contract: the bytes of the line are stored as a block.
-- Assumes nothing.
use Rattle.branch_lines.specs.Stored.{put_line}
use Rattle.branch_lines.proofs.stored.store.Goals as goal

pub returns : goal.returns
unfolding put_line
returns c = rw c.bytes.ensures at c.put_block.ensures
