-- `fields::earlier_sort` meets its contract: the test is that of `earlier_sort`.
-- Assumes nothing.
use Rattle.std.proofs.Common.{lt-ltb, le-ltb}
use Rattle.fields.proofs.earlier_sort.Goals as goal

pub returns-then-v-k : goal.returns-then-v-k
returns-then-v-k c = rw (lt-ltb _ _ c.if-v-k.true) c.sort_at.ensures

pub returns : goal.returns
returns c = rw (le-ltb _ _ c.if-v-k.false)
