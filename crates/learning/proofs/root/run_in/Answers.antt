-- `learning::root::run_in` meets its contract: there is room for two slots.
-- Assumes nothing.
use Rattle.std.proofs.Common.{arith}
use Rattle.learning.proofs.root.run_in.Goals as goal

pub whole_as_slice-run : goal.whole_as_slice-run
whole_as_slice-run g c = omega (arith, c.requires.rows_long.1)
