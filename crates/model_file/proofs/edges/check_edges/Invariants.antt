-- `model_file::edges::check_edges` meets its contract: every record passed has passed its check, by the laws of `each_below`, and the least
-- number is that of the order.
-- Assumes nothing.
use Rattle.std.proofs.Common.{ℕ, ◌<◌, ◌≡◌}
use Rattle.pattern.specs.Checks.Finding.{passes}
use Rattle.model_records.specs.Rising.{least_at}
use Rattle.model_records.specs.Checks.{record_check}
use Rattle.model_file.proofs.edges.check_edges.Given as goal

abbrev pub invariant-loop-i : goal.invariant-loop-i
invariant-loop-i l = ((j : ℕ) → j < l.i → record_check l.order l.d j ≡ passes) × (l.least ≡ least_at l.order l.d l.i)
