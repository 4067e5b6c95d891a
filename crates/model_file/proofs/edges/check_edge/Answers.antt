-- `model_file::edges::check_edge` meets its contract: each test is one of `edge_check`, asked in its order.
-- Assumes nothing.
use Rattle.std.proofs.Common.{◌≡◌, ap, ℕ, not, leb, Result, Ok, Err, arith}
use Rattle.std.proofs.lemmas.Bool.Decides.{nat_tests}
use Rattle.std.specs.Result.{is_err}
use Rattle.pattern.specs.declared.types.Axis.{Axis}
use Rattle.pattern.specs.declared.types.OutOfRange.{OutOfRange}
use Rattle.pattern.specs.File.Made.{axis_made, make, made_within, out_beyond}
use Rattle.pattern.specs.File.Types.{max_axis}
use Rattle.model_records.specs.Checks.{edge_check}
use Rattle.model_file.proofs.edges.check_edge.Goals as goal

-- an axis is not made of a number that is out of range
not_made : (r : Result Axis OutOfRange) (n : ℕ) → axis_made r ≡ make max_axis n → is_err r ≡ not (leb n max_axis)
not_made (Ok a) n h = ap not (made_within max_axis n a.number h)
not_made (Err e) n h = ap not (out_beyond max_axis n h)

pub returns-then-n-edge : goal.returns-then-n-edge
unfolding edge_check
returns-then-n-edge c = grind (arith, nat_tests)

pub returns : goal.returns
unfolding edge_check
returns c = grind (arith, nat_tests, not_made _ _ c.try_from.ensures)
