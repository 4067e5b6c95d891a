-- `model_file::check_name` meets its contract: each test is one of `name_check`, asked in its order.
-- Assumes nothing.
use Rattle.std.proofs.Common.{◌≡◌, ap, ℕ, not, leb, Result, Ok, Err, arith}
use Rattle.std.proofs.lemmas.Bool.Decides.{nat_tests}
use Rattle.std.specs.Result.{is_err}
use Rattle.pattern.specs.declared.types.Name.{Name}
use Rattle.pattern.specs.declared.types.OutOfRange.{OutOfRange}
use Rattle.pattern.specs.File.Made.{name_made, make, made_within, out_beyond}
use Rattle.pattern.specs.File.Types.{max_name}
use Rattle.model_records.specs.Checks.{name_check}
use Rattle.model_file.proofs.check_name.Goals as goal

-- a name is not made of a number that is out of range
not_made : (r : Result Name OutOfRange) (n : ℕ) → name_made r ≡ make max_name n → is_err r ≡ not (leb n max_name)
not_made (Ok i) n h = ap not (made_within max_name n i.number h)
not_made (Err e) n h = ap not (out_beyond max_name n h)

pub returns-then-is_err : goal.returns-then-is_err
unfolding name_check
returns-then-is_err c = grind (arith, nat_tests, not_made _ _ c.try_from.ensures)

pub returns : goal.returns
unfolding name_check
returns c = grind (arith, nat_tests, not_made _ _ c.try_from.ensures)
