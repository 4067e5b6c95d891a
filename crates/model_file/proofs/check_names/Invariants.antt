-- `model_file::check_names` meets its contract: every record passed has passed its check, by the laws of `each_below`, and the
-- set has their names.
-- Assumes nothing.
use Rattle.std.proofs.Common.{ℕ, ◌<◌, ◌≡◌}
use Rattle.pattern.specs.Checks.Finding.{passes}
use Rattle.names.specs.Set.{SetOf}
use Rattle.model_records.specs.Contents.{is_listed_below}
use Rattle.model_records.specs.Checks.{name_check}
use Rattle.model_file.proofs.check_names.Given as goal

abbrev pub invariant-loop-j : goal.invariant-loop-j
invariant-loop-j l = SetOf (is_listed_below l.d l.j) l.seen × ((i : ℕ) → i < l.j → name_check l.d i ≡ passes)
