-- The outcome of the code's checks.
-- Assumes nothing.
use Rattle.std.specs.Prelude.{Result, Ok, Err}
use Rattle.pattern.specs.Checks.Finding.{Check, passes, refuses}
use Rattle.model.specs.declared.finding.JudgeRefusal.{JudgeRefusal}
use Rattle.model.specs.Judging.{refusal_number, refusal_place}

abbrev pub check_of : Result Unit JudgeRefusal → Check
check_of (Ok u) = passes
check_of (Err refusal) = refuses (refusal_number refusal) (refusal_place refusal)
