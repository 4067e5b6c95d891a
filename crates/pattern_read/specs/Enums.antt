-- What the answer of a check of the reader stands for.
-- Assumes nothing.
use Rattle.std.specs.Prelude.{Result, Ok, Err, ⊤}
use Rattle.pattern.specs.declared.finding.PatternRefusal.{PatternRefusal}
use Rattle.pattern.specs.Checks.Finding.{Check, passes, refuses}
use Rattle.pattern.specs.File.Reading.{refusal_number, refusal_place}

-- the outcome of a check
abbrev pub check_of : Result ⊤ PatternRefusal → Check
check_of (Ok u) = passes
check_of (Err refusal) = refuses (refusal_number refusal) (refusal_place refusal)
