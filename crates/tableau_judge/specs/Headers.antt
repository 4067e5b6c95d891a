-- The first 8 bytes of a tableau file as the code reads them.
-- Assumes nothing.
use Rattle.std.specs.Prelude.{List, ℕ, Result, Ok, Err}
use Rattle.pattern.specs.Checks.Finding.{Finding, found, refused, unless}
use Rattle.lines.specs.Lines.{name}
use Rattle.tableau.specs.Judging.{start_of, step_count, header_check, header_number}
use Rattle.tableau.specs.declared.finding.HeaderRefusal.{HeaderRefusal}
use Rattle.tableau_judge.specs.declared.header.Header.{Header}

-- what the first 8 bytes say, where they aren't refused
abbrev pub header_at : List ℕ → Header
header_at ts = record { start = name (start_of ts); steps = step_count ts }

unfoldable pub header_of : List ℕ → List ℕ → Finding Header
header_of bs ts = unless (header_check bs ts) (header_at ts)

-- the code's answer, by 01's numbers and values
abbrev pub header_finding : Result Header HeaderRefusal → Finding Header
header_finding (Ok h) = found h
header_finding (Err refusal) = refused (header_number refusal) 0
