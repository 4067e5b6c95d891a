-- Judging a tableau, 01's "Findings": the tableau file, the refusals in their order, the finding, and what becomes of the working area.
-- Assumes nothing.
use Rattle.std.specs.Prelude.{Bool, not, ◌&&◌, ◌||◌, List, [], ◌∷◌, ℕ, ◌+◌, ◌-◌, ◌*◌, leb, ltb, eqb, length, get_or, drop, Result, Ok, Err}
use Rattle.wire.specs.Choice.{pick}
use Rattle.wire.specs.Fields.{text, begins_with, word_at}
use Rattle.wire.specs.Cleared.{cleared}
use Rattle.pattern.specs.declared.types.Sign.{Sign}
use Rattle.pattern.specs.Checks.Finding.{Finding, found, refused, Check, refuses_if, ◌then◌, onward}
use Rattle.pattern.specs.File.Types.{max_name}
use Rattle.pattern.specs.File.Reading.{count_of, pattern_check}
use Rattle.pattern.specs.Meaning.Names.{uses_name}
use Rattle.pattern.specs.File.Reading as reading
use Rattle.lines.specs.declared.line.Line.{Line}
use Rattle.steps.specs.declared.step.Step.{Step}
use Rattle.lines.specs.Lines.{has, name}
use Rattle.steps.specs.Steps.{steps_from}
use Rattle.steps.specs.Steps as steps
use Rattle.tableau.specs.declared.finding.Counts.{Counts}
use Rattle.tableau.specs.declared.finding.Closed.{Closed}
use Rattle.tableau.specs.declared.finding.HeaderRefusal.{HeaderRefusal}
use Rattle.tableau.specs.declared.finding.WalkRefusal.{WalkRefusal}
use Rattle.tableau.specs.declared.finding.TableauRefusal.{TableauRefusal}
use Rattle.tableau.specs.Run.{run, none}

-- ---- "Tableau file: mark `TAB`, 16-bit version 1, start name (one byte), 16-bit step count s (1 to 4096)."
abbrev pub mark : List ℕ
mark = text "TAB"

abbrev pub start_of : List ℕ → ℕ
start_of ts = get_or ts 5 0

abbrev pub step_count : List ℕ → ℕ
step_count ts = word_at ts 6

abbrev pub max_steps : ℕ
max_steps = 4096

-- "The steps are the part of the file after its first 8 bytes"
abbrev pub step_bytes : List ℕ → List ℕ
step_bytes ts = drop 8 ts

abbrev pub steps_of : List ℕ → List Step
steps_of ts = steps_from (step_bytes ts) 0 (step_count ts)

-- "Line 0 is: start name has the root."
abbrev pub start_line : List ℕ → List ℕ → Line
start_line bs ts = has Sign.Positive (name (start_of ts)) (count_of bs - 1)

-- ---- the refusals

-- the bytes that judging a tableau wants of its working area, and zeroes
abbrev pub area_need : ℕ
area_need = 8192

-- "9: area under 8,192 bytes."
abbrev pub area_check : ℕ → Check
area_check size = refuses_if (ltb size area_need) 9 0

-- "15: under 8 bytes or wrong mark."
abbrev pub mark_check : List ℕ → Check
mark_check ts = refuses_if (ltb (length ts) 8 || not (begins_with mark ts)) 15 0

-- "16: version."
abbrev pub version_check : List ℕ → Check
version_check ts = refuses_if (not (eqb (word_at ts 3) 1)) 16 0

-- "17: s out of range or length not 8 + 6s."
abbrev pub count_wrong : List ℕ → Bool
count_wrong ts = eqb (step_count ts) 0 || (ltb max_steps (step_count ts) || not (eqb (length ts) (8 + 6 * step_count ts)))

abbrev pub count_check : List ℕ → Check
count_check ts = refuses_if (count_wrong ts) 17 0

-- "18: start name over 127 or used in the pattern."
abbrev pub start_check : List ℕ → List ℕ → Check
start_check bs ts = refuses_if (ltb max_name (start_of ts) || uses_name bs (start_of ts)) 18 0

unfoldable pub header_check : List ℕ → List ℕ → Check
header_check bs ts = mark_check ts then version_check ts then count_check ts then start_check bs ts

-- "Refused 1 to 8. 9: .. 15: .." up to 18, for a working area of this many bytes
unfoldable pub judging_check : List ℕ → List ℕ → ℕ → Check
judging_check bs ts size = pattern_check bs then area_check size then header_check bs ts

-- ---- the finding

-- the steps of the file, on one branch that has line 0
unfoldable pub run_of : List ℕ → List ℕ → Finding Counts
run_of bs ts = run bs ((start_line bs ts ∷ []) ∷ []) (steps_of ts) 0 none

-- "closed (steps, clashes, forks, most lines on a branch). Steps is s"
abbrev pub closed_by : ℕ → Finding Counts → Finding Closed
closed_by s (found n) = found (record { steps = s; clashes = n.clashes; forks = n.forks; most = n.most })
closed_by s (refused number place) = refused number place

-- "Judging a tableau gives closed"
unfoldable pub judging_of : List ℕ → List ℕ → ℕ → Finding Closed
judging_of bs ts size = onward (judging_check bs ts size) (closed_by (step_count ts) (run_of bs ts))

-- "Refusals 1 to 9 and 15 to 18 leave the area unchanged; refusals 19 to 26 and closed zero its first 8,192 bytes, the rest unchanged."
abbrev pub clears : ℕ → Bool
clears number = leb 19 number && leb number 26

abbrev pub area_after : Finding Closed → List ℕ → List ℕ
area_after (found c) area = cleared area_need area
area_after (refused number place) area = pick (clears number) (cleared area_need area) area

-- ---- the code's answers, by 01's numbers and values
abbrev pub header_number : HeaderRefusal → ℕ
header_number HeaderRefusal.Mark = 15
header_number HeaderRefusal.Version = 16
header_number HeaderRefusal.Count = 17
header_number HeaderRefusal.Start = 18

abbrev pub walk_number : WalkRefusal → ℕ
walk_number (WalkRefusal.Step refusal) = steps.refusal_number refusal
walk_number (WalkRefusal.Lines k) = 23
walk_number (WalkRefusal.Waiting k) = 24
walk_number (WalkRefusal.AllClosed k) = 25
walk_number (WalkRefusal.StillOpen k) = 26

abbrev pub walk_place : WalkRefusal → ℕ
walk_place (WalkRefusal.Step refusal) = steps.refusal_place refusal
walk_place (WalkRefusal.Lines k) = k
walk_place (WalkRefusal.Waiting k) = k
walk_place (WalkRefusal.AllClosed k) = k
walk_place (WalkRefusal.StillOpen k) = k

abbrev pub refusal_number : TableauRefusal → ℕ
refusal_number (TableauRefusal.Pattern refusal) = reading.refusal_number refusal
refusal_number TableauRefusal.Area = 9
refusal_number (TableauRefusal.Header refusal) = header_number refusal
refusal_number (TableauRefusal.Walk refusal) = walk_number refusal

abbrev pub refusal_place : TableauRefusal → ℕ
refusal_place (TableauRefusal.Pattern refusal) = reading.refusal_place refusal
refusal_place TableauRefusal.Area = 0
refusal_place (TableauRefusal.Header refusal) = 0
refusal_place (TableauRefusal.Walk refusal) = walk_place refusal

abbrev pub finding_of : Result Closed TableauRefusal → Finding Closed
finding_of (Ok c) = found c
finding_of (Err refusal) = refused (refusal_number refusal) (refusal_place refusal)
