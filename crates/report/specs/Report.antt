-- The report of what judging or typing finds, the word and the numbers of the line that a program prints, and that line.
-- Assumes nothing.
use Rattle.std.specs.Prelude.{◌≡◌, List, [], ℕ}
use Rattle.wire.specs.Choice.{pick}
use Rattle.wire.specs.Fields.{begins_with}
use Rattle.wire.specs.Onto.{onto}
use Rattle.pattern.specs.Checks.Finding.{Finding, found, refused, written, destination_after}
use Rattle.decision.specs.Judged.{Judged, met, unmet}
use Rattle.model.specs.Judging as model
use Rattle.tableau.specs.declared.finding.Closed.{Closed}
use Rattle.tableau.specs.Judging as tableau
use Rattle.typing.specs.Typing.{typing_of}
use Rattle.line.specs.declared.Report.{Report}
use Rattle.line.specs.Line.{line_of}
use Rattle.line.specs.LineFeed.{without_line_feed}
use Rattle.line.specs.Filling.{LineFilled}

-- "Lent areas are long enough": the bytes of the area that the program lends
abbrev pub area_lent : ℕ
area_lent = 8192

-- the report of a finding of judging a model, and of judging a tableau
abbrev pub model_report : Finding Judged → Report
model_report (found (met lowest number)) = Report.Met lowest number
model_report (found unmet) = Report.Unmet
model_report (refused number place) = Report.Refused number place

abbrev pub tableau_report : Finding Closed → Report
tableau_report (found c) = Report.Closed c.steps c.clashes c.forks c.most
tableau_report (refused number place) = Report.Refused number place

-- "judges a tableau if the latter begins `TAB`, else a model"
abbrev pub report_of : List ℕ → List ℕ → Report
report_of bs xs =
    pick (begins_with tableau.mark xs) (tableau_report (tableau.judging_of bs xs area_lent)) (model_report (model.judging_of bs xs area_lent))

-- the line that is printed of a pattern and a proposal
abbrev pub line_for : List ℕ → List ℕ → List ℕ
line_for bs xs = line_of (report_of bs xs)

-- the bytes that are lent for a typed pattern's file: those of the longest one
abbrev pub file_lent : ℕ
file_lent = 1026

-- what typing finds of bytes that were read, one line feed at whose end is no part of the text
abbrev pub typed_of : List ℕ → Finding (List ℕ)
typed_of bs = typing_of (without_line_feed bs) file_lent

-- the report of a finding of typing
abbrev pub type_report : Finding ℕ → Report
type_report (found length) = Report.Written length
type_report (refused number place) = Report.Refused number place

-- the line that is printed of bytes that were read
abbrev pub typed_line : List ℕ → List ℕ
typed_line bs = line_of (type_report (written (typed_of bs)))

-- the file that is found: no bytes where the text is refused
abbrev pub file_found : Finding (List ℕ) → List ℕ
file_found (found file) = file
file_found (refused number place) = []

-- ---- laws

-- the length that is found: 0 where the text is refused
abbrev pub length_found : Finding ℕ → ℕ
length_found (found length) = length
length_found (refused number place) = 0

-- what becomes of the destination is that the file found stands at its front, and nothing where there is none
pub file_stands : (f : Finding (List ℕ)) (before after : List ℕ) (n : ℕ) → after ≡ destination_after f before → n ≡ length_found (written f)
    → LineFilled (file_found f) before after n
unfolding onto
file_stands (found file) before after n h l = record { stands = h; ends = l }
file_stands (refused number place) before after n h l = record { stands = h; ends = l }
