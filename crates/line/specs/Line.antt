-- The bytes of the line that a program prints, for each report.
-- Assumes nothing.
use Rattle.std.specs.Prelude.{List, [], ◌∷◌, ◌++◌, ℕ, zero, suc, ◌+◌, ◌/◌, ◌%◌, ltb}
use Prim.Native.Char.{code}
use Rattle.wire.specs.Choice.{pick}
use Rattle.wire.specs.Fields.{text}
use Rattle.line.specs.declared.Report.{Report}

-- the digits of a number, at most so many, without leading zeros: the last one, and before it those of the tenth of a number over 9
unfoldable pub digits_within : ℕ → ℕ → List ℕ
digits_within zero n = []
digits_within (suc most) n = let before = digits_within most (n / 10) in pick (ltb n 10) [] before ++ ((code "0" + n % 10) ∷ [])

-- a number in decimal: it has no more than n + 1 digits
abbrev pub decimal : ℕ → List ℕ
decimal n = digits_within (suc n) n

-- a number in a line: one space before it
abbrev pub number : ℕ → List ℕ
number n = text " " ++ decimal n

-- "one line: `closed` and four counts, `met` node number, `unmet`, or `refused` number place"; and of a typed pattern `written` length, or
-- `refused` number place
abbrev pub line_of : Report → List ℕ
line_of (Report.Closed steps clashes forks most) = text "closed" ++ number steps ++ number clashes ++ number forks ++ number most ++ text "\n"
line_of (Report.Met lowest nodes) = text "met" ++ number lowest ++ number nodes ++ text "\n"
line_of Report.Unmet = text "unmet\n"
line_of (Report.Written length) = text "written" ++ number length ++ text "\n"
line_of (Report.Refused refusal place) = text "refused" ++ number refusal ++ number place ++ text "\n"
