-- Checking the steps of a tableau one after the other, with the branches that are still open: 01's "Findings", "Then per step".
-- Assumes nothing.
use Rattle.std.specs.Prelude.{Bool, List, [], ◌∷◌, ◌++◌, ℕ, suc, ◌+◌, ◌-◌, max, eqb, ltb, length}
use Rattle.wire.specs.Choice.{pick}
use Rattle.pattern.specs.Checks.Finding.{Finding, found, refused, Check, refuses_if, ◌then◌, onward, thereupon}
use Rattle.lines.specs.declared.line.Line.{Line}
use Rattle.rules.specs.declared.conclusion.Conclusion.{Conclusion}
use Rattle.rules.specs.Sides.{sides}
use Rattle.steps.specs.declared.step.Step.{Step}
use Rattle.steps.specs.Steps.{stepping}
use Rattle.tableau.specs.declared.finding.Counts.{Counts}

-- 01's limits: "over 1,024 lines", "64 right sides already waiting"
abbrev pub max_lines : ℕ
max_lines = 1024

abbrev pub max_waiting : ℕ
max_waiting = 64

-- the most lines that a side adds
abbrev pub longest : List (List Line) → ℕ
longest [] = 0
longest (new ∷ more) = max (length new) (longest more)

-- "23, the step would bring the branch over 1,024 lines"
abbrev pub lines_check : List Line → Conclusion → ℕ → Check
lines_check b c k = refuses_if (ltb max_lines (length b + longest (sides c))) 23 k

-- the sides that wait while the first is checked
abbrev pub further : Conclusion → ℕ
further c = length (sides c) - 1

-- "24, fork with 64 right sides already waiting": more sides than there are places left among the 64
abbrev pub waiting_check : ℕ → Conclusion → ℕ → Check
waiting_check waiting c k = refuses_if (ltb (max_waiting - waiting) (further c)) 24 k

abbrev pub limits_check : List Line → ℕ → Conclusion → ℕ → Check
limits_check b waiting c k = lines_check b c k then waiting_check waiting c k

-- What sides leave open in the place of their branch: "both begin from the lines before it"; where there is none, nothing: "A clash ends
-- its branch."
abbrev pub branches : List Line → List (List Line) → List (List Line)
branches b [] = []
branches b (new ∷ more) = (b ++ new) ∷ branches b more

abbrev pub none : Counts
none = record { clashes = 0; forks = 0; most = 0 }

abbrev pub one_if : Bool → ℕ
one_if test = pick test 1 0

-- the lines of a branch at a step that has no side, its clash
abbrev pub at_clash : ℕ → List (List Line) → ℕ
at_clash lines [] = lines
at_clash lines (new ∷ more) = 0

-- what is counted at a step with these sides, on a branch of so many lines: a clash has none, and a fork has two; "most lines is the largest
-- number of lines that a branch has at its clash"
abbrev pub counted : ℕ → List (List Line) → Counts → Counts
counted lines news n =
    record {
      clashes = n.clashes + one_if (eqb (length news) 0);
      forks = n.forks + one_if (eqb (length news) 2);
      most = max n.most (at_clash lines news);
    }

-- The steps from number k on, with the open branches, the one being checked first and the right sides that wait behind it: "25, all branches
-- already closed", 19 to 24, and "26, place s: a branch still open".
unfoldable pub run : List ℕ → List (List Line) → List Step → ℕ → Counts → Finding Counts
run bs [] [] k n = found n
run bs [] (s ∷ ss) k n = refused 25 k
run bs (b ∷ waiting) [] k n = refused 26 k
run bs (b ∷ waiting) (s ∷ ss) k n =
    thereupon (stepping bs b s k)
    (λ c. onward (limits_check b (length waiting) c k)
    (run bs (branches b (sides c) ++ waiting) ss (suc k) (counted (length b) (sides c) n)))
