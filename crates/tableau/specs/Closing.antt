-- When a tableau closes, put declaratively: 01's "Lines and steps", its last paragraph.
-- Assumes nothing.
use Rattle.std.specs.Prelude.{Bool, List, [], ◌∷◌, ◌++◌, ℕ, ◌+◌, ◌-◌, ◌≤◌, max, eqb, length}
use Rattle.lines.specs.declared.line.Line.{Line}
use Rattle.rules.specs.declared.conclusion.Conclusion.{Conclusion}
use Rattle.rules.specs.Sides.{sides}
use Rattle.rules.specs.Rules.{rule_at}
use Rattle.steps.specs.declared.step.Step.{Step}
use Rattle.steps.specs.Steps.{Follows}
use Rattle.tableau.specs.Run.{max_lines, max_waiting, longest, further, one_if, at_clash}

mutual
  -- The steps close the branch, up to those that are left: the first follows a rule, and those behind it close the sides of what it concludes.
  pub data Closes (bs : List ℕ) : List Line → List Step → List Step → Type 0 where
    step : {b : List Line} {s : Step} {ss left : List Step} (c : Conclusion) → Follows bs b s c → CloseEach bs b (sides c) ss left
        → Closes bs b (s ∷ ss) left

  -- "At a fork each side is checked like a whole branch, left steps first; both begin from the lines before it. A clash ends its branch."
  pub data CloseEach (bs : List ℕ) : List Line → List (List Line) → List Step → List Step → Type 0 where
    none : {b : List Line} {ss : List Step} → CloseEach bs b [] ss ss
    side : {b new : List Line} {more : List (List Line)} {ss next left : List Step}
        → Closes bs (b ++ new) ss next → CloseEach bs b more next left → CloseEach bs b (new ∷ more) ss left

-- "most lines is the largest number of lines that a branch has at its clash"
abbrev mutual
  pub most_lines : {bs : List ℕ} {b : List Line} {ss left : List Step} → Closes bs b ss left → ℕ
  most_lines (step {b} c f e) = max (at_clash (length b) (sides c)) (most_of_each e)

  pub most_of_each : {bs : List ℕ} {b : List Line} {news : List (List Line)} {ss left : List Step} → CloseEach bs b news ss left → ℕ
  most_of_each none = 0
  most_of_each (side d e) = max (most_lines d) (most_of_each e)

-- 01's limits are kept while so many right sides wait: no branch has over 1,024 lines, and the sides behind the first find places among the
-- 64; while a side is checked those behind it wait too
abbrev mutual
  pub Keeps : {bs : List ℕ} {b : List Line} {ss left : List Step} → ℕ → Closes bs b ss left → Type 0
  Keeps waiting (step {b} c f e) = (length b + longest (sides c) ≤ max_lines) × (further c ≤ max_waiting - waiting) × KeepsEach waiting e

  pub KeepsEach : {bs : List ℕ} {b : List Line} {news : List (List Line)} {ss left : List Step} → ℕ → CloseEach bs b news ss left → Type 0
  KeepsEach waiting none = Unit {0}
  KeepsEach waiting (side {more = more} d e) = Keeps (waiting + length more) d × KeepsEach waiting e

-- "clashes is the number of steps whose rule says clash", "forks of those whose rule forks the branch in two (rule 13 doesn't)"
abbrev pub says_clash : ℕ → Bool
says_clash rule = eqb (rule_at rule).side_count 0

abbrev pub says_fork : ℕ → Bool
says_fork rule = eqb (rule_at rule).side_count 2

-- the number of the steps whose rule says so
unfoldable pub steps_that : (ℕ → Bool) → List Step → ℕ
steps_that says [] = 0
steps_that says (s ∷ ss) = one_if (says s.rule) + steps_that says ss
