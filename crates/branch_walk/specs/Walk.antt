-- The walk over a branch that stands in lent bytes: what it answers for, and what is found at its end.
-- Assumes nothing.
use Rattle.std.specs.Prelude.{List, [], ◌∷◌, ◌≡◌, ℕ, ◌-◌, ◌≤◌, ◌<◌, length, Result, Ok, Err}
use Rattle.pattern.specs.declared.types.Name.{Name}
use Rattle.pattern.specs.declared.types.Sign.{Sign}
use Rattle.pattern.specs.Checks.Finding.{Finding, refused}
use Rattle.lines.specs.declared.line.Line.{Line}
use Rattle.lines.specs.Lines.{has}
use Rattle.branch_lines.specs.Stored.{lines_from}
use Rattle.steps.specs.Steps.{steps_from}
use Rattle.tableau.specs.declared.finding.Counts.{Counts}
use Rattle.tableau.specs.declared.finding.Closed.{Closed}
use Rattle.tableau.specs.declared.finding.WalkRefusal.{WalkRefusal}
use Rattle.branch_end.specs.Ends.{end_of}
use Rattle.branch_walk.specs.Straight.{remaining, Leaves}
use Rattle.tableau.specs.Run.{run, none, max_lines}
use Rattle.tableau.specs.Judging.{closed_by, walk_number, walk_place}

-- ---- the walk

-- what is counted before step k: each step counts once at most
pub record Bounded (k : ℕ) (c : Counts) : Type 0 where
  pub few_clashes : c.clashes ≤ k
  pub few_forks : c.forks ≤ k
  pub few_most : c.most ≤ max_lines

-- The branch is closed, and step k' is for the next that waits.
pub record ClosedAt (bs ss : List ℕ) (s : ℕ) (xs : List ℕ) (k len waiting : ℕ) (c : Counts) (k' : ℕ) (c' : Counts) (ys : List ℕ) : Type 0 where
  pub later : k < k'
  pub steps_left : k' ≤ s
  pub bounded : Bounded k' c'
  pub leaves : Leaves xs len ys
  pub answers : (ws : List (List Line)) → length ws ≡ waiting
      → remaining bs ss s k (lines_from xs 0 len ∷ ws) c ≡ remaining bs ss s k' ws c'

-- the walk over a branch finds so, with so many right sides waiting
abbrev pub WalkSays : List ℕ → List ℕ → ℕ → List ℕ → ℕ → ℕ → ℕ → Counts → Result (ℕ × Counts) WalkRefusal → List ℕ → Type 0
WalkSays bs ss s xs k len waiting c (Ok (k', c')) ys = ClosedAt bs ss s xs k len waiting c k' c' ys
WalkSays bs ss s xs k len waiting c (Err refusal) ys =
    (ws : List (List Line)) → length ws ≡ waiting
    → remaining bs ss s k (lines_from xs 0 len ∷ ws) c ≡ refused (walk_number refusal) (walk_place refusal)

pub record Walks (bs ss : List ℕ) (s : ℕ) (xs : List ℕ) (k len waiting : ℕ) (c : Counts) (end : Result (ℕ × Counts) WalkRefusal) (ys : List ℕ) : Type 0 where
  pub says : WalkSays bs ss s xs k len waiting c end ys

-- the same of the code's walk, which answers with a number
abbrev pub Walked : List ℕ → List ℕ → ℕ → List ℕ → ℕ → ℕ → ℕ → Counts → ℕ → Counts → List ℕ → Type 0
Walked bs ss s xs k len waiting c answer c' ys = Walks bs ss s xs k len waiting c (end_of answer c') ys

-- ---- the end of the walk

-- what is found of the bytes of s steps, for a pattern of n entries and a start name
abbrev pub steps_found : List ℕ → ℕ → List ℕ → Name → ℕ → Finding Closed
steps_found bs n ss start s = closed_by s (run bs ((has Sign.Positive start (n - 1) ∷ []) ∷ []) (steps_from ss 0 s) 0 none)
