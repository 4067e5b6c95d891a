-- The straight part of a branch that stands in lent bytes: what it is lent, and what each of its functions answers for.
-- Assumes nothing.
use Rattle.std.specs.Prelude.{List, ◌∷◌, ◌≡◌, ℕ, ◌+◌, ◌-◌, ◌*◌, ◌≤◌, ◌<◌, length, Result, Ok, Err}
use Rattle.pattern.specs.Checks.Finding.{Finding, found, refused}
use Rattle.lines.specs.declared.line.Line.{Line}
use Rattle.rules.specs.declared.conclusion.Conclusion.{Conclusion}
use Rattle.branch_lines.specs.Stored.{line_at, lines_from}
use Rattle.steps.specs.AtStep.{AtStep}
use Rattle.steps.specs.Steps.{step_at, steps_from, stepping}
use Rattle.tableau.specs.declared.finding.Counts.{Counts}
use Rattle.tableau.specs.declared.finding.WalkRefusal.{WalkRefusal}
use Rattle.branch_walk.specs.declared.straight.Stop.{Stop}
use Rattle.branch_step.specs.declared.Advance.{Advance}
use Rattle.tableau.specs.Run.{run, max_lines}
use Rattle.tableau.specs.Judging.{max_steps, area_need, walk_number, walk_place}

-- What the walk is lent: a pattern, the bytes of s steps of which the next is step k, and an area with a branch of len lines.
pub record WalkLent (bs ss : List ℕ) (s : ℕ) (xs : List ℕ) (k len : ℕ) : Type 0 where
  pub standing : AtStep bs xs len
  pub steps_long : length ss ≡ 6 * s
  pub few_steps : s ≤ max_steps
  pub area_long : length xs ≡ area_need
  pub few_lines : len ≤ max_lines
  pub steps_left : k ≤ s

-- what is found from step k on, with these branches open
abbrev pub remaining : List ℕ → List ℕ → ℕ → ℕ → List (List Line) → Counts → Finding Counts
remaining bs ss s k branches c = run bs branches (steps_from ss k (s - k)) k c

-- the first len lines are as they were
abbrev pub Leaves : List ℕ → ℕ → List ℕ → Type 0
Leaves xs len ys = (j : ℕ) → j < len → line_at ys j ≡ line_at xs j

-- From step k and the branch of len lines in xs, steps that add lines lead to step k' and the branch of len' lines in ys.
pub record Onto (bs ss : List ℕ) (s : ℕ) (xs : List ℕ) (k len : ℕ) (ys : List ℕ) (k' len' : ℕ) : Type 0 where
  pub lent : WalkLent bs ss s ys k' len'
  pub later : k ≤ k'
  pub longer : len ≤ len'
  pub leaves : Leaves xs len ys
  pub same : (ws : List (List Line)) (c : Counts)
      → remaining bs ss s k (lines_from xs 0 len ∷ ws) c ≡ remaining bs ss s k' (lines_from ys 0 len' ∷ ws) c

-- the walk is refused, whatever waits and was counted
abbrev pub Refuses : List ℕ → List ℕ → ℕ → List ℕ → ℕ → ℕ → WalkRefusal → Type 0
Refuses bs ss s xs k len refusal =
    (ws : List (List Line)) (c : Counts) → remaining bs ss s k (lines_from xs 0 len ∷ ws) c ≡ refused (walk_number refusal) (walk_place refusal)

-- step k is a step, and concludes this on the branch of len lines
abbrev pub StepConcludes : List ℕ → List ℕ → ℕ → List ℕ → ℕ → ℕ → Conclusion → Type 0
StepConcludes bs ss s xs k len c = (k < s) × (stepping bs (lines_from xs 0 len) (step_at ss k) k ≡ found c)

-- the straight part of a branch ends so
abbrev pub StopSays : List ℕ → List ℕ → ℕ → List ℕ → ℕ → ℕ → Result Stop WalkRefusal → List ℕ → Type 0
StopSays bs ss s xs k len (Ok (Stop.Clash k' len')) ys = Onto bs ss s xs k len ys k' len' × StepConcludes bs ss s ys k' len' Conclusion.Clash
StopSays bs ss s xs k len (Ok (Stop.Fork k' len' l r)) ys =
    Onto bs ss s xs k len ys k' len' × (StepConcludes bs ss s ys k' len' (Conclusion.Fork l r) × (len' < max_lines))
StopSays bs ss s xs k len (Err refusal) ys = Refuses bs ss s xs k len refusal

-- StopSays computes by the case of the stop, and a law can't find its arguments under it: the record keeps them. So do Advances and Walks.
pub record Stops (bs ss : List ℕ) (s : ℕ) (xs : List ℕ) (k len : ℕ) (stop : Result Stop WalkRefusal) (ys : List ℕ) : Type 0 where
  pub says : StopSays bs ss s xs k len stop ys

-- one step leads on, or ends the straight part
abbrev pub AdvanceSays : List ℕ → List ℕ → ℕ → List ℕ → ℕ → ℕ → Result Advance WalkRefusal → List ℕ → Type 0
AdvanceSays bs ss s xs k len (Ok (Advance.Grown len')) ys = Onto bs ss s xs k len ys (k + 1) len'
AdvanceSays bs ss s xs k len (Ok Advance.Clash) ys = Stops bs ss s xs k len (Ok (Stop.Clash k len)) ys
AdvanceSays bs ss s xs k len (Ok (Advance.Fork l r)) ys = Stops bs ss s xs k len (Ok (Stop.Fork k len l r)) ys
AdvanceSays bs ss s xs k len (Err refusal) ys = Stops bs ss s xs k len (Err refusal) ys

pub record Advances (bs ss : List ℕ) (s : ℕ) (xs : List ℕ) (k len : ℕ) (advance : Result Advance WalkRefusal) (ys : List ℕ) : Type 0 where
  pub says : AdvanceSays bs ss s xs k len advance ys
