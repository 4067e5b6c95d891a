-- What it is for judging a tableau to give closed, put declaratively, and what that shows.
-- Assumes nothing.
use Rattle.std.specs.Prelude.{◌≡◌, true, false, List, [], ◌∷◌, ℕ, ◌+◌, ◌*◌, ◌≤◌, ◌<◌, length}
use Rattle.wire.specs.Fields.{begins_with, word_at}
use Rattle.pattern.specs.Logic.Semantics.{Model, Naming, Holds}
use Rattle.pattern.specs.Logic.Finite.{Finite, Named, NodeOf, model_of, naming_of}
use Rattle.pattern.specs.File.Types.{max_name}
use Rattle.pattern.specs.File.Reading.{count_of}
use Rattle.pattern.specs.File.Valid.{Valid}
use Rattle.pattern.specs.Meaning.Expression.{root_of}
use Rattle.pattern.specs.Meaning.Names.{uses_name}
use Rattle.tableau.specs.declared.finding.Closed.{Closed}
use Rattle.tableau.specs.Closing.{Closes, most_lines, Keeps, says_clash, says_fork, steps_that}
use Rattle.tableau.specs.Judging.{mark, start_of, step_count, max_steps, steps_of, start_line, area_need}

-- a header that is refused by none of 15 to 18
pub record ValidHeader (bs ts : List ℕ) : Type 0 where
  pub marked : begins_with mark ts ≡ true
  pub version_one : word_at ts 3 ≡ 1
  pub some_step : 0 < step_count ts
  pub steps_limited : step_count ts ≤ max_steps
  pub length_is : length ts ≡ 8 + 6 * step_count ts
  pub start_in_range : start_of ts ≤ max_name
  pub start_unused : uses_name bs (start_of ts) ≡ false

-- "closed (steps, clashes, forks, most lines on a branch)": nothing was to be refused, and the steps of the file close the branch that has
-- line 0, with none left over and limits kept; the counts are of those steps, and the most lines that a branch has at its clash.
pub record Closure (bs ts : List ℕ) (size : ℕ) (c : Closed) : Type 0 where
  pub pattern_valid : Valid bs (count_of bs)
  pub area_long : area_need ≤ size
  pub header_valid : ValidHeader bs ts
  pub closes : Closes bs (start_line bs ts ∷ []) (steps_of ts) []
  pub keeps : Keeps 0 closes
  pub most_is : c.most ≡ most_lines closes
  pub steps_is : c.steps ≡ step_count ts
  pub clashes_is : c.clashes ≡ steps_that says_clash (steps_of ts)
  pub forks_is : c.forks ≡ steps_that says_fork (steps_of ts)

-- 02, Job 11: "A closed tableau must exclude the root in every data model of source 000's definition 1, with infinitely many nodes allowed and
-- each channel any equivalence relation on them."
abbrev pub ExcludedEverywhere : List ℕ → Type 1
ExcludedEverywhere bs = (M : Model) (nom : Naming M) (x : M.Node) → Holds M nom (root_of bs) x → ⊥

-- Demand 3: no finite data model, of any size, has a node where the root holds
abbrev pub Excluded : List ℕ → Type 0
Excluded bs = (F : Finite) (ok : Named F) (x : NodeOf F) → Holds (model_of F) (naming_of F ok) (root_of bs) x → ⊥
