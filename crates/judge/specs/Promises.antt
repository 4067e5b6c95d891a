-- What each judgement promises of its finding: the contract of the function that Rattle programs call, and of the one that others link.
-- Assumes nothing.
use Rattle.std.specs.Prelude.{◌≡◌, ◌↔◌, List, ℕ, ◌+◌, ◌-◌, ◌*◌, ◌≤◌, ◌<◌, length}
use Rattle.pattern.specs.Checks.Finding.{Finding, found, refused}
use Rattle.decision.specs.Judged.{Judged, met, unmet}
use Rattle.model_records.specs.declared.Order.{Order}
use Rattle.model.specs.Judging as model
use Rattle.tableau.specs.declared.finding.Closed.{Closed}
use Rattle.tableau.specs.Judging as tableau
use Rattle.tableau.specs.Closure.{Closure, Excluded}

-- the finding is no refusal, and says that the root holds somewhere
abbrev pub Met : Finding Judged → Type 0
Met (found (met lowest number)) = Unit {0}
Met (found unmet) = ⊥
Met (refused number place) = ⊥

-- the tableau isn't refused
abbrev pub IsClosed : Finding Closed → Type 0
IsClosed (found c) = Unit {0}
IsClosed (refused number place) = ⊥

-- any bytes judged as a model of that pattern, with any area, are refused or unmet. "a pattern is the same if its bytes are."
abbrev pub NeverMet : List ℕ → Type 0
NeverMet bs = (ds : List ℕ) (size : ℕ) → Met (model.judging_of bs ds size) → ⊥

-- any bytes judged as a tableau for that pattern, with any area, are refused
abbrev pub NeverClosed : List ℕ → Type 0
NeverClosed bs = (ts : List ℕ) (size : ℕ) → IsClosed (tableau.judging_of bs ts size) → ⊥

-- Judging ds as a model of the pattern bs, with the area that was lent, finds f and leaves the area so.
pub record ModelPromise (bs ds lent : List ℕ) (f : Finding Judged) (left : List ℕ) : Type 0 where
  -- demand 1: any bytes give the definition's finding or refusal, with its numbers, and the definition's bytes in the area
  pub finding : f ≡ model.judging_of bs ds (length lent)
  pub area : left ≡ model.area_after bs f lent
  -- demand 2: met and unmet are found exactly where they are so under the satisfaction relation
  pub meaning : (j : Judged) → (f ≡ found j) ↔ model.Judgement bs ds (length lent) j
  -- 02, Job 5: "Refusal 9 for models is given below that length. Every finding equals the one that 2,040 bytes gave before, refusal 9 apart."
  pub short : length lent < model.area_wanted bs → f ≡ refused 9 0
  pub as_before : model.area_wanted bs ≤ length lent → f ≡ model.gave_before Order.Rising bs ds
  -- demand 3: where a model is met, no tableau closes
  pub tableaux : (lowest number : ℕ) → f ≡ found (met lowest number) → NeverClosed bs

-- Judging ts as a tableau for the pattern bs, with the area that was lent, finds f and leaves the area so.
pub record TableauPromise (bs ts lent : List ℕ) (f : Finding Closed) (left : List ℕ) : Type 0 where
  -- demand 1: likewise
  pub finding : f ≡ tableau.judging_of bs ts (length lent)
  pub area : left ≡ tableau.area_after f lent
  -- demand 2: closed is found, with these counts, exactly where the steps close the branch within the limits
  pub meaning : (c : Closed) → (f ≡ found c) ↔ Closure bs ts (length lent) c
  -- "Most lines is at most 1 + 2 × (steps − clashes)."
  pub bound : (c : Closed) → f ≡ found c → c.most ≤ 1 + 2 * (c.steps - c.clashes)
  -- demand 3: where a tableau closes, no finite data model of any size has a node where the root holds, no model is met, and the clashes are
  -- one more than the forks
  pub excludes : (c : Closed) → f ≡ found c → Excluded bs
  pub models : (c : Closed) → f ≡ found c → NeverMet bs
  pub clashes : (c : Closed) → f ≡ found c → c.clashes ≡ c.forks + 1
