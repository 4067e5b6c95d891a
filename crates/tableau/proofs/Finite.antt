-- Demand 3 for tableaux, of the finite data models.
-- Assumes nothing.
use Rattle.std.specs.Prelude.{List, ℕ}
use Rattle.pattern.specs.Logic.Finite.{model_of, naming_of}
use Rattle.tableau.specs.declared.finding.Closed.{Closed}
use Rattle.tableau.specs.Closure.{Closure, Excluded}
use Rattle.tableau.specs.Soundness.{excludes}

-- a closed tableau shows that no finite data model, of any size, has a node where the root holds
pub excludes_finite : {bs ts : List ℕ} {size : ℕ} {c : Closed} → Closure bs ts size c → Excluded bs
excludes_finite closure = λ F ok x. excludes closure (model_of F) (naming_of F ok) x
