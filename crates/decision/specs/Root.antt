-- Whether the root of a pattern holds at a number, in a finite model, and the model with other nodes for the names.
-- Assumes nothing.
use Rattle.std.specs.Prelude.{Bool, ◌&&◌, List, ℕ, ltb}
use Rattle.pattern.specs.Logic.Finite.{Finite}
use Rattle.pattern.specs.Meaning.Expression.{root_of}
use Rattle.decision.specs.Decision.{holds_test}

-- u is a node of the model, and the root holds at it
unfoldable pub root_holds : List ℕ → Finite → ℕ → Bool
root_holds bs F u = ltb u F.size && holds_test F (root_of bs) u

-- the model with these nodes for the names
abbrev pub renamed : Finite → (ℕ → ℕ) → Finite
renamed F named = record { size = F.size; edge = F.edge; label = F.label; value = F.value; named = named }
