-- What the entries of a pattern mean by source 000's satisfaction of the expressions that they stand for.
-- Assumes nothing.
use Rattle.std.specs.Prelude.{List, ℕ}
use Rattle.pattern.specs.Logic.Semantics.{Model, Naming, Leads, Holds}
use Rattle.pattern.specs.Meaning.Expression.{node_at, path_at}

module _ (M : Model) (nom : Naming M) where
  -- entry k of the pattern holds at u; reference k leads from u to v
  abbrev pub HoldsAt : List ℕ → ℕ → M.Node → Type 0
  HoldsAt bs k u = Holds M nom (node_at bs k) u

  abbrev pub LeadsAt : List ℕ → ℕ → M.Node → M.Node → Type 0
  LeadsAt bs k u v = Leads M nom (path_at bs k) u v
