-- Comparisons of nodes, in every data model: what reflexivity of an equivalence is for, and what needs none of its three laws.
-- Assumes nothing.
use Rattle.std.specs.Prelude.{◌≡◌, ℕ}
use Rattle.std.proofs.Common.{subst}
use Rattle.pattern.specs.declared.types.Comparison.{Comparison}
use Rattle.pattern.specs.File.Types.{other_of}
use Rattle.pattern.specs.Logic.Semantics.{Model, Compared}

-- ---- laws

module _ (M : Model) (e : ℕ) where
  -- one node by two names is alike: reflexivity, for rules 18 and 23
  pub alike_is : (x y : M.Node) → x ≡ y → M.alike e x y
  alike_is x y p = subst (λ (z : M.Node). M.alike e x z) p (M.alike_refl e x)

  -- of same and differ, not both fail: for rule 16. Which of them holds need not be decided
  pub compared_other : (c : Comparison) (x y : M.Node) → (Compared M c e x y → ⊥) → (Compared M (other_of c) e x y → ⊥) → ⊥
  compared_other Comparison.Same x y h other = other h
  compared_other Comparison.Differ x y h other = h other
