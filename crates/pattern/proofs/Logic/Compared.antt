-- Comparisons of nodes, in every data model: what symmetry and transitivity of an equivalence are for.
-- Assumes nothing.
use Rattle.std.specs.Prelude.{ℕ}
use Rattle.pattern.specs.declared.types.Comparison.{Comparison}
use Rattle.pattern.specs.Logic.Semantics.{Model, Compared}

module _ (M : Model) (e : ℕ) where
  -- the nodes exchanged: symmetry, for rule 8
  pub compared_sym : (c : Comparison) (x y : M.Node) → Compared M c e x y → Compared M c e y x
  compared_sym Comparison.Same x y h = M.alike_sym e x y h
  compared_sym Comparison.Differ x y h = λ a. h (M.alike_sym e y x a)

  -- the first node replaced by one that is alike: transitivity, and for differ symmetry too, for rule 20
  pub compared_on : (c : Comparison) (x y z : M.Node) → M.alike e x y → Compared M c e y z → Compared M c e x z
  compared_on Comparison.Same x y z a h = M.alike_trans e x y z a h
  compared_on Comparison.Differ x y z a h = λ b. h (M.alike_trans e y x z (M.alike_sym e x y a) b)
