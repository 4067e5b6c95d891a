-- What expressions mean: source 000's definitions 1 and 3, clause for clause, in their order, with 002's diamond and 02's either; the two
-- clauses of = and ≠ are one, over the two of `Compared`.
-- Assumes nothing.
use Rattle.std.specs.Prelude.{◌≡◌, ◌⊎◌, ℕ}
use Rattle.pattern.specs.declared.types.Comparison.{Comparison}
use Rattle.pattern.specs.Logic.Syntax.{NExp, PExp}

-- 000, definition 1: an abstract hybrid data model ⟨M, ∼, →, label, nom⟩, here with an equivalence relation ∼ for each channel and an
-- accessibility relation → for each axis. M is any type, finite or not. nom stands beside the model, as an argument of its own, since the
-- tableau's fresh names change it and nothing else; that it names a node says that M is not empty.
pub record Model : Type 1 where
  pub Node : Type 0
  pub alike : ℕ → Node → Node → Type 0
  pub alike_refl : (e : ℕ) (x : Node) → alike e x x
  pub alike_sym : (e : ℕ) (x y : Node) → alike e x y → alike e y x
  pub alike_trans : (e : ℕ) (x y z : Node) → alike e x y → alike e y z → alike e x z
  pub edge : ℕ → Node → Node → Type 0
  pub label : ℕ → Node → Type 0

abbrev pub Naming : Model → Type 0
Naming M = ℕ → M.Node

-- y ∼ z on a channel, for ⟨α = β⟩; y ≁ z, for ⟨α ≠ β⟩
abbrev pub Compared : (M : Model) → Comparison → ℕ → M.Node → M.Node → Type 0
Compared M Comparison.Same e y z = M.alike e y z
Compared M Comparison.Differ e y z = M.alike e y z → ⊥

-- 000, definition 3
abbrev mutual
  -- M, x, y ⊨ α
  pub Leads : (M : Model) → Naming M → PExp → M.Node → M.Node → Type 0
  -- M, x, y ⊨ ↓ iff x → y
  Leads M nom (PExp.down a) x y = M.edge a x y
  -- M, x, y ⊨ i iff nom(i) = y
  Leads M nom (PExp.jump i) x y = nom i ≡ y
  -- M, x, y ⊨ [φ] iff x = y and M, x ⊨ φ
  Leads M nom (PExp.test φ) x y = (x ≡ y) × Holds M nom φ x
  -- M, x, y ⊨ αβ iff there is some z ∈ M s.t. M, x, z ⊨ α and M, z, y ⊨ β
  Leads M nom (PExp.compose α β) x y = (z : M.Node) × (Leads M nom α x z × Leads M nom β z y)
  -- M, x, y ⊨ α ∪ β iff M, x, y ⊨ α or M, x, y ⊨ β
  Leads M nom (PExp.union α β) x y = Leads M nom α x y ⊎ Leads M nom β x y

  -- M, x ⊨ φ
  pub Holds : (M : Model) → Naming M → NExp → M.Node → Type 0
  -- M, x ⊨ p iff p ∈ label(x)
  Holds M nom (NExp.property p) x = M.label p x
  -- M, x ⊨ i iff nom(i) = x
  Holds M nom (NExp.name i) x = nom i ≡ x
  -- M, x ⊨ ¬φ iff M, x ⊭ φ
  Holds M nom (NExp.not φ) x = Holds M nom φ x → ⊥
  -- M, x ⊨ φ ∧ ψ iff M, x ⊨ φ and M, x ⊨ ψ
  Holds M nom (NExp.both φ ψ) x = Holds M nom φ x × Holds M nom ψ x
  -- 02: "it holds where at least one part holds": M, x ⊨ φ ∨ ψ iff M, x ⊨ φ or M, x ⊨ ψ
  Holds M nom (NExp.either φ ψ) x = Holds M nom φ x ⊎ Holds M nom ψ x
  -- 002, definition 2.3: M, x ⊨ ⟨a⟩φ iff there is some y s.t. x → y on a and M, y ⊨ φ
  Holds M nom (NExp.after a φ) x = (y : M.Node) × (M.edge a x y × Holds M nom φ y)
  -- M, x ⊨ ⟨α = β⟩ iff there are y, z ∈ M s.t. M, x, y ⊨ α, M, x, z ⊨ β and y ∼ z; ⟨α ≠ β⟩ likewise with y ≁ z
  Holds M nom (NExp.compare c e α β) x =
      (y : M.Node) × ((z : M.Node) × (Leads M nom α x y × Leads M nom β x z × Compared M c e y z))
