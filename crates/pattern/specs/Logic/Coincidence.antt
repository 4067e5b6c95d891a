-- Coincidence: two namings that agree on the names that an expression uses give it the same meaning, in every model. The meanings are
-- equal as types, so that either can stand for the other.
-- Assumes nothing.
use Rattle.std.specs.Prelude.{◌≡◌, ◌⊎◌, ℕ}
use Rattle.pattern.specs.Logic.Syntax.{NExp, PExp}
use Rattle.pattern.specs.Logic.Semantics.{Model, Naming, Compared, Leads, Holds}

-- ---- laws

-- 000: "NOM(ε) denotes the set of nominals appearing in an expression": P holds of each of them
abbrev mutual
  pub OfNames : (ℕ → Type 0) → NExp → Type 0
  OfNames P (NExp.property p) = Unit {0}
  OfNames P (NExp.name i) = P i
  OfNames P (NExp.not φ) = OfNames P φ
  OfNames P (NExp.both φ ψ) = OfNames P φ × OfNames P ψ
  OfNames P (NExp.either φ ψ) = OfNames P φ × OfNames P ψ
  OfNames P (NExp.after a φ) = OfNames P φ
  OfNames P (NExp.compare c e α β) = OfNamesP P α × OfNamesP P β

  pub OfNamesP : (ℕ → Type 0) → PExp → Type 0
  OfNamesP P (PExp.down a) = Unit {0}
  OfNamesP P (PExp.jump i) = P i
  OfNamesP P (PExp.test φ) = OfNames P φ
  OfNamesP P (PExp.compose α β) = OfNamesP P α × OfNamesP P β
  OfNamesP P (PExp.union α β) = OfNamesP P α × OfNamesP P β

module _ (M : Model) (g h : Naming M) where
  mutual
    pub same_holds : (φ : NExp) → OfNames (λ i. g i ≡ h i) φ → (x : M.Node) → Holds M g φ x ≡ Holds M h φ x
    same_holds (NExp.property p) e x = λ k. M.label p x
    same_holds (NExp.name i) e x = λ k. e k ≡ x
    same_holds (NExp.not φ) e x = λ k. same_holds φ e x k → ⊥
    same_holds (NExp.both φ ψ) e x = λ k. same_holds φ e.0 x k × same_holds ψ e.1 x k
    same_holds (NExp.either φ ψ) e x = λ k. same_holds φ e.0 x k ⊎ same_holds ψ e.1 x k
    same_holds (NExp.after a φ) e x = λ k. (y : M.Node) × (M.edge a x y × same_holds φ e y k)
    same_holds (NExp.compare c d α β) e x =
        λ k. (y : M.Node) × ((z : M.Node) × (same_leads α e.0 x y k × same_leads β e.1 x z k × Compared M c d y z))

    pub same_leads : (α : PExp) → OfNamesP (λ i. g i ≡ h i) α → (x y : M.Node) → Leads M g α x y ≡ Leads M h α x y
    same_leads (PExp.down a) e x y = λ k. M.edge a x y
    same_leads (PExp.jump i) e x y = λ k. e k ≡ y
    same_leads (PExp.test φ) e x y = λ k. (x ≡ y) × same_holds φ e x k
    same_leads (PExp.compose α β) e x y = λ k. (z : M.Node) × (same_leads α e.0 x z k × same_leads β e.1 z y k)
    same_leads (PExp.union α β) e x y = λ k. same_leads α e.0 x y k ⊎ same_leads β e.1 x y k
