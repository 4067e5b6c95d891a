-- The test of `specs.Decision` decides what an expression means: it passes at the nodes of a finite model where the expression holds.
-- Assumes nothing.
use Rattle.std.specs.Prelude.{◌≡◌, refl, Bool, true, false, not, ◌&&◌, ◌||◌, ◌↔◌, ◌⊎◌, ℕ, eqb}
use Rattle.std.proofs.Common.{sym, ◌∙◌, ap, inl, inr, eqb-true, eq-eqb}
use Rattle.std.proofs.Math.Bool.{or-true}
use Rattle.std.proofs.lemmas.Bool.{false≢true}
use Rattle.std.proofs.Math.Logic.Iff
use Rattle.pattern.specs.declared.types.Comparison.{Comparison}
use Rattle.pattern.specs.Checks.Tests.{and_is_true, or_is_true}
use Rattle.pattern.specs.Checks.Range.{some_below, some_at, some_found}
use Rattle.pattern.specs.Logic.Syntax.{NExp, PExp}
use Rattle.pattern.specs.Logic.Semantics.{Compared, Leads, Holds}
use Rattle.pattern.specs.Logic.Finite.{Finite, Named, NodeOf, node_same, model_of, naming_of}
use Rattle.decision.specs.Decision.{compared, leads_test, holds_test}

-- each connective of tests has the meaning of its connective of statements
both_decided : {A B : Type 0} (a b : Bool) → ((a ≡ true) ↔ A) → ((b ≡ true) ↔ B) → (a && b ≡ true) ↔ (A × B)
both_decided a b f g = (λ h. let r = and_is_true a b h in (f.0 r.0, g.0 r.1), λ h. rw (f.1 h.0) (g.1 h.1))

all_decided : {A B C : Type 0} (a b c : Bool) → ((a ≡ true) ↔ A) → ((b ≡ true) ↔ B) → ((c ≡ true) ↔ C) → (a && b && c ≡ true) ↔ (A × B × C)
all_decided a b c f g h = (
  λ e. let r = and_is_true (a && b) c e in let q = and_is_true a b r.0 in (f.0 q.0, g.0 q.1, h.0 r.1),
  λ e. rw (f.1 e.0, g.1 e.1) (h.1 e.2),
)

either_decided : {A B : Type 0} (a b : Bool) → ((a ≡ true) ↔ A) → ((b ≡ true) ↔ B) → (a || b ≡ true) ↔ (A ⊎ B)
either_decided {A} {B} a b f g = (λ h. to (or_is_true a b h), back)
  where
    to : (a ≡ true) ⊎ (b ≡ true) → A ⊎ B
    to (inl e) = inl (f.0 e)
    to (inr e) = inr (g.0 e)

    back : A ⊎ B → a || b ≡ true
    back (inl x) = rw (f.1 x)
    back (inr y) = rw (g.1 y) (or-true a)

not_decided : {A : Type 0} (a : Bool) → ((a ≡ true) ↔ A) → (not a ≡ true) ↔ (A → ⊥)
not_decided true f = (λ h x. false≢true h, λ n. absurd (n (f.0 refl)))
not_decided false f = (λ h x. false≢true (f.1 x), λ n. refl)

equal_decided : (m n : ℕ) → (eqb m n ≡ true) ↔ (m ≡ n)
equal_decided m n = (eqb-true m n, eq-eqb m n)

module _ (F : Finite) where
  node_decided : (x y : NodeOf F) → (eqb x.0 y.0 ≡ true) ↔ (x ≡ y)
  node_decided x y = (λ h. node_same F {x = x} {y = y} (eqb-true x.0 y.0 h), λ e. eq-eqb x.0 y.0 (ap (λ (z : NodeOf F). z.0) e))

  some_decided : (test : ℕ → Bool) {P : NodeOf F → Type 0} → ((x : NodeOf F) → (test x.0 ≡ true) ↔ P x)
      → (some_below F.size test ≡ true) ↔ ((x : NodeOf F) × P x)
  some_decided test f = (
    λ h. let r = some_found test F.size h in ((r.0, r.1), (f (r.0, r.1)).0 r.2),
    λ h. some_at test F.size h.0.0 h.0.1 ((f h.0).1 h.1),
  )

  compared_decided : (c : Comparison) (e : ℕ) (y z : NodeOf F)
      → (compared c (eqb (F.value e y.0) (F.value e z.0)) ≡ true) ↔ Compared (model_of F) c e y z
  compared_decided Comparison.Same e y z = equal_decided _ _
  compared_decided Comparison.Differ e y z = not_decided _ (equal_decided _ _)

-- the test decides what 01's "Meaning" says
module _ (F : Finite) (ok : Named F) where
  mutual
    unfolding leads_test holds_test

    leads_decided : (α : PExp) (x y : NodeOf F)
        → (leads_test F α x.0 y.0 ≡ true) ↔ Leads (model_of F) (naming_of F ok) α x y
    leads_decided (PExp.down a) x y = Iff.rfl
    leads_decided (PExp.jump i) x y = node_decided F (naming_of F ok i) y
    leads_decided (PExp.test φ) x y = both_decided _ _ (node_decided F x y) (holds_decided φ x)
    leads_decided (PExp.compose α β) x y =
        some_decided F (λ w. leads_test F α x.0 w && leads_test F β w y.0)
        (λ z. both_decided _ _ (leads_decided α x z) (leads_decided β z y))
    leads_decided (PExp.union α β) x y = either_decided _ _ (leads_decided α x y) (leads_decided β x y)

    pub holds_decided : (φ : NExp) (x : NodeOf F) → (holds_test F φ x.0 ≡ true) ↔ Holds (model_of F) (naming_of F ok) φ x
    holds_decided (NExp.property p) x = Iff.rfl
    holds_decided (NExp.name i) x = node_decided F (naming_of F ok i) x
    holds_decided (NExp.not φ) x = not_decided _ (holds_decided φ x)
    holds_decided (NExp.both φ ψ) x = both_decided _ _ (holds_decided φ x) (holds_decided ψ x)
    holds_decided (NExp.either φ ψ) x = either_decided _ _ (holds_decided φ x) (holds_decided ψ x)
    holds_decided (NExp.after a φ) x =
        some_decided F (λ v. F.edge a x.0 v && holds_test F φ v) (λ y. both_decided _ _ Iff.rfl (holds_decided φ y))
    holds_decided (NExp.compare c e α β) x =
        let ends : ℕ → ℕ → Bool
        = λ v w. leads_test F α x.0 v && leads_test F β x.0 w && compared c (eqb (F.value e v) (F.value e w)) in
        some_decided F (λ v. some_below F.size (λ w. ends v w)) (λ y. some_decided F (λ w. ends y.0 w)
        (λ z. all_decided _ _ _ (leads_decided α x y) (leads_decided β x z) (compared_decided F c e y z)))

  -- 000 has φ ∨ ψ "defined as usual", by ¬ and ∧: what either means in a finite model
  pub either_usual : (φ ψ : NExp) (x : NodeOf F)
      → Holds (model_of F) (naming_of F ok) (NExp.either φ ψ) x ↔ Holds (model_of F) (naming_of F ok) (NExp.not (NExp.both (NExp.not φ) (NExp.not ψ))) x
  either_usual φ ψ x = (there, λ n. back n (holds_test F φ x.0) (holds_test F ψ x.0) refl refl)
    where
      there : Holds (model_of F) (naming_of F ok) (NExp.either φ ψ) x
          → Holds (model_of F) (naming_of F ok) (NExp.not (NExp.both (NExp.not φ) (NExp.not ψ))) x
      there (inl a) n = n.0 a
      there (inr b) n = n.1 b

      fails : (χ : NExp) → holds_test F χ x.0 ≡ false → Holds (model_of F) (naming_of F ok) χ x → ⊥
      fails χ e h = false≢true (sym e ∙ (holds_decided χ x).1 h)

      back : Holds (model_of F) (naming_of F ok) (NExp.not (NExp.both (NExp.not φ) (NExp.not ψ))) x → (a b : Bool)
          → holds_test F φ x.0 ≡ a → holds_test F ψ x.0 ≡ b → Holds (model_of F) (naming_of F ok) (NExp.either φ ψ) x
      back n true b e f = inl ((holds_decided φ x).0 e)
      back n false true e f = inr ((holds_decided ψ x).0 f)
      back n false false e f = absurd (n (fails φ e, fails ψ f))
