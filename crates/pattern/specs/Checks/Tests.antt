-- What the outcome of a test that is put together of two says of each, and back.
-- Assumes nothing.
use Rattle.std.specs.Prelude.{Result, Ok, Err, IsErrAnd, ◌≡◌, refl, Bool, true, false, ◌&&◌, ◌||◌, ◌↔◌, ◌⊎◌, ℕ, eqb}
use Rattle.std.proofs.Common.{sym, ap, ◌∙◌, inl, inr, eqb-true, eq-eqb, ne_eqb}
use Rattle.std.proofs.Math.Bool.{or-true, or-false}
use Rattle.std.proofs.lemmas.Bool.{eqb-false}

pub or_is_false : (a b : Bool) → a || b ≡ false → (a ≡ false) × (b ≡ false)
or_is_false true b h = (h, cc)
or_is_false false b h = (refl, h)

pub or_is_true : (a b : Bool) → a || b ≡ true → (a ≡ true) ⊎ (b ≡ true)
or_is_true true b h = inl refl
or_is_true false b h = inr h

pub and_is_true : (a b : Bool) → a && b ≡ true → (a ≡ true) × (b ≡ true)
and_is_true true b h = (refl, h)
and_is_true false b h = (h, cc)

pub or_left : (a b : Bool) → a ≡ true → a || b ≡ true
or_left a b h = rw h

pub or_right : (a b : Bool) → b ≡ true → a || b ≡ true
or_right true b h = refl
or_right false b h = h

-- tests that pass for the same reason are the same
pub same_tests : (a b : Bool) → (a ≡ true) ↔ (b ≡ true) → a ≡ b
same_tests true b h = sym (h.0 refl)
same_tests false true h = h.1 refl
same_tests false false h = refl

-- what the answer to a test says of a value that is equal to the one that was tested
pub asked : {A : Type 0} (f : A → Bool) {a b : A} {r t : Bool} → a ≡ b → r ≡ f a → r ≡ t → f b ≡ t
asked f e h k = ap f (sym e) ∙ (sym h ∙ k)

-- which of two numbers is compared with the other, and which of two tests stands first, makes no difference
pub turned : (v w : ℕ) (b : Bool) → eqb v w || b ≡ b || eqb w v
turned v w b = go (eqb w v) refl
  where
    go : (t : Bool) → eqb w v ≡ t → eqb v w || b ≡ b || eqb w v
    go true e = rw (e, eq-eqb v w (sym (eqb-true w v e))) (sym (or-true b))
    go false e = rw (e, ne_eqb v w (λ p. eqb-false w v e (sym p))) (sym (or-false b))

-- what `?` hands back of an error is that error
pub err_is : {A E : Type 0} (r : Result A E) (e : E) → IsErrAnd r (λ f. f ≡ e) → r ≡ Err e
err_is (Ok a) e h = absurd h
err_is (Err f) e h = ap Err h
