-- The numbers below a bound: whether some number passes a test, and a check of each in turn.
-- Assumes nothing.
use Rattle.std.specs.Prelude.{◌≡◌, Bool, ◌||◌, ◌⊎◌}
use Rattle.std.proofs.Math.Path.{refl}
use Rattle.std.proofs.Math.Bool.{true, false, or-true}
use Rattle.std.proofs.lemmas.Bool.{false≢true}
use Rattle.std.proofs.Common.{inl, inr, not-suc-le-zero, le_of_suc-le-suc, eq-or-lt_of_le}
use Prim.Native.Nat.{ℕ, zero, suc, ◌+◌, ◌<◌}
use native.Mathlib.Omega.{arith}
use Rattle.std.proofs.Math.Nat.{lt_trans, lt-suc_self}
use Rattle.pattern.specs.Checks.Tests.{or_is_false, or_is_true}
use Rattle.pattern.specs.Checks.Finding.{Check, passes, refuses, ◌then◌, then_passes}

-- some number below n passes the test
unfoldable pub some_below : ℕ → (ℕ → Bool) → Bool
some_below zero test = false
some_below (suc n) test = some_below n test || test n

-- each number below n is checked, in rising order
unfoldable pub each_below : ℕ → (ℕ → Check) → Check
each_below zero check = passes
each_below (suc n) check = each_below n check then check n

-- ---- laws

module _ (test : ℕ → Bool) where
  pub none_below : (n : ℕ) → ((k : ℕ) → k < n → test k ≡ false) → some_below n test ≡ false
  unfolding some_below
  none_below zero none = refl
  none_below (suc n) none = rw (none_below n (λ k h. none k (lt_trans h (lt-suc_self n))), none n (lt-suc_self n))

  pub some_at : (n k : ℕ) → k < n → test k ≡ true → some_below n test ≡ true
  unfolding some_below
  some_at zero k h e = absurd (not-suc-le-zero h)
  some_at (suc n) k h e = go (eq-or-lt_of_le (le_of_suc-le-suc h)) (λ l. some_at n k l e)
    where
      go : (k ≡ n) ⊎ (k < n) → (k < n → some_below n test ≡ true) → some_below n test || test n ≡ true
      go (inl p) f = rw (← p, e) (or-true (some_below k test))
      go (inr l) f = rw (f l)

  pub none_at : (n k : ℕ) → some_below n test ≡ false → k < n → test k ≡ false
  unfolding some_below
  none_at zero k e h = absurd (not-suc-le-zero h)
  none_at (suc n) k e h = go (eq-or-lt_of_le (le_of_suc-le-suc h)) (or_is_false _ _ e)
      (λ l. none_at n k (or_is_false _ _ e).0 l)
    where
      go : (k ≡ n) ⊎ (k < n) → (some_below n test ≡ false) × (test n ≡ false) → (k < n → test k ≡ false) → test k ≡ false
      go (inl p) b f = rw p b.1
      go (inr l) b f = f l

  pub some_next : (n : ℕ) → some_below (n + 1) test ≡ some_below n test || test n
  unfolding some_below
  some_next n = let e : n + 1 ≡ suc n = omega arith in rw e

  pub some_found : (n : ℕ) → some_below n test ≡ true → (k : ℕ) × (k < n) × (test k ≡ true)
  unfolding some_below
  some_found zero h = absurd (false≢true h)
  some_found (suc n) h = go (or_is_true (some_below n test) (test n) h) (some_found n)
    where
      go : (some_below n test ≡ true) ⊎ (test n ≡ true) → (some_below n test ≡ true → (k : ℕ) × (k < n) × (test k ≡ true))
          → (k : ℕ) × (k < suc n) × (test k ≡ true)
      go (inl e) below = let r = below e in (r.0, lt_trans r.1 (lt-suc_self n), r.2)
      go (inr e) below = (n, lt-suc_self n, e)

module _ (check : ℕ → Check) where
  pub each_below_law : (n : ℕ) → ((k : ℕ) → k < n → check k ≡ passes) → each_below n check ≡ passes
  unfolding each_below
  each_below_law zero each = refl
  each_below_law (suc n) each = rw (each_below_law n (λ k h. each k (lt_trans h (lt-suc_self n))), each n (lt-suc_self n))

  -- the first refusal decides
  pub each_first : (n k number place : ℕ) → k < n → ((j : ℕ) → j < k → check j ≡ passes) → check k ≡ refuses number place
      → each_below n check ≡ refuses number place
  unfolding each_below
  each_first zero k number place h e r = absurd (not-suc-le-zero h)
  each_first (suc n) k number place h e r = go (eq-or-lt_of_le (le_of_suc-le-suc h)) (λ l. each_first n k number place l e r)
    where
      go : (k ≡ n) ⊎ (k < n) → (k < n → each_below n check ≡ refuses number place)
          → each_below n check then check n ≡ refuses number place
      go (inl p) f = rw (← p, each_below_law k e, r)
      go (inr l) f = rw (f l)

  pub each_at : (n k : ℕ) → each_below n check ≡ passes → k < n → check k ≡ passes
  unfolding each_below
  each_at zero k e h = absurd (not-suc-le-zero h)
  each_at (suc n) k e h = go (eq-or-lt_of_le (le_of_suc-le-suc h)) (then_passes _ _ e)
      (λ l. each_at n k (then_passes (each_below n check) (check n) e).0 l)
    where
      go : (k ≡ n) ⊎ (k < n) → (each_below n check ≡ passes) × (check n ≡ passes) → (k < n → check k ≡ passes)
          → check k ≡ passes
      go (inl p) b f = rw p b.1
      go (inr l) b f = f l

-- tests that are the same of each number below n are passed alike
pub some_same : (test other : ℕ → Bool) (n : ℕ) → ((k : ℕ) → k < n → test k ≡ other k) → some_below n test ≡ some_below n other
unfolding some_below
some_same test other zero same = refl
some_same test other (suc n) same = rw (some_same test other n (λ k h. same k (lt_trans h (lt-suc_self n))), same n (lt-suc_self n))

-- checks that are the same of each number below n are the same in turn
pub each_same : (check other : ℕ → Check) (n : ℕ) → ((k : ℕ) → k < n → check k ≡ other k) → each_below n check ≡ each_below n other
unfolding each_below
each_same check other zero same = refl
each_same check other (suc n) same = rw (each_same check other n (λ k h. same k (lt_trans h (lt-suc_self n))), same n (lt-suc_self n))
