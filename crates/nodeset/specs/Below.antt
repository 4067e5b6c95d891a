-- The numbers below a bound that pass a test: the lowest, and how many there are.
-- Assumes nothing.
use Rattle.std.specs.Prelude.{◌≡◌, refl, Bool, true, false, ◌||◌, ◌⊎◌, ℕ, zero, suc, ◌+◌, ◌-◌, ◌≤◌, ◌<◌, ltb}
use Rattle.std.proofs.Common.{sym, ◌∙◌, ap, true≢false, inl, inr, arith, not-suc-le-zero, le_of_suc-le-suc, eq-or-lt_of_le, lt_of_lt_of_le, zero-lt-suc, lt-suc_self, ltb-true, ltb-false}
use Rattle.std.proofs.Math.Nat.{le_step}
use Rattle.wire.specs.Choice.{pick}

-- 01, "lowest node": the lowest number below n that passes; n itself where none does
unfoldable pub lowest_below : ℕ → (ℕ → Bool) → ℕ
lowest_below zero test = 0
lowest_below (suc n) test = pick (test 0) 0 (suc (lowest_below n (λ k. test (suc k))))

-- 01, "number of nodes": how many numbers below n pass
unfoldable pub count_below : ℕ → (ℕ → Bool) → ℕ
count_below zero test = 0
count_below (suc n) test = count_below n test + pick (test n) 1 0

-- ---- laws

-- ---- the lowest
pub lowest_le : (n : ℕ) (test : ℕ → Bool) → lowest_below n test ≤ n
unfolding lowest_below
lowest_le zero test = omega arith
lowest_le (suc n) test = go (test 0) (lowest_le n (λ k. test (suc k)))
  where
    go : (b : Bool) {l : ℕ} → l ≤ n → pick b 0 (suc l) ≤ suc n
    go true h = omega arith
    go false h = omega arith

pub lowest_holds : (n : ℕ) (test : ℕ → Bool) → lowest_below n test < n → test (lowest_below n test) ≡ true
unfolding lowest_below
lowest_holds zero test h = absurd (not-suc-le-zero h)
lowest_holds (suc n) test h = go (test 0) refl (lowest_holds n (λ k. test (suc k))) h
  where
    go : (b : Bool) {l : ℕ} → test 0 ≡ b → (l < n → test (suc l) ≡ true) → pick b 0 (suc l) < suc n → test (pick b 0 (suc l)) ≡ true
    go true e f g = e
    go false e f g = f (le_of_suc-le-suc g)

pub lowest_first : (n : ℕ) (test : ℕ → Bool) (k : ℕ) → k < lowest_below n test → test k ≡ false
unfolding lowest_below
lowest_first zero test k h = absurd (not-suc-le-zero h)
lowest_first (suc n) test zero h = go (test 0) _ refl h
  where
    go : (b : Bool) (l : ℕ) → test 0 ≡ b → 0 < pick b 0 l → test 0 ≡ false
    go true l e g = absurd (not-suc-le-zero g)
    go false l e g = e
lowest_first (suc n) test (suc k) h = lowest_first n (λ j. test (suc j)) k (go (test 0) h)
  where
    go : (b : Bool) {l : ℕ} → suc k < pick b 0 (suc l) → k < l
    go true g = absurd (not-suc-le-zero g)
    go false g = le_of_suc-le-suc g

pub lowest_is : (n : ℕ) (test : ℕ → Bool) (l : ℕ) → l < n → test l ≡ true → ((k : ℕ) → k < l → test k ≡ false)
    → lowest_below n test ≡ l
unfolding lowest_below
lowest_is zero test l h e first = absurd (not-suc-le-zero h)
lowest_is (suc n) test zero h e first = rw e
lowest_is (suc n) test (suc l) h e first = rw (first 0 (zero-lt-suc l))
    (ap suc (lowest_is n (λ k. test (suc k)) l (le_of_suc-le-suc h) e (λ k g. first (suc k) (omega arith))))

pub lowest_same : (n : ℕ) (s t : ℕ → Bool) → ((k : ℕ) → k < n → s k ≡ t k) → lowest_below n s ≡ lowest_below n t
unfolding lowest_below
lowest_same zero s t same = refl
lowest_same (suc n) s t same = λ i. pick (same 0 (zero-lt-suc n) i) 0
    (suc (lowest_same n (λ k. s (suc k)) (λ k. t (suc k)) (λ k h. same (suc k) (omega arith)) i))

-- where some number passes, the lowest is below n
pub lowest_below_law : (n : ℕ) (test : ℕ → Bool) (k : ℕ) → k < n → test k ≡ true → lowest_below n test < n
lowest_below_law n test k h e = go (eq-or-lt_of_le (lowest_le n test))
  where
    go : (lowest_below n test ≡ n) ⊎ (lowest_below n test < n) → lowest_below n test < n
    go (inl p) = absurd (true≢false (sym e ∙ lowest_first n test k (omega arith)))
    go (inr l) = l

-- where no number below n passes, the lowest is among those from n on
pub lowest_past : (n m : ℕ) (test : ℕ → Bool) → ((k : ℕ) → k < n → test k ≡ false)
    → lowest_below (n + m) test ≡ n + lowest_below m (λ k. test (n + k))
lowest_past n m test none = go (eq-or-lt_of_le (lowest_le m later)) (eq-or-lt_of_le (lowest_le (n + m) test))
  where
    later : ℕ → Bool
    later k = test (n + k)

    first : (k : ℕ) → k < n + lowest_below m later → test k ≡ false
    first k h = side (ltb k n) refl
      where
        side : (b : Bool) → ltb k n ≡ b → test k ≡ false
        side true e = none k (ltb-true k n e)
        side false e =
            let far = ltb-false k n e in
            let same : k ≡ n + (k - n) = omega arith in
            ap test same ∙ lowest_first m later (k - n) (omega arith)

    go : (lowest_below m later ≡ m) ⊎ (lowest_below m later < m) → (lowest_below (n + m) test ≡ n + m) ⊎ (lowest_below (n + m) test < n + m)
        → lowest_below (n + m) test ≡ n + lowest_below m later
    go (inr l) r = lowest_is (n + m) test (n + lowest_below m later) (omega arith) (lowest_holds m later l) first
    go (inl p) (inl q) = omega arith
    go (inl p) (inr l) = absurd (true≢false (sym (lowest_holds (n + m) test l) ∙ first (lowest_below (n + m) test) (omega arith)))

pub lowest_wider : (n m : ℕ) (test : ℕ → Bool) (k : ℕ) → n ≤ m → k < n → test k ≡ true → lowest_below m test ≡ lowest_below n test
lowest_wider n m test k w h e =
    let l = lowest_below_law n test k h e in
    lowest_is m test (lowest_below n test) (lt_of_lt_of_le l w) (lowest_holds n test l) (lowest_first n test)

-- ---- how many
pub count_same : (n : ℕ) (s t : ℕ → Bool) → ((k : ℕ) → k < n → s k ≡ t k) → count_below n s ≡ count_below n t
unfolding count_below
count_same zero s t same = refl
count_same (suc n) s t same = λ i. count_same n s t (λ k h. same k (le_step h)) i + pick (same n (lt-suc_self n) i) 1 0

pub count_wider : (n m : ℕ) (test : ℕ → Bool) → n ≤ m → ((k : ℕ) → n ≤ k → test k ≡ false) → count_below m test ≡ count_below n test
unfolding count_below
count_wider n zero test w none = let z : n ≡ 0 = omega arith in rw z
count_wider n (suc m) test w none = go (eq-or-lt_of_le w) (λ h. count_wider n m test h none)
  where
    go : (n ≡ suc m) ⊎ (n < suc m) → (n ≤ m → count_below m test ≡ count_below n test)
        → count_below m test + pick (test m) 1 0 ≡ count_below n test
    go (inl p) f = rw p
    go (inr l) f = rw (none m (le_of_suc-le-suc l)) (omega (arith, f (le_of_suc-le-suc l)))

pub none_count : (n : ℕ) (test : ℕ → Bool) → ((k : ℕ) → k < n → test k ≡ false) → count_below n test ≡ 0
unfolding count_below
none_count zero test none = refl
none_count (suc n) test none = rw (none_count n test (λ k h. none k (le_step h)), none n (lt-suc_self n))

pub count_none : (n : ℕ) (test : ℕ → Bool) → count_below n test ≡ 0 → (k : ℕ) → k < n → test k ≡ false
unfolding count_below
count_none zero test e k h = absurd (not-suc-le-zero h)
count_none (suc n) test e k h = go (test n) refl e (eq-or-lt_of_le (le_of_suc-le-suc h)) (λ z l. count_none n test z k l)
  where
    go : (b : Bool) → test n ≡ b → count_below n test + pick b 1 0 ≡ 0 → (k ≡ n) ⊎ (k < n)
        → (count_below n test ≡ 0 → k < n → test k ≡ false) → test k ≡ false
    go true p z c f = absurd (omega arith)
    go false p z (inl q) f = rw q p
    go false p z (inr l) f = f (omega arith) l

one_no_more : (a b : Bool) → (a ≡ true → b ≡ true) → pick a 1 0 ≤ pick b 1 0
one_no_more true true h = omega arith
one_no_more true false h = absurd (true≢false (sym (h refl)))
one_no_more false b h = omega arith

-- a test that passes nothing new has no more
pub no_more : (n : ℕ) (s t : ℕ → Bool) → ((k : ℕ) → s k ≡ true → t k ≡ true) → count_below n s ≤ count_below n t
unfolding count_below
no_more zero s t keeps = omega arith
no_more (suc n) s t keeps = let a = no_more n s t keeps in let b = one_no_more (s n) (t n) (keeps n) in omega arith

-- a test that passes nothing new, and fails a number that passed, has fewer
pub count_fewer : (n : ℕ) (s t : ℕ → Bool) (j : ℕ) → j < n → ((k : ℕ) → s k ≡ true → t k ≡ true) → s j ≡ false → t j ≡ true
    → count_below n s < count_below n t
unfolding count_below
count_fewer zero s t j h keeps gone was = absurd (not-suc-le-zero h)
count_fewer (suc n) s t j h keeps gone was =
    go (eq-or-lt_of_le (le_of_suc-le-suc h)) (no_more n s t keeps) (one_no_more (s n) (t n) (keeps n)) (λ l. count_fewer n s t j l keeps gone was)
  where
    go : (j ≡ n) ⊎ (j < n) → count_below n s ≤ count_below n t → pick (s n) 1 0 ≤ pick (t n) 1 0
        → (j < n → count_below n s < count_below n t) → count_below n s + pick (s n) 1 0 < count_below n t + pick (t n) 1 0
    go (inl e) le one below = rw (rw e at gone, rw e at was) (omega arith)
    go (inr l) le one below = omega (arith, below l)

-- a wider bound has one more for a number that passes
pub count_next : (n : ℕ) (test : ℕ → Bool) → count_below (n + 1) test ≡ count_below n test + pick (test n) 1 0
unfolding count_below
count_next n test = let e : n + 1 ≡ suc n = omega arith in rw e

-- there are more below a number than below an earlier one that passes
pub count_more : (test : ℕ → Bool) (j k : ℕ) → j < k → test j ≡ true → count_below j test < count_below k test
unfolding count_below
count_more test j zero h e = absurd (not-suc-le-zero h)
count_more test j (suc k) h e = go (eq-or-lt_of_le (le_of_suc-le-suc h)) (λ l. count_more test j k l e)
  where
    go : (j ≡ k) ⊎ (j < k) → (j < k → count_below j test < count_below k test) → count_below j test < count_below k test + pick (test k) 1 0
    go (inl p) f = rw (sym p, e) (omega arith)
    go (inr l) f = omega (arith, f l)

-- so numbers that pass have different counts
pub counts_differ : (test : ℕ → Bool) (j k : ℕ) → test j ≡ true → test k ≡ true → (j ≡ k → ⊥) → count_below j test ≡ count_below k test → ⊥
counts_differ test j k e f differ same = go (ltb j k) (ltb k j) refl refl
  where
    go : (x y : Bool) → ltb j k ≡ x → ltb k j ≡ y → ⊥
    go true y p q = let more = count_more test j k (ltb-true j k p) e in omega (arith, more, same)
    go false true p q = let more = count_more test k j (ltb-true k j q) f in omega (arith, more, same)
    go false false p q = differ (omega (arith, ltb-false j k p, ltb-false k j q))

-- there are no more than numbers
pub count_le : (n : ℕ) (test : ℕ → Bool) → count_below n test ≤ n
unfolding count_below
count_le zero test = omega arith
count_le (suc n) test = let a = count_le n test in let b = one_no_more (test n) true (λ e. refl) in omega arith

-- where one of two tests passes, there are no more than both have
pub count_either : (n : ℕ) (s t : ℕ → Bool) → count_below n (λ k. s k || t k) ≤ count_below n s + count_below n t
unfolding count_below
count_either zero s t = omega arith
count_either (suc n) s t = let a = count_either n s t in let b = one (s n) (t n) in omega arith
  where
    one : (a b : Bool) → pick (a || b) 1 0 ≤ pick a 1 0 + pick b 1 0
    one true b = omega arith
    one false b = omega arith

-- a test that no two numbers pass has one at most
pub count_once : (n : ℕ) (test : ℕ → Bool) → ((j k : ℕ) → test j ≡ true → test k ≡ true → j ≡ k) → count_below n test ≤ 1
unfolding count_below
count_once zero test once = omega arith
count_once (suc n) test once = go (test n) refl (count_once n test once)
  where
    others : test n ≡ true → (k : ℕ) → k < n → (b : Bool) → test k ≡ b → test k ≡ false
    others e k l true h = absurd (let p = once k n h e in omega (arith, l, p))
    others e k l false h = h

    go : (b : Bool) → test n ≡ b → count_below n test ≤ 1 → count_below n test + pick b 1 0 ≤ 1
    go true e l = let z = none_count n test (λ k h. others e k h (test k) refl) in omega arith
    go false e l = omega arith
