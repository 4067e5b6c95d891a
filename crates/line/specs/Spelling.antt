-- `io` spells a number with the fewest digits that hold it: those are its digits without leading zeros. Of 16 bits they are five at most.
-- Assumes nothing.
use Rattle.std.specs.Prelude.{◌≡◌, refl, Bool, true, false, ℕ, zero, suc, ◌+◌, ◌-◌, ◌*◌, ◌/◌, ◌%◌, ◌^◌, ◌≤◌, ◌<◌, ltb}
use Rattle.std.proofs.Common.{◌∙◌, ap, subst, arith, le_trans, pow-suc, ltb-true, ltb-false, lt-ltb, le-ltb}
use Rattle.std.proofs.Math.Nat.{pow-le-pow_right}
use Rattle.io.specs.Digits.{hex_digit_ascii, last_digits, IsDigitCount}
use Rattle.line.specs.Line.{digits_within, decimal}

digit : (n : ℕ) → hex_digit_ascii (n % 10) ≡ 48 + n % 10
digit n = rw (lt-ltb (n % 10) 10 (omega arith))

-- a power of ten isn't zero
tens : (k : ℕ) → 1 ≤ 10 ^ k
tens zero = omega arith
tens (suc k) = rw (pow-suc 10 k) (omega (arith, tens k))

-- a number of two digits and more
two_digits : (k n : ℕ) → IsDigitCount 10 1 n (suc (suc k)) → 10 ^ k * 10 ≤ n
two_digits k n h =
    let e : suc (suc k) - 1 ≡ suc k = omega arith in
    subst (λ (x : ℕ). x ≤ n) (ap (λ (x : ℕ). 10 ^ x) e ∙ pow-suc 10 k) (h.2 (omega arith))

-- a tenth has a digit less
tenth : (k n : ℕ) → IsDigitCount 10 1 n (suc (suc k)) → IsDigitCount 10 1 (n / 10) (suc k)
tenth k n h = (
  omega arith,
  omega (arith, rw (pow-suc 10 (suc k)) at h.1),
  λ l.
      let e : k ≡ suc k - 1 = omega arith in
      subst (λ (x : ℕ). 10 ^ x ≤ n / 10) e (omega (arith, two_digits k n h)),
)

fewest_within : (k n most : ℕ) → IsDigitCount 10 1 n k → n < most → last_digits 10 k n ≡ digits_within most n
unfolding digits_within
fewest_within zero n most h l = absurd (omega (arith, h.0))
fewest_within (suc zero) n zero h l = absurd (omega (arith, l))
fewest_within (suc zero) n (suc most) h l = rw (digit n, lt-ltb n 10 h.1)
fewest_within (suc (suc k)) n zero h l = absurd (omega (arith, l))
fewest_within (suc (suc k)) n (suc most) h l =
    let large : 10 ≤ n = omega (arith, tens k, two_digits k n h) in
    rw (digit n, le-ltb n 10 large, fewest_within (suc k) (n / 10) most (tenth k n h) (omega (arith, l, large)))

-- the fewest digits that hold a number are its digits in decimal
pub fewest_decimal : (k n : ℕ) → IsDigitCount 10 1 n k → last_digits 10 k n ≡ decimal n
fewest_decimal k n h = fewest_within k n (suc n) h (omega arith)

-- a number of 16 bits has five digits at most
pub five_digits : (k n : ℕ) → IsDigitCount 10 1 n k → n < 65536 → k ≤ 5
five_digits k n h l = go (ltb 5 k) refl
  where
    go : (b : Bool) → ltb 5 k ≡ b → k ≤ 5
    go true e =
        let more = ltb-true 5 k e in
        let large : 10 ^ 5 ≤ n = le_trans (pow-le-pow_right (omega arith) {i = 5} {j = k - 1} (omega (arith, more))) (h.2 (omega (arith, more))) in
        absurd (omega (arith, l, large))
    go false e = ltb-false 5 k e
