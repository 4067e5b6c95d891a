-- The bits of a number, the bits of what the operations on words give, and the two counts of bits as counts of numbers that pass a test.
-- Assumes nothing.
use Rattle.std.specs.Prelude.{◌≡◌, refl, Bool, true, false, not, ◌&&◌, ◌||◌, ℕ, zero, suc, ◌+◌, ◌-◌, ◌/◌, ◌%◌, ◌^◌, ◌<◌, min, max, eqb, ltb}
use Rattle.std.proofs.Common.{sym, ap, ap₂, ◌∙◌, le_of_suc-le-suc, not-suc-le-zero, zero-lt-suc, mod-lt, div-one, pow-suc, mul_comm, add_comm, add_assoc, arith, eqb-true, pow_pos}
use Rattle.std.proofs.Math.Nat.{zero-div, div-div-eq-div-mul}
use Rattle.std.proofs.lemmas.Bool.{eqb-false}
use Rattle.std.proofs.Math.Arith.{lt-one}
use Rattle.std.specs.Int.Bits.{bit_and, bit_or, bit_xor, differ, and_step, or_step, xor_step}
use Rattle.std.proofs.lemmas.Nat.{and_shr, or_shr, xor_shr}
use Rattle.std.specs.Int.Count.{ones, ones_step, count_trailing_zeros, under}
use Rattle.std.proofs.Math.Dec.{leb-zero, leb-suc-zero, leb-suc-suc, eqb-zero-suc, eqb-suc-zero, eqb-suc-suc}
use Rattle.std.proofs.Math.Pow.{field, mod-mod-pow}
use Rattle.wire.specs.Choice.{pick}
use Rattle.nodeset.specs.Below.{lowest_below, count_below, count_same, lowest_same}

-- bit k of x
abbrev pub bit : ℕ → ℕ → ℕ
bit k x = x / 2 ^ k % 2

-- bit k of x is 1
abbrev pub on : ℕ → ℕ → Bool
on k x = eqb (bit k x) 1

-- ---- laws

-- ---- the lowest bit, and the others as the bits of the half

bit_zero : (x : ℕ) → bit 0 x ≡ x % 2
bit_zero x = ap (λ (y : ℕ). y % 2) (div-one x)

bit_suc : (k x : ℕ) → bit (suc k) x ≡ bit k (x / 2)
bit_suc k x = ap (λ (y : ℕ). y % 2) (ap (λ (m : ℕ). x / m) (pow-suc 2 k ∙ mul_comm (2 ^ k) 2) ∙ sym (div-div-eq-div-mul x 2 (2 ^ k)))

on_zero : (x : ℕ) → on 0 x ≡ eqb (x % 2) 1
on_zero x = ap (λ (d : ℕ). eqb d 1) (bit_zero x)

on_suc : (k x : ℕ) → on (suc k) x ≡ on k (x / 2)
on_suc k x = ap (λ (d : ℕ). eqb d 1) (bit_suc k x)

bit_lt : (k x : ℕ) → bit k x < 2
bit_lt k x = mod-lt (x / 2 ^ k) (zero-lt-suc 1)

-- ---- numbers of one form

pub on_none : (k : ℕ) → on k 0 ≡ false
on_none k = ap (λ (y : ℕ). eqb (y % 2) 1) (zero-div (2 ^ k))

pub on_power : (u v : ℕ) → on v (2 ^ u) ≡ eqb v u
on_power zero zero = refl
on_power zero (suc v) = on_suc v 1 ∙ on_none v ∙ sym (eqb-suc-zero v)
on_power (suc u) zero = on_zero (2 ^ suc u) ∙ ap (λ (d : ℕ). eqb d 1) even ∙ sym (eqb-zero-suc u)
  where
    even : 2 ^ suc u % 2 ≡ 0
    even = omega (arith, pow-suc 2 u)
on_power (suc u) (suc v) = on_suc v (2 ^ suc u) ∙ ap (on v) half ∙ on_power u v ∙ sym (eqb-suc-suc v u)
  where
    half : 2 ^ suc u / 2 ≡ 2 ^ u
    half = omega (arith, pow-suc 2 u)

pub on_ones : (n v : ℕ) → on v (2 ^ n - 1) ≡ ltb v n
on_ones zero v = on_none v ∙ sym (leb-suc-zero v)
on_ones (suc n) zero = on_zero (2 ^ suc n - 1) ∙ ap (λ (d : ℕ). eqb d 1) odd ∙ sym (leb-suc-suc 0 n ∙ leb-zero n)
  where
    odd : (2 ^ suc n - 1) % 2 ≡ 1
    odd = omega (arith, pow-suc 2 n, pow_pos n)
on_ones (suc n) (suc v) = on_suc v (2 ^ suc n - 1) ∙ ap (on v) half ∙ on_ones n v ∙ sym (leb-suc-suc (suc v) n)
  where
    half : (2 ^ suc n - 1) / 2 ≡ 2 ^ n - 1
    half = omega (arith, pow-suc 2 n, pow_pos n)

-- ---- the operations, digit by digit

bit_of_or : (k a b : ℕ) → bit k (bit_or a b) ≡ max (bit k a) (bit k b)
bit_of_or k a b = ap (λ (y : ℕ). y % 2) (or_shr a b k) ∙ low (a / 2 ^ k) (b / 2 ^ k)
  where
    low : (x y : ℕ) → bit_or x y % 2 ≡ max (x % 2) (y % 2)
    low x y = omega (arith, or_step x y)

bit_of_and : (k a b : ℕ) → bit k (bit_and a b) ≡ min (bit k a) (bit k b)
bit_of_and k a b = ap (λ (y : ℕ). y % 2) (and_shr a b k) ∙ low (a / 2 ^ k) (b / 2 ^ k)
  where
    low : (x y : ℕ) → bit_and x y % 2 ≡ min (x % 2) (y % 2)
    low x y = omega (arith, and_step x y)

differ_lt : (p q : ℕ) → p < 2 → q < 2 → differ p q < 2
differ_lt zero q h k = k
differ_lt (suc zero) zero h k = h
differ_lt (suc zero) (suc zero) h k = zero-lt-suc 1
differ_lt (suc zero) (suc (suc q)) h k = absurd (not-suc-le-zero (le_of_suc-le-suc (le_of_suc-le-suc k)))
differ_lt (suc (suc p)) q h k = absurd (not-suc-le-zero (le_of_suc-le-suc (le_of_suc-le-suc h)))

bit_of_xor : (k a b : ℕ) → bit k (bit_xor a b) ≡ differ (bit k a) (bit k b)
bit_of_xor k a b = ap (λ (y : ℕ). y % 2) (xor_shr a b k) ∙ low (a / 2 ^ k) (b / 2 ^ k)
  where
    low : (x y : ℕ) → bit_xor x y % 2 ≡ differ (x % 2) (y % 2)
    low x y = omega (arith, xor_step x y, differ_lt (x % 2) (y % 2) (mod-lt x (zero-lt-suc 1)) (mod-lt y (zero-lt-suc 1)))

or_digit : (p q : ℕ) → p < 2 → q < 2 → eqb (max p q) 1 ≡ (eqb p 1 || eqb q 1)
or_digit zero zero h k = refl
or_digit zero (suc zero) h k = refl
or_digit (suc zero) zero h k = refl
or_digit (suc zero) (suc zero) h k = refl
or_digit zero (suc (suc q)) h k = absurd (not-suc-le-zero (le_of_suc-le-suc (le_of_suc-le-suc k)))
or_digit (suc zero) (suc (suc q)) h k = absurd (not-suc-le-zero (le_of_suc-le-suc (le_of_suc-le-suc k)))
or_digit (suc (suc p)) q h k = absurd (not-suc-le-zero (le_of_suc-le-suc (le_of_suc-le-suc h)))

and_digit : (p q : ℕ) → p < 2 → q < 2 → eqb (min p q) 1 ≡ (eqb p 1 && eqb q 1)
and_digit zero zero h k = refl
and_digit zero (suc zero) h k = refl
and_digit (suc zero) zero h k = refl
and_digit (suc zero) (suc zero) h k = refl
and_digit zero (suc (suc q)) h k = absurd (not-suc-le-zero (le_of_suc-le-suc (le_of_suc-le-suc k)))
and_digit (suc zero) (suc (suc q)) h k = absurd (not-suc-le-zero (le_of_suc-le-suc (le_of_suc-le-suc k)))
and_digit (suc (suc p)) q h k = absurd (not-suc-le-zero (le_of_suc-le-suc (le_of_suc-le-suc h)))

minus_digit : (p q : ℕ) → p < 2 → q < 2 → eqb (differ p (min p q)) 1 ≡ (eqb p 1 && not (eqb q 1))
minus_digit zero zero h k = refl
minus_digit zero (suc zero) h k = refl
minus_digit (suc zero) zero h k = refl
minus_digit (suc zero) (suc zero) h k = refl
minus_digit zero (suc (suc q)) h k = absurd (not-suc-le-zero (le_of_suc-le-suc (le_of_suc-le-suc k)))
minus_digit (suc zero) (suc (suc q)) h k = absurd (not-suc-le-zero (le_of_suc-le-suc (le_of_suc-le-suc k)))
minus_digit (suc (suc p)) q h k = absurd (not-suc-le-zero (le_of_suc-le-suc (le_of_suc-le-suc h)))

pub on_or : (k a b : ℕ) → on k (bit_or a b) ≡ (on k a || on k b)
on_or k a b = ap (λ (d : ℕ). eqb d 1) (bit_of_or k a b) ∙ or_digit (bit k a) (bit k b) (bit_lt k a) (bit_lt k b)

pub on_and : (k a b : ℕ) → on k (bit_and a b) ≡ (on k a && on k b)
on_and k a b = ap (λ (d : ℕ). eqb d 1) (bit_of_and k a b) ∙ and_digit (bit k a) (bit k b) (bit_lt k a) (bit_lt k b)

pub on_minus : (k a b : ℕ) → on k (bit_xor a (bit_and a b)) ≡ (on k a && not (on k b))
on_minus k a b =
    ap (λ (d : ℕ). eqb d 1) (bit_of_xor k a (bit_and a b) ∙ ap (differ (bit k a)) (bit_of_and k a b))
    ∙ minus_digit (bit k a) (bit k b) (bit_lt k a) (bit_lt k b)

-- the d low bits of a number are those of its rest by 2 ^ d
pub on_rest : (d k x : ℕ) → k < d → on k (x % 2 ^ d) ≡ on k x
on_rest d k x h =
    ap (λ (e : ℕ). on k (x % 2 ^ e)) apart
    ∙ ap (λ (y : ℕ). eqb (y % 2) 1) (field x (d - suc k + 1) k)
    ∙ ap (λ (y : ℕ). eqb y 1) (mod-mod-pow (x / 2 ^ k) (d - suc k) 1)
  where
    apart : d ≡ d - suc k + 1 + k
    apart = omega (arith, h)

-- ---- the counts of bits

-- the count, from the front
count_front : (n : ℕ) (f : ℕ → Bool) → count_below (suc n) f ≡ pick (f 0) 1 0 + count_below n (λ k. f (suc k))
unfolding count_below
count_front zero f = add_comm 0 (pick (f 0) 1 0)
count_front (suc n) f =
    ap (λ (c : ℕ). c + pick (f (suc n)) 1 0) (count_front n f)
    ∙ add_assoc (pick (f 0) 1 0) (count_below n (λ k. f (suc k))) (pick (f (suc n)) 1 0)

half_lt : (d x : ℕ) → x < 2 ^ suc d → x / 2 < 2 ^ d
half_lt d x h = omega (arith, h, pow-suc 2 d)

one_digit : (p : ℕ) → p < 2 → p ≡ pick (eqb p 1) 1 0
one_digit zero h = refl
one_digit (suc zero) h = refl
one_digit (suc (suc p)) h = absurd (not-suc-le-zero (le_of_suc-le-suc (le_of_suc-le-suc h)))

pub ones_count : (d x : ℕ) → x < 2 ^ d → ones x ≡ count_below d (λ k. on k x)
unfolding count_below ones
ones_count zero x h = ap ones (lt-one h) ∙ none
  where
    none : ones 0 ≡ 0
    none = refl
ones_count (suc d) x h =
    ones_step x
    ∙ ap₂ (λ (p q : ℕ). p + q)
    (one_digit (x % 2) (mod-lt x (zero-lt-suc 1)) ∙ ap (λ (t : Bool). pick t 1 0) (sym (on_zero x)))
    (ones_count d (x / 2) (half_lt d x h) ∙ count_same d (λ k. on k (x / 2)) (λ k. on (suc k) x) (λ k l. sym (on_suc k x)))
    ∙ sym (count_front d (λ k. on k x))

under_digit : (p t : ℕ) → p < 2 → under p t ≡ pick (eqb p 1) 0 (suc t)
under_digit zero t h = refl
under_digit (suc zero) t h = refl
under_digit (suc (suc p)) t h = absurd (not-suc-le-zero (le_of_suc-le-suc (le_of_suc-le-suc h)))

pub zeros_lowest : (d x : ℕ) → count_trailing_zeros d x ≡ lowest_below d (λ k. on k x)
unfolding lowest_below count_trailing_zeros
zeros_lowest zero x = refl
zeros_lowest (suc d) x =
    under_digit (x % 2) (count_trailing_zeros d (x / 2)) (mod-lt x (zero-lt-suc 1))
    ∙ ap₂ (λ (t : Bool) (l : ℕ). pick t 0 (suc l)) (sym (on_zero x))
    (zeros_lowest d (x / 2) ∙ lowest_same d (λ k. on k (x / 2)) (λ k. on (suc k) x) (λ k l. sym (on_suc k x)))

-- a number with no bit is 0
pub none_zero : (d x : ℕ) → x < 2 ^ d → ones x ≡ 0 → x ≡ 0
none_zero zero x h e = lt-one h
none_zero (suc d) x h e = omega (arith, none_zero d (x / 2) (half_lt d x h) (omega (arith, e, ones_step x)), e, ones_step x)

-- ---- a number and the one before it

-- below bit d, they share all bits of the first but the lowest
shared : (d x k : ℕ) → k < d → (on k x && on k (x - 1)) ≡ (on k x && not (eqb k (lowest_below d (λ j. on j x))))
unfolding lowest_below
shared zero x k h = absurd (not-suc-le-zero h)
shared (suc d) x zero h = go (on 0 x) (lowest_below d (λ j. on (suc j) x)) refl
  where
    go : (t : Bool) (l : ℕ) → on 0 x ≡ t → (on 0 x && on 0 (x - 1)) ≡ (on 0 x && not (eqb 0 (pick t 0 (suc l))))
    go true l e = ap (λ (b : Bool). on 0 x && b) (on_zero (x - 1) ∙ ap (λ (n : ℕ). eqb n 1) even)
      where
        even : (x - 1) % 2 ≡ 0
        even = omega (arith, eqb-true (x % 2) 1 (sym (on_zero x) ∙ e))
    go false l e = rw e
shared (suc d) x (suc k) h = go (on 0 x) refl (shared d (x / 2) k (le_of_suc-le-suc h))
  where
    go : (t : Bool) → on 0 x ≡ t → (on k (x / 2) && on k (x / 2 - 1)) ≡ (on k (x / 2) && not (eqb k (lowest_below d (λ j. on j (x / 2)))))
        → (on (suc k) x && on (suc k) (x - 1)) ≡ (on (suc k) x && not (eqb (suc k) (pick t 0 (suc (lowest_below d (λ j. on (suc j) x))))))
    go true e f = rw (on_suc k x, on_suc k (x - 1), half, eqb-suc-zero k) (same (on k (x / 2)))
      where
        half : (x - 1) / 2 ≡ x / 2
        half = omega (arith, eqb-true (x % 2) 1 (sym (on_zero x) ∙ e))

        same : (b : Bool) → (b && b) ≡ (b && true)
        same true = refl
        same false = refl
    go false e f =
        rw (
          on_suc k x,
          on_suc k (x - 1),
          half,
          eqb-suc-suc k (lowest_below d (λ j. on (suc j) x)),
          lowest_same d (λ j. on (suc j) x) (λ j. on j (x / 2)) (λ j l. on_suc j x),
        ) f
      where
        half : (x - 1) / 2 ≡ x / 2 - 1
        half = omega (arith, eqb-false (x % 2) 1 (sym (on_zero x) ∙ e))

pub on_and_less : (d x k : ℕ) → k < d → on k (bit_and x (x - 1)) ≡ (on k x && not (eqb k (lowest_below d (λ j. on j x))))
on_and_less d x k h = on_and k x (x - 1) ∙ shared d x k h
