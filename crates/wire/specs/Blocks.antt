-- Bytes stored one after the other in lent bytes, and blocks of eight: block i has the places from 8 * i on.
-- Assumes nothing.
use Rattle.std.specs.Prelude.{◌≡◌, refl, Bool, true, false, List, [], ◌∷◌, ◌⊎◌, ℕ, zero, suc, ◌+◌, ◌*◌, ◌≤◌, ◌<◌, ltb, length, get_or, set, drop}
use Rattle.std.proofs.Common.{ap, ◌∙◌, inl, inr, not-suc-le-zero, le_of_suc-le-suc, add-zero, arith, add-one, ltb-true, ltb-false, length-set, drop-cons, get_or-set_same, get_or-set_other}

-- bytes stored from place p + k on
abbrev pub put_from : List ℕ → ℕ → ℕ → List ℕ → List ℕ
put_from xs p k [] = xs
put_from xs p k (b ∷ bs) = put_from (set xs (p + k) b) p (suc k) bs

-- ---- laws

-- storing keeps the length
pub length_from : (xs : List ℕ) (p k : ℕ) (bs : List ℕ) → length (put_from xs p k bs) ≡ length xs
length_from xs p k [] = refl
length_from xs p k (b ∷ bs) = length_from (set xs (p + k) b) p (suc k) bs ∙ length-set xs (p + k) b

-- one byte is stored, and the rest after it
pub from_next : (xs : List ℕ) (p k : ℕ) (bs : List ℕ) → k < length bs
    → put_from (set xs (p + k) (get_or bs k 0)) p (k + 1) (drop (k + 1) bs) ≡ put_from xs p k (drop k bs)
from_next xs p k bs h = rw (drop-cons bs k 0 h, add-one k) refl

-- outside the bytes stored nothing changes
pub from_out : (xs : List ℕ) (p k : ℕ) (bs : List ℕ) (q : ℕ) → (q < p + k) ⊎ (p + k + length bs ≤ q)
    → get_or (put_from xs p k bs) q 0 ≡ get_or xs q 0
from_out xs p k [] q h = refl
from_out xs p k (b ∷ bs) q (inl h) =
    from_out (set xs (p + k) b) p (suc k) bs q (inl (omega (arith, h))) ∙ get_or-set_other xs (p + k) q b 0 (λ e. omega (arith, h, e))
from_out xs p k (b ∷ bs) q (inr h) =
    from_out (set xs (p + k) b) p (suc k) bs q (inr (omega (arith, h))) ∙ get_or-set_other xs (p + k) q b 0 (λ e. omega (arith, h, e))

-- at their places stand the bytes stored
pub from_in : (xs : List ℕ) (p k : ℕ) (bs : List ℕ) (j : ℕ) → j < length bs → p + k + length bs ≤ length xs
    → get_or (put_from xs p k bs) (p + k + j) 0 ≡ get_or bs j 0
from_in xs p k [] j h l = absurd (not-suc-le-zero h)
from_in xs p k (b ∷ bs) zero h l =
    from_out (set xs (p + k) b) p (suc k) bs (p + k + 0) (inl (omega arith))
    ∙ ap (λ (q : ℕ). get_or (set xs (p + k) b) q 0) (add-zero (p + k)) ∙ get_or-set_same xs (p + k) b 0 (omega (arith, l))
from_in xs p k (b ∷ bs) (suc j) h l =
    ap (λ (q : ℕ). get_or (put_from (set xs (p + k) b) p (suc k) bs) q 0) place
    ∙ from_in (set xs (p + k) b) p (suc k) bs j (le_of_suc-le-suc h) (rw length-set (omega (arith, l)))
  where
    place : p + k + suc j ≡ p + suc k + j
    place = omega arith

-- the bytes of two blocks are apart
pub apart : (i j k : ℕ) → (j ≡ i → ⊥) → k < 8 → (8 * j + k < 8 * i + 0) ⊎ (8 * i + 0 + 8 ≤ 8 * j + k)
apart i j k h l = go (ltb j i) refl
  where
    go : (t : Bool) → ltb j i ≡ t → (8 * j + k < 8 * i + 0) ⊎ (8 * i + 0 + 8 ≤ 8 * j + k)
    go true e = inl (omega (arith, l, ltb-true j i e))
    go false e = inr (omega (arith, h, ltb-false j i e))
