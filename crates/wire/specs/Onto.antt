-- A destination that receives a file: what 02's Jobs 4, 7 and 13 say of the bytes that are lent for a new file.
-- Assumes nothing.
use Rattle.std.specs.Prelude.{◌≡◌, refl, List, [], ◌∷◌, ◌++◌, ℕ, suc, ◌+◌, ◌≤◌, length, set, take, drop}
use Rattle.std.proofs.Common.{sym, ap, ◌∙◌, add-zero, arith}
use Rattle.std.proofs.lemmas.List.Edits.{sets, sets-eq}
use Rattle.wire.specs.Blocks.{put_from}

-- the file stands at the front, and behind it what was there. 02, Job 4: "success gives the new file's length and leaves bytes beyond it
-- unchanged"
unfoldable pub onto : List ℕ → List ℕ → List ℕ
onto file out = file ++ drop (length file) out

-- ---- laws

-- ---- bytes stored one after the other, as the library has them

from_sets : (xs : List ℕ) (p k : ℕ) (bs : List ℕ) → put_from xs p k bs ≡ sets xs (p + k) bs
from_sets xs p k [] = refl
from_sets xs p k (b ∷ bs) = from_sets (set xs (p + k) b) p (suc k) bs ∙ ap (λ (i : ℕ). sets (set xs (p + k) b) i bs) next
  where
    next : p + suc k ≡ suc (p + k)
    next = omega arith

at_sets : (xs : List ℕ) (p : ℕ) (bs : List ℕ) → put_from xs p 0 bs ≡ sets xs p bs
at_sets xs p bs = from_sets xs p 0 bs ∙ ap (λ (i : ℕ). sets xs i bs) (add-zero p)

sets_more : (ys : List ℕ) (i : ℕ) (xs bs : List ℕ) → sets (sets ys i xs) (i + length xs) bs ≡ sets ys i (xs ++ bs)
sets_more ys i [] bs = ap (λ (j : ℕ). sets ys j bs) (add-zero i)
sets_more ys i (x ∷ xs) bs =
    ap (λ (j : ℕ). sets (sets (set ys i x) (suc i) xs) j bs) next ∙ sets_more (set ys i x) (suc i) xs bs
  where
    next : i + suc (length xs) ≡ suc i + length xs
    next = omega arith

-- storing bytes, and more behind them, is storing both
pub put_more : (ys : List ℕ) (p : ℕ) (xs bs : List ℕ) → put_from (put_from ys p 0 xs) (p + length xs) 0 bs ≡ put_from ys p 0 (xs ++ bs)
put_more ys p xs bs =
    at_sets (put_from ys p 0 xs) (p + length xs) bs
    ∙ ap (λ (zs : List ℕ). sets zs (p + length xs) bs) (at_sets ys p xs)
    ∙ sets_more ys p xs bs ∙ sym (at_sets ys p (xs ++ bs))

-- where the bytes stored end before the end, what stands around them stays
pub put_from_at : (xs : List ℕ) (p : ℕ) (bs : List ℕ) → p + length bs ≤ length xs → put_from xs p 0 bs ≡ take p xs ++ bs ++ drop (p + length bs) xs
put_from_at xs p bs l = at_sets xs p bs ∙ sets-eq bs xs p l
