-- Two entries are the same where their four bytes, each read as one number, are.
-- Assumes nothing.
use Rattle.std.specs.Prelude.{◌≡◌, refl, Bool, true, false, ◌&&◌, List, ℕ, ◌+◌, ◌*◌, ◌<◌, get_or, eqb}
use Rattle.std.proofs.Common.{sym, arith, eqb-true, eq-eqb, ne_eqb}
use Rattle.std.proofs.Math.Bool.{and_assoc}
use Rattle.std.proofs.lemmas.Bool.{eqb-false}
use Rattle.wire.specs.Fields.{word32_at}
use Rattle.pattern.specs.File.Entries.{offset, same_bytes}

-- numbers with a lowest byte are the same where the lowest bytes and the rest are
byte_same : (x y x' y' : ℕ) → x < 256 → x' < 256 → eqb (x + 256 * y) (x' + 256 * y') ≡ eqb x x' && eqb y y'
byte_same x y x' y' l l' = go (eqb x x') refl (eqb y y') refl
  where
    go : (b : Bool) → eqb x x' ≡ b → (c : Bool) → eqb y y' ≡ c → eqb (x + 256 * y) (x' + 256 * y') ≡ eqb x x' && eqb y y'
    go true e true f = rw (e, f) (eq-eqb (x + 256 * y) (x' + 256 * y') (omega (arith, eqb-true x x' e, eqb-true y y' f)))
    go true e false f = rw (e, f) (ne_eqb (x + 256 * y) (x' + 256 * y') (λ h. eqb-false y y' f (omega (arith, h, eqb-true x x' e))))
    go false e c f = rw e (ne_eqb (x + 256 * y) (x' + 256 * y') (λ h. eqb-false x x' e (omega (arith, h, l, l'))))

regroup : (a b c d : Bool) → a && (b && (c && d)) ≡ a && b && c && d
regroup true b c d = sym (and_assoc b c d)
regroup false b c d = refl

-- entries have the same bytes where their four bytes make the same number
pub word_same : (bs : List ℕ) (j k : ℕ) → ((i : ℕ) → get_or bs i 0 < 256) → eqb (word32_at bs (offset j)) (word32_at bs (offset k)) ≡ same_bytes bs j k
unfolding same_bytes
word_same bs j k byte =
    let same : ℕ → Bool = λ n. eqb (get_or bs (offset j + n) 0) (get_or bs (offset k + n) 0) in
    rw (
      lowest_first bs (offset j),
      lowest_first bs (offset k),
      byte_same _ _ _ _ (byte (offset j)) (byte (offset k)),
      byte_same _ _ _ _ (byte (offset j + 1)) (byte (offset k + 1)),
      byte_same _ _ _ _ (byte (offset j + 2)) (byte (offset k + 2)),
    )
    (regroup (eqb (get_or bs (offset j) 0) (get_or bs (offset k) 0)) (same 1) (same 2) (same 3))
  where
    -- a number, byte by byte
    lowest_first : (s : List ℕ) (i : ℕ)
        → word32_at s i ≡ get_or s i 0 + 256 * (get_or s (i + 1) 0 + 256 * (get_or s (i + 2) 0 + 256 * get_or s (i + 3) 0))
    lowest_first s i = omega arith
