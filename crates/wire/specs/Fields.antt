-- What is read from bytes, a mark at the front and little-endian numbers, and the bytes of a number.
-- Assumes nothing.
use Rattle.std.specs.Prelude.{◌≡◌, refl, Bool, true, false, ◌&&◌, List, [], ◌∷◌, ℕ, zero, suc, ◌+◌, ◌*◌, ◌/◌, ◌%◌, ◌≤◌, ◌<◌, get_or, length, eqb}
use Rattle.std.proofs.Common.{sym, ap, ◌∙◌, le_of_suc-le-suc, not-suc-le-zero, arith, eq-eqb, ne_eqb}
use Rattle.std.proofs.Math.Bool.{and-false}
use Rattle.std.proofs.lemmas.Bool.{false≢true}
use Prim.Native.String as string
use Prim.Native.String.{String}
use Prim.Native.Char.{code}

-- the bytes of a text whose characters are ASCII
abbrev pub text : String → List ℕ
text string.[] = []
text (string.◌∷◌ c cs) = code c ∷ text cs

-- 01: "Each file's three-letter mark is a fixed byte string compared with the first bytes of the lent slice": byte for byte
abbrev pub begins_with : List ℕ → List ℕ → Bool
begins_with [] s = true
begins_with (m ∷ ms) [] = false
begins_with (m ∷ ms) (b ∷ bs) = eqb b m && begins_with ms bs

-- 01: "All 16-bit fields in every file are little-endian."
abbrev pub word_at : List ℕ → ℕ → ℕ
word_at s i = get_or s i 0 + get_or s (i + 1) 0 * 256

-- the two bytes of such a field
abbrev pub word_bytes : ℕ → List ℕ
word_bytes w = w % 256 ∷ w / 256 ∷ []

-- the like of 32 bits, as a model file's "32-bit little-endian property set"
abbrev pub word32_at : List ℕ → ℕ → ℕ
word32_at s i = get_or s i 0 + get_or s (i + 1) 0 * 256 + get_or s (i + 2) 0 * 65536 + get_or s (i + 3) 0 * 16777216

-- ---- laws

-- the like of 64 bits, as a node set is stored
abbrev pub word64_at : List ℕ → ℕ → ℕ
word64_at s i =
    word32_at s i + get_or s (i + 4) 0 * 4294967296 + get_or s (i + 5) 0 * 1099511627776 + get_or s (i + 6) 0 * 281474976710656
    + get_or s (i + 7) 0 * 72057594037927936

-- too short for the mark
pub begins_short : (m s : List ℕ) → length s < length m → begins_with m s ≡ false
begins_short [] s h = absurd (not-suc-le-zero h)
begins_short (m ∷ ms) [] h = refl
begins_short (m ∷ ms) (b ∷ bs) h = rw (begins_short ms bs (le_of_suc-le-suc h)) (and-false (eqb b m))

-- one byte of the mark that differs
pub begins_differs : (m s : List ℕ) (i : ℕ) → i < length m → i < length s → (get_or s i 0 ≡ get_or m i 0 → ⊥) → begins_with m s ≡ false
begins_differs [] s i h k d = absurd (not-suc-le-zero h)
begins_differs (m ∷ ms) [] i h k d = refl
begins_differs (m ∷ ms) (b ∷ bs) zero h k d = rw (ne_eqb b m d)
begins_differs (m ∷ ms) (b ∷ bs) (suc i) h k d =
    rw (begins_differs ms bs i (le_of_suc-le-suc h) (le_of_suc-le-suc k) d) (and-false (eqb b m))

-- bytes that are the same where the mark stands
pub begins_front : (m s t : List ℕ) → ((i : ℕ) → i < length m → get_or s i 0 ≡ get_or t i 0) → length m ≤ length t → begins_with m s ≡ true
    → begins_with m t ≡ true
begins_front [] s t same l h = refl
begins_front (m ∷ ms) [] t same l h = absurd (false≢true h)
begins_front (m ∷ ms) (b ∷ bs) [] same l h = absurd (not-suc-le-zero l)
begins_front (m ∷ ms) (b ∷ bs) (c ∷ cs) same l h = go (eqb b m) refl h (begins_front ms bs cs (λ i k. same (suc i) (omega arith)) (le_of_suc-le-suc l))
  where
    go : (t : Bool) → eqb b m ≡ t → t && begins_with ms bs ≡ true → (begins_with ms bs ≡ true → begins_with ms cs ≡ true)
        → eqb c m && begins_with ms cs ≡ true
    go true e r next = rw (ap (λ (x : ℕ). eqb x m) (sym (same zero (omega arith))) ∙ e) (next r)
    go false e r next = absurd (false≢true r)

-- all bytes of the mark
pub begins_same : (m s : List ℕ) → length m ≤ length s → ((i : ℕ) → i < length m → get_or s i 0 ≡ get_or m i 0) → begins_with m s ≡ true
begins_same [] s h e = refl
begins_same (m ∷ ms) [] h e = absurd (not-suc-le-zero h)
begins_same (m ∷ ms) (b ∷ bs) h e =
    rw (eq-eqb b m (e zero (omega arith)), begins_same ms bs (le_of_suc-le-suc h) (λ i k. e (suc i) (omega arith)))
