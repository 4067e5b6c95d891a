-- Digits read one by one, with the value capped at each: the number is the one that all of them make, capped.
-- Assumes nothing.
use Rattle.std.specs.Prelude.{◌≡◌, refl, Bool, true, false, List, [], ◌∷◌, ℕ, suc, Some, None, ◌+◌, ◌*◌, ◌-◌, ◌≤◌, ◌<◌, ltb, length, get_or, take, drop}
use Rattle.std.proofs.Common.{sym, ap, ◌∙◌, add-zero, add-one, arith, drop-cons, ltb-true, ltb-false, lt-ltb, le-ltb, ne_eqb}
use Rattle.std.proofs.Math.Seq.{drop-length}
use Rattle.typed_text.specs.Text.{is_digit}
use Rattle.typed_text.specs.Tokens.{value_from}
use Rattle.typed_text.specs.Spelled.{takes_number, digits_length, capped}
use Rattle.text_tokens.specs.declared.token.Number.{Number}
use Rattle.text_tokens.specs.Reading.{digits_at, number_at, token_at}

pub capped_small : (v : ℕ) → v ≤ 255 → capped v ≡ v
capped_small v l = go (ltb v 255) refl
  where
    go : (t : Bool) → ltb v 255 ≡ t → capped v ≡ v
    go true e = rw e
    go false e = rw e (omega (arith, ltb-false v 255 e))

pub capped_large : (v : ℕ) → 255 ≤ v → capped v ≡ 255
capped_large v l = rw (le-ltb v 255 l)

pub capped_low : (v : ℕ) → capped v ≤ 255
capped_low v = go (ltb v 255) refl
  where
    go : (t : Bool) → ltb v 255 ≡ t → capped v ≤ 255
    go true e = rw e (omega (arith, ltb-true v 255 e))
    go false e = rw e (omega arith)

-- a digit more makes no number smaller
value_grows : (v : ℕ) (ds : List ℕ) → v ≤ value_from v ds
value_grows v [] = omega arith
value_grows v (d ∷ ds) = omega (arith, value_grows (v * 10 + (d - 48)) ds)

capped_from : (v : ℕ) (ds : List ℕ) → capped (value_from (capped v) ds) ≡ capped (value_from v ds)
capped_from v ds = go (ltb v 255) refl
  where
    go : (t : Bool) → ltb v 255 ≡ t → capped (value_from (capped v) ds) ≡ capped (value_from v ds)
    go true e = ap (λ (w : ℕ). capped (value_from w ds)) (rw e)
    go false e =
        let large : 255 ≤ v = ltb-false v 255 e in
        ap (λ (w : ℕ). capped (value_from w ds)) (capped_large v large)
        ∙ capped_large (value_from 255 ds) (value_grows 255 ds)
        ∙ sym (capped_large (value_from v ds) (omega (arith, large, value_grows v ds)))

-- the number of the digits read, v, and of those at the front of ys, which stand at a place
abbrev pub going_on : ℕ → List ℕ → ℕ → Number
going_on v ys at = record { value = capped (value_from v (take (digits_length ys) ys)); after = at + digits_length ys }

module _ (xs : List ℕ) (v at : ℕ) (low : v ≤ 255) where
  abbrev Ends : Type 0
  Ends = record { value = v; after = at } ≡ going_on v (drop at xs) at

  -- another digit
  pub digit_more : at < length xs → is_digit (get_or xs at 0) ≡ true
      → going_on v (drop at xs) at ≡ going_on (capped (v * 10 + (get_or xs at 0 - 48))) (drop (at + 1) xs) (at + 1)
  digit_more l is = rw (drop-cons xs at 0 l, add-one at, is) (λ k. record { value = value k; after = after k })
    where
      value : capped (value_from (v * 10 + (get_or xs at 0 - 48)) (take (digits_length (drop (suc at) xs)) (drop (suc at) xs)))
          ≡ capped (value_from (capped (v * 10 + (get_or xs at 0 - 48))) (take (digits_length (drop (suc at) xs)) (drop (suc at) xs)))
      value = sym (capped_from (v * 10 + (get_or xs at 0 - 48)) (take (digits_length (drop (suc at) xs)) (drop (suc at) xs)))

      after : at + suc (digits_length (drop (suc at) xs)) ≡ suc at + digits_length (drop (suc at) xs)
      after = omega arith

  -- no digit
  pub digit_none : at < length xs → is_digit (get_or xs at 0) ≡ false → Ends
  digit_none l is = rw (drop-cons xs at 0 l, is, capped_small v low, add-zero at)

  -- the text's end
  pub digits_end : at ≡ length xs → Ends
  digits_end e = rw (e, drop-length, capped_small v low, add-zero)

-- ---- the number and the token at a place

module _ (xs : List ℕ) (at : ℕ) where
  pub number_end : at ≡ length xs → record { value = 0; after = at } ≡ number_at xs at
  number_end e = rw (e, drop-length, add-zero)

  module _ (l : at < length xs) where
    pub number_nought : get_or xs at 0 ≡ 48 → record { value = 0; after = at + 1 } ≡ number_at xs at
    number_nought e = rw (drop-cons xs at 0 l, e)

    pub number_other : (get_or xs at 0 ≡ 48 → ⊥) → digits_at xs at ≡ number_at xs at
    number_other h = rw (drop-cons xs at 0 l, ne_eqb (get_or xs at 0) 48 h)

    -- a letter without a number
    pub token_alone : takes_number (get_or xs at 0) ≡ false
        → Some (record { letter = get_or xs at 0; value = 0; after = at + 1 }) ≡ token_at xs at
    token_alone h = rw (lt-ltb at (length xs) l, h, add-zero)

    -- a letter with its number
    pub token_number : takes_number (get_or xs at 0) ≡ true → (k : Number) → k ≡ number_at xs (at + 1)
        → Some (record { letter = get_or xs at 0; value = k.value; after = k.after }) ≡ token_at xs at
    token_number h k e = rw (lt-ltb at (length xs) l, h, e)

  pub token_end : length xs ≤ at → None ≡ token_at xs at
  token_end l = rw (le-ltb at (length xs) l)
