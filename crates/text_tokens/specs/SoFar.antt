-- Reading the tokens of a text one by one: what holds between two of them.
-- Assumes nothing.
use Rattle.std.specs.Prelude.{◌≡◌, refl, Bool, true, false, List, [], ◌∷◌, ◌++◌, ℕ, zero, suc, ◌+◌, ◌*◌, ◌≤◌, ◌<◌, ltb, eqb, length, get_or, take, drop, set, Option, Some, None}
use Rattle.std.proofs.Common.{sym, ap, ◌∙◌, append-nil, add-one, arith, length-drop, drop_of_length-le, take-append-drop, drop-cons, drop-drop, ltb-true, ltb-false, lt-ltb}
use Rattle.std.proofs.lemmas.List.{length-map}
use Rattle.wire.specs.Choice.{pick}
use Rattle.wire.specs.Onto.{onto}
use Rattle.wire.proofs.Onto.{onto_more}
use Rattle.pattern.specs.Checks.Finding.{Check, passes, refuses, refuses_if, ◌then◌, found, refused, unless}
use Rattle.typed_text.specs.Text.{is_digit}
use Rattle.typed_text.specs.Tokens.{limit_of, range_check}
use Rattle.typed_text.specs.Tokens as text
use Rattle.typed_text.specs.Spelled.{takes_number, digits_length, numeral_length, number_length, number_value, tokens_from, byte_tokens, capped, token_word, token_words, passed_over}
use Rattle.text_tokens.specs.declared.token.Token.{Token}
use Rattle.text_tokens.specs.declared.tokens.OutOfRange.{OutOfRange}
use Rattle.text_tokens.specs.Reading.{token_of, token_at}
use Rattle.text_tokens.specs.Ranged.{first_beyond}
use Rattle.text_tokens.specs.Digits.{capped_small, capped_large}
use Rattle.text_tokens.specs.Letters.{limit_low}

-- the check of all tokens, with the first number out of range among those that were read
abbrev pub beyond_then : Option OutOfRange → Check → Check
beyond_then None others = others
beyond_then (Some e) others = refuses 31 e.0

-- n tokens were read, up to a place, and stored in front of what was there
pub record SoFar (xs out tokens : List ℕ) (at n : ℕ) (beyond : Option OutOfRange) : Type 0 where
  pub inside : at ≤ length xs
  pub fewer : n ≤ at
  pub counted : length (take n (byte_tokens xs)) ≡ n
  pub left : drop n (byte_tokens xs) ≡ tokens_from 0 (drop at xs) at
  pub words : tokens ≡ onto (token_words (take n (byte_tokens xs))) out
  pub ranges : range_check (byte_tokens xs) ≡ beyond_then beyond (range_check (drop n (byte_tokens xs)))

pub none_yet : (xs out : List ℕ) → SoFar xs out out 0 0 None
unfolding onto
none_yet xs out = record { inside = omega arith; fewer = omega arith; counted = refl; left = refl; words = refl; ranges = refl }

-- ---- the next token

pub token_is : (xs : List ℕ) (at : ℕ) (t : Token) → token_at xs at ≡ Some t
    → (at < length xs) × (t ≡ token_of (get_or xs at 0) (drop (at + 1) xs) at)
token_is xs at t e = go (ltb at (length xs)) refl e
  where
    go : (s : Bool) → ltb at (length xs) ≡ s → pick s (Some (token_of (get_or xs at 0) (drop (at + 1) xs) at)) None ≡ Some t
        → (at < length xs) × (t ≡ token_of (get_or xs at 0) (drop (at + 1) xs) at)
    go true h f = (ltb-true at (length xs) h, cc)
    go false h f = absurd (let z : ◌≡◌ {A = ℕ} 0 1 = cc in omega arith)

pub end_is : (xs : List ℕ) (at : ℕ) → token_at xs at ≡ None → length xs ≤ at
end_is xs at e = go (ltb at (length xs)) refl e
  where
    go : (s : Bool) → ltb at (length xs) ≡ s → pick s (Some (token_of (get_or xs at 0) (drop (at + 1) xs) at)) None ≡ None
        → length xs ≤ at
    go true h f = absurd (let z : ◌≡◌ {A = ℕ} 0 1 = cc in omega arith)
    go false h f = ltb-false at (length xs) h

-- the first of those that are left
first_left : {A : Type 0} (n : ℕ) (l : List A) (x : A) (rest : List A) → drop n l ≡ x ∷ rest → length (take n l) ≡ n
    → (take (suc n) l ≡ take n l ++ (x ∷ [])) × ((drop (suc n) l ≡ rest) × (length (take (suc n) l) ≡ suc n))
first_left zero [] x rest e c = absurd (let z : ◌≡◌ {A = ℕ} 0 1 = cc in omega arith)
first_left {A} zero (y ∷ l) x rest e c = (let h : y ≡ x = cc in ap (λ (z : A). z ∷ []) h, (cc, refl))
first_left (suc n) [] x rest e c = absurd (let z : ◌≡◌ {A = ℕ} 0 1 = cc in omega arith)
first_left {A} (suc n) (y ∷ l) x rest e c =
    let r = first_left n l x rest e (omega (arith, c)) in
    (ap (λ (z : List A). y ∷ z) r.0, (r.1.0, ap suc r.1.1))

words_append : (ts us : List text.Token) → token_words (ts ++ us) ≡ token_words ts ++ token_words us
words_append [] us = refl
words_append (t ∷ ts) us = ap (λ (l : List ℕ). token_word t ∷ l) (words_append ts us)

-- a number is beyond a limit where the capped one is
capped_beyond : (limit v : ℕ) → limit < 255 → ltb limit (capped v) ≡ ltb limit v
capped_beyond limit v low = go (ltb v 255) refl
  where
    go : (s : Bool) → ltb v 255 ≡ s → ltb limit (capped v) ≡ ltb limit v
    go true e = ap (ltb limit) (capped_small v (omega (arith, ltb-true v 255 e)))
    go false e =
        let large : 255 ≤ v = ltb-false v 255 e in
        ap (ltb limit) (capped_large v large) ∙ lt-ltb limit 255 low ∙ sym (lt-ltb limit v (omega (arith, low, large)))

beyond_more : (beyond : Option OutOfRange) (c v i : ℕ) (others : Check)
    → beyond_then beyond (refuses_if (ltb (limit_of c) v) 31 (i + 1) then others) ≡ beyond_then (first_beyond beyond c (capped v) i) others
beyond_more (Some e) c v i others = refl
beyond_more None c v i others = rw (capped_beyond (limit_of c) v (limit_low c)) (go (ltb (limit_of c) v))
  where
    go : (t : Bool) → (refuses_if t 31 (i + 1) then others) ≡ beyond_then (pick t (Some (record { 0 = i + 1 })) None) others
    go true = refl
    go false = refl

-- a number ends inside the text
digits_inside : (ys : List ℕ) → digits_length ys ≤ length ys
digits_inside [] = omega arith
digits_inside (d ∷ ds) = go (is_digit d) refl (digits_inside ds)
  where
    go : (t : Bool) → is_digit d ≡ t → digits_length ds ≤ length ds → digits_length (d ∷ ds) ≤ length (d ∷ ds)
    go true e h = rw e (omega (arith, h))
    go false e h = rw e (omega arith)

number_inside : (c : ℕ) (ys : List ℕ) → number_length c ys ≤ length ys
number_inside c ys = go (takes_number c) refl
  where
    numeral_inside : (zs : List ℕ) → numeral_length zs ≤ length zs
    numeral_inside [] = omega arith
    numeral_inside (d ∷ ds) = one (eqb d 48) refl
      where
        one : (t : Bool) → eqb d 48 ≡ t → numeral_length (d ∷ ds) ≤ length (d ∷ ds)
        one true e = rw e (omega arith)
        one false e = rw e (digits_inside (d ∷ ds))

    go : (t : Bool) → takes_number c ≡ t → number_length c ys ≤ length ys
    go true e = rw e (numeral_inside ys)
    go false e = rw e (omega arith)

module _ {xs out tokens : List ℕ} {at n : ℕ} {beyond : Option OutOfRange} (s : SoFar xs out tokens at n beyond) (short : length xs ≤ length out) (l : at < length xs) where
  abbrev b : ℕ
  b = get_or xs at 0

  abbrev bs : List ℕ
  bs = drop (at + 1) xs

  -- the token that is read, as it stands in the list of all
  abbrev here : text.Token
  here = record { letter = b; value = number_value b bs; place = at }

  abbrev after : ℕ
  after = at + 1 + number_length b bs

  next_left : drop n (byte_tokens xs) ≡ here ∷ tokens_from 0 (drop after xs) after
  next_left =
      s.left
      ∙ ap (λ (l : List ℕ). tokens_from 0 l at) (drop-cons xs at 0 l ∙ ap (λ (m : ℕ). b ∷ drop m xs) (sym (add-one at)))
      ∙ ap (λ (l : List text.Token). here ∷ l)
      (passed_over (number_length b bs) bs (at + 1)
      ∙ ap (λ (l : List ℕ). tokens_from 0 l after) (drop-drop (number_length b bs) (at + 1) xs))

  -- one token more
  pub one_more : (t : Token) → t ≡ token_of b bs at → (word : ℕ) (beyond' : Option OutOfRange) → word ≡ t.letter * 256 + t.value
      → beyond' ≡ first_beyond beyond t.letter t.value at → SoFar xs out (set tokens n word) t.after (n + 1) beyond'
  one_more t e word beyond' f g = rw (e, f, g, add-one n, e) record {
    inside = omega (arith, number_inside b bs, length-drop (at + 1) xs);
    fewer = omega (arith, s.fewer);
    counted = first.1.1;
    left = first.1.0;
    words = stored;
    ranges = s.ranges ∙ ap (λ (ts : List text.Token). beyond_then beyond (range_check ts)) next_left
        ∙ beyond_more beyond b (number_value b bs) at (range_check (tokens_from 0 (drop after xs) after))
        ∙ ap (λ (ts : List text.Token). beyond_then (first_beyond beyond b (capped (number_value b bs)) at) (range_check ts)) (sym first.1.0);
  }
    where
      first : (take (suc n) (byte_tokens xs) ≡ take n (byte_tokens xs) ++ (here ∷ []))
          × ((drop (suc n) (byte_tokens xs) ≡ tokens_from 0 (drop after xs) after) × (length (take (suc n) (byte_tokens xs)) ≡ suc n))
      first = first_left n (byte_tokens xs) here (tokens_from 0 (drop after xs) after) next_left s.counted

      long : length (token_words (take n (byte_tokens xs))) ≡ n
      long = length-map (take n (byte_tokens xs)) token_word ∙ s.counted

      place : n ≡ length (token_words (take n (byte_tokens xs))) + 0
      place = omega (arith, long)

      stored : set tokens n (token_word here) ≡ onto (token_words (take (suc n) (byte_tokens xs))) out
      stored =
          ap (λ (l : List ℕ). set l n (token_word here)) s.words
          ∙ ap (λ (k : ℕ). set (onto (token_words (take n (byte_tokens xs))) out) k (token_word here)) place
          ∙ onto_more (token_words (take n (byte_tokens xs))) (token_word here ∷ []) out (omega (arith, long, short, l, s.fewer))
          ∙ ap (λ (l : List ℕ). onto l out) (sym (words_append (take n (byte_tokens xs)) (here ∷ [])) ∙ ap token_words (sym first.0))

-- ---- the text's end

module _ {xs out tokens : List ℕ} {at n : ℕ} {beyond : Option OutOfRange} (s : SoFar xs out tokens at n beyond) (l : length xs ≤ at) where
  none_left : drop n (byte_tokens xs) ≡ []
  none_left = s.left ∙ ap (λ (l : List ℕ). tokens_from 0 l at) (drop_of_length-le xs l)

  all_read : take n (byte_tokens xs) ≡ byte_tokens xs
  all_read =
      sym (append-nil (take n (byte_tokens xs))) ∙ ap (λ (ts : List text.Token). take n (byte_tokens xs) ++ ts) (sym none_left)
      ∙ take-append-drop n (byte_tokens xs)

  pub all_words : tokens ≡ onto (token_words (byte_tokens xs)) out
  all_words = s.words ∙ ap (λ (ts : List text.Token). onto (token_words ts) out) all_read

  all_ranges : range_check (byte_tokens xs) ≡ beyond_then beyond passes
  all_ranges = s.ranges ∙ ap (λ (ts : List text.Token). beyond_then beyond (range_check ts)) none_left

  pub all_within : beyond ≡ None → found n ≡ unless (range_check (byte_tokens xs)) (length (byte_tokens xs))
  all_within e = rw (all_ranges, e) (ap found (sym s.counted ∙ ap length all_read))

  pub some_beyond : (e : OutOfRange) → beyond ≡ Some e → refused 31 e.0 ≡ unless (range_check (byte_tokens xs)) (length (byte_tokens xs))
  some_beyond e h = rw (all_ranges, h)
