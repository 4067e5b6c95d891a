-- The tokens read off bytes, whatever the bytes are: the code reads these. Those of a text's bytes are the text's tokens.
-- Assumes nothing.
use Rattle.std.specs.Prelude.{◌≡◌, refl, Bool, true, false, ◌||◌, List, [], ◌∷◌, ◌++◌, map, ℕ, zero, suc, ◌+◌, ◌*◌, ◌≤◌, ltb, eqb, leb, length, take, drop}
use Rattle.std.proofs.Common.{sym, ap, ◌∙◌, add-zero, arith, length-append, leb-true, le-leb, ne_eqb}
use Rattle.std.proofs.Math.Seq.{take-append_seam, drop-append_seam}
use Rattle.wire.specs.Choice.{pick}
use Rattle.typed_text.specs.Text.{is_digit, begins_number, all_digits, Numeral, nought, from, spell_number, NodeText, RowText, node, row}
use Rattle.typed_text.specs.Tokens.{value_from, value_of, Token, sign, numbered, node_size, row_size, number_size, node_tokens, row_tokens, tokens_of}
use Rattle.typed_text.specs.Machine.{and_is_true}

-- a number belongs to `p`, `n`, `<`, `/`, `@`, `=` and `#`
abbrev pub takes_number : ℕ → Bool
takes_number b = eqb b 112 || eqb b 110 || eqb b 60 || eqb b 47 || eqb b 64 || eqb b 61 || eqb b 35

-- how many digits stand at the front
abbrev pub digits_length : List ℕ → ℕ
digits_length [] = 0
digits_length (d ∷ ds) = pick (is_digit d) (suc (digits_length ds)) 0

-- how many bytes the number at the front has: `0` stands alone, and without a digit there is none
abbrev pub numeral_length : List ℕ → ℕ
numeral_length [] = 0
numeral_length (d ∷ ds) = pick (eqb d 48) 1 (digits_length (d ∷ ds))

-- how many bytes behind a letter belong to its token
abbrev pub number_length : ℕ → List ℕ → ℕ
number_length b bs = pick (takes_number b) (numeral_length bs) 0

-- the value of the token of a letter
abbrev pub number_value : ℕ → List ℕ → ℕ
number_value b bs = value_from 0 (take (number_length b bs) bs)

-- the tokens of bytes the first of which stands at place i, and of which as many belong to the token before as the first number says
abbrev pub tokens_from : ℕ → List ℕ → ℕ → List Token
tokens_from passed [] i = []
tokens_from zero (b ∷ bs) i = record { letter = b; value = number_value b bs; place = i } ∷ tokens_from (number_length b bs) bs (i + 1)
tokens_from (suc passed) (b ∷ bs) i = tokens_from passed bs (i + 1)

abbrev pub byte_tokens : List ℕ → List Token
byte_tokens xs = tokens_from 0 xs 0

-- a value as a byte holds it: every limit is below 255
abbrev pub capped : ℕ → ℕ
capped v = pick (ltb v 255) v 255

-- a token as one number of 16 bits
abbrev pub token_word : Token → ℕ
token_word t = t.letter * 256 + capped t.value

abbrev pub token_words : List Token → List ℕ
token_words ts = map token_word ts

-- ---- laws

-- there are no more tokens than bytes
tokens_fewer : (passed : ℕ) (xs : List ℕ) (i : ℕ) → length (tokens_from passed xs i) ≤ length xs
tokens_fewer passed [] i = omega arith
tokens_fewer zero (b ∷ bs) i = omega (arith, tokens_fewer (number_length b bs) bs (i + 1))
tokens_fewer (suc passed) (b ∷ bs) i = omega (arith, tokens_fewer passed bs (i + 1))

pub byte_tokens_fewer : (xs : List ℕ) → length (byte_tokens xs) ≤ length xs
byte_tokens_fewer xs = tokens_fewer 0 xs 0

-- bytes that belong to the token before are passed over
pub passed_over : (n : ℕ) (bs : List ℕ) (i : ℕ) → tokens_from n bs i ≡ tokens_from 0 (drop n bs) (i + n)
passed_over zero bs i = ap (tokens_from 0 bs) (sym (add-zero i))
passed_over (suc n) [] i = refl
passed_over (suc n) (b ∷ bs) i = passed_over n bs (i + 1) ∙ ap (tokens_from 0 (drop n bs)) place
  where
    place : i + 1 + n ≡ i + suc n
    place = omega arith

-- ---- how many bytes a text has

number_size_law : (k : Numeral) → number_size k ≡ length (spell_number k)
number_size_law nought = refl
number_size_law (from d ds p q) = omega arith

number_length_law : (k : Numeral) (ys : List ℕ) → length (spell_number k ++ ys) ≡ number_size k + length ys
number_length_law k ys = length-append (spell_number k) ys ∙ ap (λ (n : ℕ). n + length ys) (sym (number_size_law k))

mutual
  node_length : (t : NodeText) (ys : List ℕ) → length (node t ys) ≡ node_size t + length ys
  node_length (NodeText.property k) ys = omega (arith, number_length_law k ys, number_length_law k [])
  node_length (NodeText.name k) ys = omega (arith, number_length_law k ys, number_length_law k [])
  node_length (NodeText.not t) ys = omega (arith, node_length t ys)
  node_length (NodeText.both t u) ys =
      omega (arith, node_length t (38 ∷ node u (41 ∷ ys)), node_length u (41 ∷ ys), node_length t (38 ∷ node u (41 ∷ [])), node_length u (41 ∷ []))
  node_length (NodeText.either t u) ys =
      omega (arith, node_length t (124 ∷ node u (41 ∷ ys)), node_length u (41 ∷ ys), node_length t (124 ∷ node u (41 ∷ [])), node_length u (41 ∷ []))
  node_length (NodeText.after k t) ys =
      omega (arith, number_length_law k (62 ∷ node t ys), number_length_law k (62 ∷ node t []), node_length t ys)
  node_length (NodeText.same r k q) ys =
      omega (
        arith,
        row_length r (61 ∷ spell_number k ++ row q (93 ∷ ys)),
        number_length_law k (row q (93 ∷ ys)),
        row_length q (93 ∷ ys),
        row_length r (61 ∷ spell_number k ++ row q (93 ∷ [])),
        number_length_law k (row q (93 ∷ [])),
        row_length q (93 ∷ []),
      )
  node_length (NodeText.differ r k q) ys =
      omega (
        arith,
        row_length r (35 ∷ spell_number k ++ row q (93 ∷ ys)),
        number_length_law k (row q (93 ∷ ys)),
        row_length q (93 ∷ ys),
        row_length r (35 ∷ spell_number k ++ row q (93 ∷ [])),
        number_length_law k (row q (93 ∷ [])),
        row_length q (93 ∷ []),
      )

  row_length : (r : RowText) (ys : List ℕ) → length (row r ys) ≡ row_size r + length ys
  row_length RowText.end ys = omega arith
  row_length (RowText.step k r) ys = omega (arith, number_length_law k (row r ys), number_length_law k (row r []), row_length r ys)
  row_length (RowText.jump k r) ys = omega (arith, number_length_law k (row r ys), number_length_law k (row r []), row_length r ys)
  row_length (RowText.test t r) ys = omega (arith, node_length t (row r ys), node_length t (row r []), row_length r ys)
  row_length (RowText.brace a b r) ys =
      omega (
        arith,
        row_length a (124 ∷ row b (125 ∷ row r ys)),
        row_length b (125 ∷ row r ys),
        row_length r ys,
        row_length a (124 ∷ row b (125 ∷ row r [])),
        row_length b (125 ∷ row r []),
      )

-- ---- a number ends where no digit follows

digits_length_law : (ds ys : List ℕ) → all_digits ds ≡ true → digits_length ys ≡ 0 → digits_length (ds ++ ys) ≡ length ds
digits_length_law [] ys q n = n
digits_length_law (d ∷ ds) ys q n =
    let r = and_is_true (is_digit d) (all_digits ds) q in
    rw r.0 (ap suc (digits_length_law ds ys r.1 n))

begins_digit : (d : ℕ) → begins_number d ≡ true → (is_digit d ≡ true) × (eqb d 48 ≡ false)
begins_digit d p =
    let r = and_is_true (leb 49 d) (leb d 57) p in
    let low = leb-true 49 d r.0 in
    (rw (le-leb 48 d (omega (arith, low)), r.1), ne_eqb d 48 (λ e. omega (arith, low, e)))

numeral_length_law : (k : Numeral) (ys : List ℕ) → digits_length ys ≡ 0 → numeral_length (spell_number k ++ ys) ≡ length (spell_number k)
numeral_length_law nought ys n = refl
numeral_length_law (from d ds p q) ys n =
    let r = begins_digit d p in
    rw (r.1, r.0) (ap suc (digits_length_law ds ys q n))

numeral_value : (k : Numeral) → value_from 0 (spell_number k) ≡ value_of k
numeral_value nought = refl
numeral_value (from d ds p q) = refl

-- a letter with its number
numbered_spelled : (c : ℕ) → takes_number c ≡ true → (k : Numeral) (ys : List ℕ) (i : ℕ) → digits_length ys ≡ 0
    → tokens_from 0 (c ∷ spell_number k ++ ys) i ≡ numbered c k i ∷ tokens_from 0 ys (i + 1 + number_size k)
numbered_spelled c t k ys i n = λ j. record { letter = c; value = value j; place = i } ∷ rest j
  where
    long : number_length c (spell_number k ++ ys) ≡ length (spell_number k)
    long = rw t (numeral_length_law k ys n)

    value : number_value c (spell_number k ++ ys) ≡ value_of k
    value =
        ap (λ (m : ℕ). value_from 0 (take m (spell_number k ++ ys))) long
        ∙ ap (value_from 0) (take-append_seam (spell_number k) ys) ∙ numeral_value k

    rest : tokens_from (number_length c (spell_number k ++ ys)) (spell_number k ++ ys) (i + 1) ≡ tokens_from 0 ys (i + 1 + number_size k)
    rest =
        ap (λ (m : ℕ). tokens_from m (spell_number k ++ ys) (i + 1)) long
        ∙ passed_over (length (spell_number k)) (spell_number k ++ ys) (i + 1)
        ∙ ap (λ (zs : List ℕ). tokens_from 0 zs (i + 1 + length (spell_number k))) (drop-append_seam (spell_number k) ys)
        ∙ ap (λ (m : ℕ). tokens_from 0 ys (i + 1 + m)) (sym (number_size_law k))

-- a row begins with no digit, if what follows it doesn't
row_no_digit : (r : RowText) (ys : List ℕ) → digits_length ys ≡ 0 → digits_length (row r ys) ≡ 0
row_no_digit RowText.end ys n = n
row_no_digit (RowText.step k r) ys n = refl
row_no_digit (RowText.jump k r) ys n = refl
row_no_digit (RowText.test t r) ys n = refl
row_no_digit (RowText.brace a b r) ys n = refl

-- ---- the tokens of a text, before those of what follows it

abbrev at : List ℕ → ℕ → List Token
at ys i = tokens_from 0 ys i

abbrev RowSpelled : RowText → Type 0
RowSpelled r = (ys : List ℕ) (i : ℕ) → digits_length ys ≡ 0 → at (row r ys) i ≡ row_tokens r i (at ys (i + row_size r))

-- a comparison, by its letter
compared_spelled : (c : ℕ) → takes_number c ≡ true → is_digit c ≡ false → (r : RowText) (k : Numeral) (q : RowText) (ys : List ℕ) (i : ℕ) → RowSpelled r → RowSpelled q
    → at (row r (c ∷ spell_number k ++ row q (93 ∷ ys))) i
    ≡ row_tokens r i (numbered c k (i + row_size r) ∷ row_tokens q (i + row_size r + 1 + number_size k)
    (sign 93 (i + row_size r + 1 + number_size k + row_size q) ∷ at ys (i + row_size r + 1 + number_size k + row_size q + 1)))
compared_spelled c t d r k q ys i first second =
    first (c ∷ spell_number k ++ row q (93 ∷ ys)) i (rw d)
    ∙ ap (row_tokens r i)
    (numbered_spelled c t k (row q (93 ∷ ys)) (i + row_size r) (row_no_digit q (93 ∷ ys) refl)
    ∙ ap (λ (l : List Token). numbered c k (i + row_size r) ∷ l) (second (93 ∷ ys) (i + row_size r + 1 + number_size k) refl))

mutual
  node_spelled : (t : NodeText) (ys : List ℕ) (i : ℕ) → digits_length ys ≡ 0 → at (node t ys) i ≡ node_tokens t i (at ys (i + node_size t))
  node_spelled (NodeText.property k) ys i n =
      let place : i + 1 + number_size k ≡ i + node_size (NodeText.property k) = omega (arith, number_length_law k []) in
      numbered_spelled 112 refl k ys i n ∙ ap (λ (m : ℕ). numbered 112 k i ∷ at ys m) place
  node_spelled (NodeText.name k) ys i n =
      let place : i + 1 + number_size k ≡ i + node_size (NodeText.name k) = omega (arith, number_length_law k []) in
      numbered_spelled 110 refl k ys i n ∙ ap (λ (m : ℕ). numbered 110 k i ∷ at ys m) place
  node_spelled (NodeText.not t) ys i n =
      let place : i + 1 + node_size t ≡ i + node_size (NodeText.not t) = omega arith in
      ap (λ (l : List Token). sign 33 i ∷ l) (node_spelled t ys (i + 1) n ∙ ap (λ (m : ℕ). node_tokens t (i + 1) (at ys m)) place)
  node_spelled (NodeText.both t u) ys i n =
      let j = i + 1 + node_size t in
      let place : j + 1 + node_size u + 1 ≡ i + node_size (NodeText.both t u) =
      omega (arith, node_length t (38 ∷ node u (41 ∷ [])), node_length u (41 ∷ [])) in
      ap (λ (l : List Token). sign 40 i ∷ l)
      (node_spelled t (38 ∷ node u (41 ∷ ys)) (i + 1) refl
      ∙ ap (λ (l : List Token). node_tokens t (i + 1) (sign 38 j ∷ l))
      (node_spelled u (41 ∷ ys) (j + 1) refl ∙ ap (λ (m : ℕ). node_tokens u (j + 1) (sign 41 (j + 1 + node_size u) ∷ at ys m)) place))
  node_spelled (NodeText.either t u) ys i n =
      let j = i + 1 + node_size t in
      let place : j + 1 + node_size u + 1 ≡ i + node_size (NodeText.either t u) =
      omega (arith, node_length t (124 ∷ node u (41 ∷ [])), node_length u (41 ∷ [])) in
      ap (λ (l : List Token). sign 40 i ∷ l)
      (node_spelled t (124 ∷ node u (41 ∷ ys)) (i + 1) refl
      ∙ ap (λ (l : List Token). node_tokens t (i + 1) (sign 124 j ∷ l))
      (node_spelled u (41 ∷ ys) (j + 1) refl ∙ ap (λ (m : ℕ). node_tokens u (j + 1) (sign 41 (j + 1 + node_size u) ∷ at ys m)) place))
  node_spelled (NodeText.after k t) ys i n =
      let j = i + 1 + number_size k in
      let place : j + 1 + node_size t ≡ i + node_size (NodeText.after k t) = omega (arith, number_length_law k (62 ∷ node t [])) in
      numbered_spelled 60 refl k (62 ∷ node t ys) i refl
      ∙ ap (λ (l : List Token). numbered 60 k i ∷ sign 62 j ∷ l)
      (node_spelled t ys (j + 1) n ∙ ap (λ (m : ℕ). node_tokens t (j + 1) (at ys m)) place)
  node_spelled (NodeText.same r k q) ys i n =
      let l = i + 1 + row_size r + 1 + number_size k in
      let place : l + row_size q + 1 ≡ i + node_size (NodeText.same r k q) =
      omega (arith, row_length r (61 ∷ spell_number k ++ row q (93 ∷ [])), number_length_law k (row q (93 ∷ [])), row_length q (93 ∷ [])) in
      ap (λ (ts : List Token). sign 91 i ∷ ts)
      (compared_spelled 61 refl refl r k q ys (i + 1) (λ zs o h. row_spelled r zs o h) (λ zs o h. row_spelled q zs o h)
      ∙ ap (λ (m : ℕ). row_tokens r (i + 1) (numbered 61 k (i + 1 + row_size r) ∷ row_tokens q l (sign 93 (l + row_size q) ∷ at ys m))) place)
  node_spelled (NodeText.differ r k q) ys i n =
      let l = i + 1 + row_size r + 1 + number_size k in
      let place : l + row_size q + 1 ≡ i + node_size (NodeText.differ r k q) =
      omega (arith, row_length r (35 ∷ spell_number k ++ row q (93 ∷ [])), number_length_law k (row q (93 ∷ [])), row_length q (93 ∷ [])) in
      ap (λ (ts : List Token). sign 91 i ∷ ts)
      (compared_spelled 35 refl refl r k q ys (i + 1) (λ zs o h. row_spelled r zs o h) (λ zs o h. row_spelled q zs o h)
      ∙ ap (λ (m : ℕ). row_tokens r (i + 1) (numbered 35 k (i + 1 + row_size r) ∷ row_tokens q l (sign 93 (l + row_size q) ∷ at ys m))) place)

  row_spelled : (r : RowText) (ys : List ℕ) (i : ℕ) → digits_length ys ≡ 0 → at (row r ys) i ≡ row_tokens r i (at ys (i + row_size r))
  row_spelled RowText.end ys i n = ap (at ys) (sym (add-zero i))
  row_spelled (RowText.step k r) ys i n =
      let place : i + 1 + number_size k + row_size r ≡ i + row_size (RowText.step k r) = omega (arith, number_length_law k (row r [])) in
      numbered_spelled 47 refl k (row r ys) i (row_no_digit r ys n)
      ∙ ap (λ (l : List Token). numbered 47 k i ∷ l)
      (row_spelled r ys (i + 1 + number_size k) n ∙ ap (λ (m : ℕ). row_tokens r (i + 1 + number_size k) (at ys m)) place)
  row_spelled (RowText.jump k r) ys i n =
      let place : i + 1 + number_size k + row_size r ≡ i + row_size (RowText.jump k r) = omega (arith, number_length_law k (row r [])) in
      numbered_spelled 64 refl k (row r ys) i (row_no_digit r ys n)
      ∙ ap (λ (l : List Token). numbered 64 k i ∷ l)
      (row_spelled r ys (i + 1 + number_size k) n ∙ ap (λ (m : ℕ). row_tokens r (i + 1 + number_size k) (at ys m)) place)
  row_spelled (RowText.test t r) ys i n =
      let place : i + 1 + node_size t + row_size r ≡ i + row_size (RowText.test t r) = omega (arith, node_length t (row r [])) in
      ap (λ (l : List Token). sign 63 i ∷ l)
      (node_spelled t (row r ys) (i + 1) (row_no_digit r ys n)
      ∙ ap (node_tokens t (i + 1)) (row_spelled r ys (i + 1 + node_size t) n ∙ ap (λ (m : ℕ). row_tokens r (i + 1 + node_size t) (at ys m)) place))
  row_spelled (RowText.brace a b r) ys i n =
      let j = i + 1 + row_size a in
      let l = j + 1 + row_size b in
      let place : l + 1 + row_size r ≡ i + row_size (RowText.brace a b r) =
      omega (arith, row_length a (124 ∷ row b (125 ∷ row r [])), row_length b (125 ∷ row r [])) in
      ap (λ (ts : List Token). sign 123 i ∷ ts)
      (row_spelled a (124 ∷ row b (125 ∷ row r ys)) (i + 1) refl
      ∙ ap (λ (ts : List Token). row_tokens a (i + 1) (sign 124 j ∷ ts))
      (row_spelled b (125 ∷ row r ys) (j + 1) refl
      ∙ ap (λ (ts : List Token). row_tokens b (j + 1) (sign 125 l ∷ ts))
      (row_spelled r ys (l + 1) n ∙ ap (λ (m : ℕ). row_tokens r (l + 1) (at ys m)) place)))

-- the tokens read off a text's bytes are the text's
pub tokens_spelled : (t : NodeText) → byte_tokens (node t []) ≡ tokens_of t
tokens_spelled t = node_spelled t [] 0 refl
