-- An automaton with a stack that goes through a text byte by byte: what may come next, and the place where nothing may. The code goes by it;
-- that its place is the one that `FaultAt` says is a law of `proofs/Viable`.
-- Assumes nothing.
use Rattle.std.specs.Prelude.{◌≡◌, refl, Bool, true, false, ◌&&◌, ◌||◌, List, [], ◌∷◌, ◌++◌, ◌⊎◌, ℕ, ◌+◌, eqb}
use Rattle.std.proofs.Common.{sym, ◌∙◌, ap, subst, inl, inr, eqb-true}
use Rattle.std.proofs.lemmas.Bool.{false≢true}
use Rattle.wire.specs.Choice.{pick}
use Rattle.typed_text.specs.Text.{is_digit, begins_number, all_digits, Numeral, nought, from, spell_number, NodeText, RowText, IsText}
use Rattle.typed_text.specs.Text as text

-- what is still to come, for the text to be whole
pub data Want : Type 0 where
  node : Want
  -- a row, or the rest of one: possibly empty
  row : Want
  number : Want
  -- the digits of a number that has begun: possibly none
  digits : Want
  byte : ℕ → Want
  one_of : ℕ → ℕ → Want

-- what a byte makes of it: nothing, if the byte can't come next
pub data Next : Type 0 where
  none : Next
  some : List Want → Next

-- what is wanted behind a node text's first byte, a row's and a number's
abbrev pub node_takes : ℕ → Next
node_takes b =
    pick (eqb b 112) (some (number ∷ []))
    (pick (eqb b 110) (some (number ∷ []))
    (pick (eqb b 33) (some (node ∷ []))
    (pick (eqb b 40) (some (node ∷ one_of 38 124 ∷ node ∷ byte 41 ∷ []))
    (pick (eqb b 60) (some (number ∷ byte 62 ∷ node ∷ []))
    (pick (eqb b 91) (some (row ∷ one_of 61 35 ∷ number ∷ row ∷ byte 93 ∷ []))
    none)))))

abbrev pub row_takes : ℕ → Next
row_takes b =
    pick (eqb b 47) (some (number ∷ row ∷ []))
    (pick (eqb b 64) (some (number ∷ row ∷ []))
    (pick (eqb b 63) (some (node ∷ row ∷ []))
    (pick (eqb b 123) (some (row ∷ byte 124 ∷ row ∷ byte 125 ∷ row ∷ []))
    none)))

abbrev pub takes : Want → ℕ → Next
takes node b = node_takes b
takes row b = row_takes b
takes number b = pick (eqb b 48) (some []) (pick (begins_number b) (some (digits ∷ [])) none)
takes digits b = pick (is_digit b) (some (digits ∷ [])) none
takes (byte c) b = pick (eqb b c) (some []) none
takes (one_of c d) b = pick (eqb b c || eqb b d) (some []) none

-- may be nothing
abbrev pub optional : Want → Bool
optional node = false
optional row = true
optional number = false
optional digits = true
optional (byte c) = false
optional (one_of c d) = false

abbrev pub put_on : Next → List Want → Next → Next
put_on none ws other = other
put_on (some new) ws other = some (new ++ ws)

-- one byte, the first want being on top: an optional one that can't take it is passed over
abbrev pub next : List Want → ℕ → Next
next [] b = none
next (w ∷ ws) b = put_on (takes w b) ws (pick (optional w) (next ws b) none)

abbrev pub all_optional : List Want → Bool
all_optional [] = true
all_optional (w ∷ ws) = optional w && all_optional ws

-- where the bytes leave the grammar, if they do
pub data Place : Type 0 where
  whole : Place
  fault : ℕ → Place

abbrev pub end_place : Bool → ℕ → Place
end_place true k = whole
end_place false k = fault k

abbrev pub next_place : Next → ℕ → (List Want → Place) → Place
next_place none k onward = fault k
next_place (some ws) k onward = onward ws

-- the rest of a text, from place k on
abbrev pub place_from : List ℕ → List Want → ℕ → Place
place_from [] ws k = end_place (all_optional ws) k
place_from (b ∷ bs) ws k = next_place (next ws b) k (λ vs. place_from bs vs (k + 1))

-- the whole is a node text
abbrev pub place_of : List ℕ → Place
place_of xs = place_from xs (node ∷ []) 0

-- ---- laws

pub and_is_true : (a b : Bool) → a && b ≡ true → (a ≡ true) × (b ≡ true)
and_is_true true b h = (refl, h)
and_is_true false b h = absurd (false≢true h)

-- whether the automaton goes through the rest of a text, and may end there
abbrev pub accepts_from : List ℕ → Next → Bool
accepts_from [] none = false
accepts_from [] (some ws) = all_optional ws
accepts_from (b ∷ bs) none = false
accepts_from (b ∷ bs) (some ws) = accepts_from bs (next ws b)

abbrev pub accepts : List Want → List ℕ → Bool
accepts ws xs = accepts_from xs (some ws)

-- what may stand below: nothing that a digit begins, and below a row nothing that a row's item begins
abbrev pub NoDigit : List Want → Type 0
NoDigit ws = (b : ℕ) → is_digit b ≡ true → next ws b ≡ none

abbrev pub NoItem : List Want → Type 0
NoItem ws = (b : ℕ) → row_takes b ≡ none ⊎ (next ws b ≡ none)

refused : (ys : List ℕ) → accepts_from ys none ≡ false
refused [] = refl
refused (b ∷ ys) = refl

-- after the last digit, the rest is asked
pub digits_over : (ws : List Want) (ys : List ℕ) → NoDigit ws → accepts ws ys ≡ true → accepts (digits ∷ ws) ys ≡ true
digits_over ws [] nd h = h
digits_over ws (b ∷ ys) nd h = go (is_digit b) refl
  where
    go : (t : Bool) → is_digit b ≡ t → accepts_from ys (put_on (pick t (some (digits ∷ [])) none) ws (next ws b)) ≡ true
    go true e = absurd (false≢true (sym (refused ys) ∙ (sym (ap (accepts_from ys) (nd b e)) ∙ h)))
    go false e = h

-- digits, one after the other
pub digits_go : (ws : List Want) (ds ys : List ℕ) → all_digits ds ≡ true → accepts (digits ∷ ws) ys ≡ true → accepts (digits ∷ ws) (ds ++ ys) ≡ true
digits_go ws [] ys q h = h
digits_go ws (d ∷ ds) ys q h =
    let r = and_is_true (is_digit d) (all_digits ds) q in
    subst (λ (t : Bool). accepts_from (ds ++ ys) (put_on (pick t (some (digits ∷ [])) none) ws (next ws d)) ≡ true) (sym r.0) (digits_go ws ds ys r.1 h)

pub number_goes : (ws : List Want) (k : Numeral) (ys : List ℕ) → NoDigit ws → accepts ws ys ≡ true → accepts (number ∷ ws) (spell_number k ++ ys) ≡ true
number_goes ws nought ys nd h = h
number_goes ws (from d ds p q) ys nd h = go (eqb d 48) refl
  where
    go : (t : Bool) → eqb d 48 ≡ t → accepts_from (ds ++ ys) (put_on (pick t (some []) (pick (begins_number d) (some (digits ∷ [])) none)) ws none) ≡ true
    go true e = let z = eqb-true d 48 e in absurd (false≢true (sym (ap (λ (x : ℕ). begins_number x) z) ∙ p))
    go false e = rw p (digits_go ws ds ys q (digits_over ws ys nd h))

-- an optional row is passed over
pub row_over : (ws : List Want) (ys : List ℕ) → NoItem ws → accepts ws ys ≡ true → accepts (row ∷ ws) ys ≡ true
row_over ws [] ni h = h
row_over ws (b ∷ ys) ni h = go (ni b)
  where
    go : row_takes b ≡ none ⊎ (next ws b ≡ none) → accepts_from ys (put_on (row_takes b) ws (next ws b)) ≡ true
    go (inl e) = rw e h
    go (inr e) = absurd (false≢true (sym (refused ys) ∙ (sym (ap (accepts_from ys) e) ∙ h)))

-- ---- what follows
digit_not : (b c : ℕ) → is_digit b ≡ true → is_digit c ≡ false → eqb b c ≡ false
digit_not b c p q = go (eqb b c) refl
  where
    go : (t : Bool) → eqb b c ≡ t → eqb b c ≡ false
    go true e = absurd (false≢true (sym q ∙ (sym (ap is_digit (eqb-true b c e)) ∙ p)))
    go false e = e

byte_no_digit : (c : ℕ) (ws : List Want) → is_digit c ≡ false → NoDigit (byte c ∷ ws)
byte_no_digit c ws q b p = rw (digit_not b c p q)

one_no_digit : (c d : ℕ) (ws : List Want) → is_digit c ≡ false → is_digit d ≡ false → NoDigit (one_of c d ∷ ws)
one_no_digit c d ws q r b p = rw (digit_not b c p q, digit_not b d p r)

row_no_digit : (ws : List Want) → NoDigit ws → NoDigit (row ∷ ws)
row_no_digit ws nd b p = rw (digit_not b 47 p refl, digit_not b 64 p refl, digit_not b 63 p refl, digit_not b 123 p refl) (nd b p)

byte_no_item : (c : ℕ) (ws : List Want) → row_takes c ≡ none → NoItem (byte c ∷ ws)
byte_no_item c ws q b = go (eqb b c) refl
  where
    go : (t : Bool) → eqb b c ≡ t → row_takes b ≡ none ⊎ (next (byte c ∷ ws) b ≡ none)
    go true e = inl (ap row_takes (eqb-true b c e) ∙ q)
    go false e = inr (rw e)

one_no_item : (c d : ℕ) (ws : List Want) → row_takes c ≡ none → row_takes d ≡ none → NoItem (one_of c d ∷ ws)
one_no_item c d ws q r b = go (eqb b c) (eqb b d) refl refl
  where
    go : (t u : Bool) → eqb b c ≡ t → eqb b d ≡ u → row_takes b ≡ none ⊎ (next (one_of c d ∷ ws) b ≡ none)
    go true u e f = inl (ap row_takes (eqb-true b c e) ∙ q)
    go false true e f = inl (ap row_takes (eqb-true b d f) ∙ r)
    go false false e f = inr (rw (e, f))

-- ---- every text is accepted
abbrev RowGoes : RowText → Type 0
RowGoes r = (ws : List Want) (ys : List ℕ) → NoDigit ws → NoItem ws → accepts ws ys ≡ true → accepts (row ∷ ws) (text.row r ys) ≡ true

compared : (r : RowText) (k : Numeral) (q : RowText) (ws : List Want) (ys : List ℕ) (c : ℕ) → eqb c 61 || eqb c 35 ≡ true → NoDigit ws
    → accepts ws ys ≡ true → RowGoes r → RowGoes q
    → accepts (row ∷ one_of 61 35 ∷ number ∷ row ∷ byte 93 ∷ ws) (text.row r (c ∷ spell_number k ++ text.row q (93 ∷ ys))) ≡ true
compared r k q ws ys c is nd h first second =
    first (one_of 61 35 ∷ number ∷ row ∷ byte 93 ∷ ws) _ (one_no_digit 61 35 _ refl refl) (one_no_item 61 35 _ refl refl)
    (subst (λ (t : Bool). accepts_from (spell_number k ++ text.row q (93 ∷ ys)) (put_on (pick t (some []) none) (number ∷ row ∷ byte 93 ∷ ws) none) ≡ true) (sym is) (number_goes (row ∷ byte 93 ∷ ws) k (text.row q (93 ∷ ys)) (row_no_digit (byte 93 ∷ ws) (byte_no_digit 93 ws refl))
    (second (byte 93 ∷ ws) (93 ∷ ys) (byte_no_digit 93 ws refl) (byte_no_item 93 ws refl) h)))

mutual
  pub node_goes : (t : NodeText) (ws : List Want) (ys : List ℕ) → NoDigit ws → accepts ws ys ≡ true → accepts (node ∷ ws) (text.node t ys) ≡ true
  node_goes (NodeText.property k) ws ys nd h = number_goes ws k ys nd h
  node_goes (NodeText.name k) ws ys nd h = number_goes ws k ys nd h
  node_goes (NodeText.not t) ws ys nd h = node_goes t ws ys nd h
  node_goes (NodeText.both t u) ws ys nd h =
      node_goes t (one_of 38 124 ∷ node ∷ byte 41 ∷ ws) _ (one_no_digit 38 124 _ refl refl)
      (node_goes u (byte 41 ∷ ws) (41 ∷ ys) (byte_no_digit 41 ws refl) h)
  node_goes (NodeText.either t u) ws ys nd h =
      node_goes t (one_of 38 124 ∷ node ∷ byte 41 ∷ ws) _ (one_no_digit 38 124 _ refl refl)
      (node_goes u (byte 41 ∷ ws) (41 ∷ ys) (byte_no_digit 41 ws refl) h)
  node_goes (NodeText.after k t) ws ys nd h =
      number_goes (byte 62 ∷ node ∷ ws) k (62 ∷ text.node t ys) (byte_no_digit 62 _ refl) (node_goes t ws ys nd h)
  node_goes (NodeText.same r k q) ws ys nd h = compared r k q ws ys 61 refl nd h (λ vs zs a b c. row_goes r vs zs a b c) (λ vs zs a b c. row_goes q vs zs a b c)
  node_goes (NodeText.differ r k q) ws ys nd h = compared r k q ws ys 35 refl nd h (λ vs zs a b c. row_goes r vs zs a b c) (λ vs zs a b c. row_goes q vs zs a b c)

  pub row_goes : (r : RowText) (ws : List Want) (ys : List ℕ) → NoDigit ws → NoItem ws → accepts ws ys ≡ true → accepts (row ∷ ws) (text.row r ys) ≡ true
  row_goes RowText.end ws ys nd ni h = row_over ws ys ni h
  row_goes (RowText.step k r) ws ys nd ni h = number_goes (row ∷ ws) k (text.row r ys) (row_no_digit ws nd) (row_goes r ws ys nd ni h)
  row_goes (RowText.jump k r) ws ys nd ni h = number_goes (row ∷ ws) k (text.row r ys) (row_no_digit ws nd) (row_goes r ws ys nd ni h)
  row_goes (RowText.test t r) ws ys nd ni h = node_goes t (row ∷ ws) (text.row r ys) (row_no_digit ws nd) (row_goes r ws ys nd ni h)
  row_goes (RowText.brace a b r) ws ys nd ni h =
      row_goes a (byte 124 ∷ row ∷ byte 125 ∷ row ∷ ws) _ (byte_no_digit 124 _ refl) (byte_no_item 124 _ refl)
      (row_goes b (byte 125 ∷ row ∷ ws) _ (byte_no_digit 125 _ refl) (byte_no_item 125 _ refl) (row_goes r ws ys nd ni h))

pub text_accepted : (xs : List ℕ) → IsText xs → accepts (node ∷ []) xs ≡ true
text_accepted xs (t, e) = subst (λ (l : List ℕ). accepts (node ∷ []) l ≡ true) e (node_goes t [] [] (λ b p. refl) refl)
