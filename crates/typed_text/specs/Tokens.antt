-- The tokens of a text, in its order, each with its place: by these its numbers are held to their ranges, 02's refusal 31.
-- Assumes nothing.
use Rattle.std.specs.Prelude.{List, [], ◌∷◌, ℕ, ◌+◌, ◌-◌, ◌*◌, length, ltb, eqb}
use Rattle.wire.specs.Choice.{pick}
use Rattle.pattern.specs.Checks.Finding.{Check, passes, refuses_if, ◌then◌}
use Rattle.pattern.specs.File.Types.{max_name, max_property, max_axis, max_channel}
use Rattle.typed_text.specs.Text.{Numeral, nought, from, NodeText, RowText, node, row}

-- the value of a numeral: a whole number without an upper bound
abbrev pub value_from : ℕ → List ℕ → ℕ
value_from v [] = v
value_from v (d ∷ ds) = value_from (v * 10 + (d - 48)) ds

abbrev pub value_of : Numeral → ℕ
value_of nought = 0
value_of (from d ds p q) = value_from 0 (d ∷ ds)

-- a letter of the text and, if a number belongs to it, the number that stands right behind it, otherwise 0
pub record Token : Type 0 where
  pub letter : ℕ
  pub value : ℕ
  -- the place of the letter in the text
  pub place : ℕ

abbrev pub sign : ℕ → ℕ → Token
sign c i = record { letter = c; value = 0; place = i }

abbrev pub numbered : ℕ → Numeral → ℕ → Token
numbered c k i = record { letter = c; value = value_of k; place = i }

abbrev pub node_size : NodeText → ℕ
node_size t = length (node t [])

abbrev pub row_size : RowText → ℕ
row_size r = length (row r [])

abbrev pub number_size : Numeral → ℕ
number_size nought = 1
number_size (from d ds p q) = 1 + length ds

-- the tokens of a text whose first byte stands at place i, before those of what follows it
abbrev mutual
  pub node_tokens : NodeText → ℕ → List Token → List Token
  node_tokens (NodeText.property k) i ys = numbered 112 k i ∷ ys
  node_tokens (NodeText.name k) i ys = numbered 110 k i ∷ ys
  node_tokens (NodeText.not t) i ys = sign 33 i ∷ node_tokens t (i + 1) ys
  node_tokens (NodeText.both t u) i ys =
      let j = i + 1 + node_size t in
      sign 40 i ∷ node_tokens t (i + 1) (sign 38 j ∷ node_tokens u (j + 1) (sign 41 (j + 1 + node_size u) ∷ ys))
  node_tokens (NodeText.either t u) i ys =
      let j = i + 1 + node_size t in
      sign 40 i ∷ node_tokens t (i + 1) (sign 124 j ∷ node_tokens u (j + 1) (sign 41 (j + 1 + node_size u) ∷ ys))
  node_tokens (NodeText.after k t) i ys =
      let j = i + 1 + number_size k in
      numbered 60 k i ∷ sign 62 j ∷ node_tokens t (j + 1) ys
  node_tokens (NodeText.same r k q) i ys =
      let j = i + 1 + row_size r in
      let l = j + 1 + number_size k in
      sign 91 i ∷ row_tokens r (i + 1) (numbered 61 k j ∷ row_tokens q l (sign 93 (l + row_size q) ∷ ys))
  node_tokens (NodeText.differ r k q) i ys =
      let j = i + 1 + row_size r in
      let l = j + 1 + number_size k in
      sign 91 i ∷ row_tokens r (i + 1) (numbered 35 k j ∷ row_tokens q l (sign 93 (l + row_size q) ∷ ys))

  pub row_tokens : RowText → ℕ → List Token → List Token
  row_tokens RowText.end i ys = ys
  row_tokens (RowText.step k r) i ys = numbered 47 k i ∷ row_tokens r (i + 1 + number_size k) ys
  row_tokens (RowText.jump k r) i ys = numbered 64 k i ∷ row_tokens r (i + 1 + number_size k) ys
  row_tokens (RowText.test t r) i ys = sign 63 i ∷ node_tokens t (i + 1) (row_tokens r (i + 1 + node_size t) ys)
  row_tokens (RowText.brace a b r) i ys =
      let j = i + 1 + row_size a in
      let l = j + 1 + row_size b in
      sign 123 i ∷ row_tokens a (i + 1) (sign 124 j ∷ row_tokens b (j + 1) (sign 125 l ∷ row_tokens r (l + 1) ys))

abbrev pub tokens_of : NodeText → List Token
tokens_of t = node_tokens t 0 []

-- the largest number that may stand behind a letter: `p` a property, `n` and `@` a name, `<` and `/` an axis, `=` and `#` a channel; behind
-- others there is none, and 0 stands for it
abbrev pub limit_of : ℕ → ℕ
limit_of c =
    pick (eqb c 112) max_property (pick (eqb c 110) max_name (pick (eqb c 64) max_name (pick (eqb c 60) max_axis (pick (eqb c 47) max_axis
    (pick (eqb c 61) max_channel (pick (eqb c 35) max_channel 0))))))

-- "31, next, the first number out of range, place its first digit", which stands right behind the letter
abbrev pub range_check : List Token → Check
range_check [] = passes
range_check (t ∷ ts) = refuses_if (ltb (limit_of t.letter) t.value) 31 (t.place + 1) then range_check ts
