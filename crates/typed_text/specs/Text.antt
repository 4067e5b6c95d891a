-- The grammar of typed patterns, 02's Job 7: texts as trees, and the bytes of a tree.
-- Assumes nothing.
use Rattle.std.specs.Prelude.{◌≡◌, Bool, true, ◌&&◌, List, [], ◌∷◌, ◌++◌, ℕ, leb}

-- `0` to `9`, and `1` to `9`
abbrev pub is_digit : ℕ → Bool
is_digit b = leb 48 b && leb b 57

abbrev pub begins_number : ℕ → Bool
begins_number b = leb 49 b && leb b 57

abbrev pub all_digits : List ℕ → Bool
all_digits [] = true
all_digits (b ∷ bs) = is_digit b && all_digits bs

-- "Numbers have no leading zeros": `0`, or `1` to `9` and any digits
pub data Numeral : Type 0 where
  nought : Numeral
  from : (d : ℕ) (ds : List ℕ) → begins_number d ≡ true → all_digits ds ≡ true → Numeral

mutual
  -- "The whole is a node text"
  pub data NodeText : Type 0 where
    property : Numeral → NodeText
    name : Numeral → NodeText
    not : NodeText → NodeText
    both : NodeText → NodeText → NodeText
    either : NodeText → NodeText → NodeText
    after : Numeral → NodeText → NodeText
    same : RowText → Numeral → RowText → NodeText
    differ : RowText → Numeral → RowText → NodeText

  -- "Path text is a possibly empty row": its first item and the row behind it
  pub data RowText : Type 0 where
    end : RowText
    step : Numeral → RowText → RowText
    jump : Numeral → RowText → RowText
    test : NodeText → RowText → RowText
    brace : RowText → RowText → RowText → RowText

abbrev pub spell_number : Numeral → List ℕ
spell_number nought = 48 ∷ []
spell_number (from d ds p q) = d ∷ ds

-- the bytes of a text, before those of what follows it; "there are no spaces"
abbrev mutual
  pub node : NodeText → List ℕ → List ℕ
  -- "`p` or `n` with a number"
  node (property k) ys = 112 ∷ spell_number k ++ ys
  node (name k) ys = 110 ∷ spell_number k ++ ys
  -- "`!` node"
  node (not t) ys = 33 ∷ node t ys
  -- "`(` node `&` or `|` node `)`"
  node (both t u) ys = 40 ∷ node t (38 ∷ node u (41 ∷ ys))
  node (either t u) ys = 40 ∷ node t (124 ∷ node u (41 ∷ ys))
  -- "`<` axis `>` node"
  node (after k t) ys = 60 ∷ spell_number k ++ (62 ∷ node t ys)
  -- "`[` path `=` or `#` channel path `]` for same and differ"
  node (same r k q) ys = 91 ∷ row r (61 ∷ spell_number k ++ row q (93 ∷ ys))
  node (differ r k q) ys = 91 ∷ row r (35 ∷ spell_number k ++ row q (93 ∷ ys))

  pub row : RowText → List ℕ → List ℕ
  row end ys = ys
  -- "`/` axis, `@` name, `?` node, or `{` path `|` path `}`"
  row (step k r) ys = 47 ∷ spell_number k ++ row r ys
  row (jump k r) ys = 64 ∷ spell_number k ++ row r ys
  row (test t r) ys = 63 ∷ node t (row r ys)
  row (brace a b r) ys = 123 ∷ row a (124 ∷ row b (125 ∷ row r ys))

-- the bytes are a text of the grammar
abbrev pub IsText : List ℕ → Type 0
IsText xs = (t : NodeText) × (node t [] ≡ xs)
