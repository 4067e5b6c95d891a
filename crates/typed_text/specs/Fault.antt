-- Where bytes leave the grammar: 02's refusal 30, "place the first byte, or the end, that no text of the grammar, of any length, could have
-- there".
-- Assumes nothing.
use Rattle.std.specs.Prelude.{◌≡◌, List, [], ◌∷◌, ◌++◌, ℕ, length}
use Rattle.typed_text.specs.Text.{NodeText, node, IsText}

-- some text of the grammar, of any length, begins so
abbrev pub Begins : List ℕ → Type 0
Begins ps = (ys : List ℕ) × IsText (ps ++ ys)

pub data FaultAt (xs : List ℕ) : ℕ → Type 0 where
  -- the bytes before it begin a text, and with it they begin none
  at_byte : (ps : List ℕ) (b : ℕ) (zs : List ℕ) → xs ≡ ps ++ (b ∷ zs) → Begins ps → (Begins (ps ++ (b ∷ [])) → ⊥) → FaultAt xs (length ps)
  -- all bytes begin a text, and are none
  at_the_end : Begins xs → (IsText xs → ⊥) → FaultAt xs (length xs)

-- what bytes are: a text, with its tree, or outside the grammar, with the place
pub data Parsed (xs : List ℕ) : Type 0 where
  whole : (t : NodeText) → node t [] ≡ xs → Parsed xs
  faulty : (k : ℕ) → FaultAt xs k → Parsed xs
