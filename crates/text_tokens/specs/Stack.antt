-- The automaton's stack as bytes.
-- Assumes nothing.
use Rattle.std.specs.Prelude.{Bool, List, [], ◌∷◌, ℕ, Option, Some, None, Result, Ok, Err, get_or, drop}
use Rattle.typed_text.specs.Machine.{Want, node, row, number, digits, byte, one_of, Next, none, some, takes, optional, Place, whole, fault}
use Rattle.text_tokens.specs.declared.grammar.Fault.{Fault}
use Rattle.text_tokens.specs.declared.wants.Wants.{Wants}

-- what a byte of the stack wants: 1 to 6 as this says, any other itself
abbrev pub want_of : ℕ → Want
want_of w = get_or (byte 0 ∷ node ∷ row ∷ number ∷ digits ∷ one_of 38 124 ∷ one_of 61 35 ∷ []) w (byte w)

-- what the bytes of a stack want
abbrev pub wants : List ℕ → List Want
wants [] = []
wants (w ∷ ws) = want_of w ∷ wants ws

-- new wants as bytes, those from the first on, unless the byte can't be taken
abbrev pub new_wants : Option Wants → Next
new_wants None = none
new_wants (Some new) = some (wants (drop new.first new.bytes))

-- whether a byte of the stack takes a byte of the text, and what is wanted then
abbrev pub taken : ℕ → ℕ → Next
taken w b = takes (want_of w) b

abbrev pub passable : ℕ → Bool
passable w = optional (want_of w)

abbrev pub grammar_of : Result Unit Fault → Place
grammar_of (Ok u) = whole
grammar_of (Err e) = fault e.0
