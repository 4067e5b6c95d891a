-- The token at a place of a text, by the parts of which `tokens_from` is made.
-- Assumes nothing.
use Rattle.std.specs.Prelude.{List, ℕ, Option, Some, None, ◌+◌, ltb, length, get_or, take, drop}
use Rattle.wire.specs.Choice.{pick}
use Rattle.typed_text.specs.Tokens.{value_from}
use Rattle.typed_text.specs.Spelled.{digits_length, numeral_length, number_length, number_value, capped}
use Rattle.text_tokens.specs.declared.token.Number.{Number}
use Rattle.text_tokens.specs.declared.token.Token.{Token}

-- the number of the first n bytes of ys, which stand at a place
abbrev number_of : ℕ → List ℕ → ℕ → Number
number_of n ys at = record { value = capped (value_from 0 (take n ys)); after = at + n }

-- all digits that stand at a place
abbrev pub digits_at : List ℕ → ℕ → Number
digits_at xs at = number_of (digits_length (drop at xs)) (drop at xs) at

-- the number that stands at a place
abbrev pub number_at : List ℕ → ℕ → Number
number_at xs at = number_of (numeral_length (drop at xs)) (drop at xs) at

-- the token of a letter and the bytes behind it, the letter at a place
abbrev pub token_of : ℕ → List ℕ → ℕ → Token
token_of b bs at = record { letter = b; value = capped (number_value b bs); after = at + 1 + number_length b bs }

abbrev pub token_at : List ℕ → ℕ → Option Token
token_at xs at = pick (ltb at (length xs)) (Some (token_of (get_or xs at 0) (drop (at + 1) xs) at)) None
