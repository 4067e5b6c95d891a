-- `text_tokens::token::digits` meets its contract: what the digits read and those that follow make stays the same.
-- Assumes nothing.
use Rattle.std.proofs.Common.{◌≡◌, ◌≤◌, drop}
use Rattle.text_tokens.specs.Digits.{going_on}
use Rattle.text_tokens.specs.Reading.{digits_at}
use Rattle.text_tokens.proofs.token.digits.Given as goal

abbrev pub invariant-loop-after : goal.invariant-loop-after
invariant-loop-after l = (l.value ≤ 255) × (going_on l.value (drop l.after l.text) l.after ≡ digits_at l.text l.start)
