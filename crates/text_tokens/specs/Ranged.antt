-- What reading the tokens answers.
-- Assumes nothing.
use Rattle.std.specs.Prelude.{ℕ, ◌+◌, ltb, Option, Some, None, Result, Ok, Err}
use Rattle.wire.specs.Choice.{pick}
use Rattle.pattern.specs.Checks.Finding.{Finding, found, refused}
use Rattle.typed_text.specs.Tokens.{limit_of}
use Rattle.text_tokens.specs.declared.tokens.OutOfRange.{OutOfRange}

-- how many tokens there are, or the refusal with its place
abbrev pub ranged_of : Result ℕ OutOfRange → Finding ℕ
ranged_of (Ok n) = found n
ranged_of (Err e) = refused 31 e.0

-- the first number out of range, if there is one, after a token of this letter and value at place i
abbrev pub first_beyond : Option OutOfRange → ℕ → ℕ → ℕ → Option OutOfRange
first_beyond (Some e) letter value i = Some e
first_beyond None letter value i = pick (ltb (limit_of letter) value) (Some (record { 0 = i + 1 })) None
