-- `text_tokens::token::digits` meets its contract: what the digits read and those that follow make stays the same.
-- Assumes nothing.
use Rattle.std.proofs.Common.{sym, ◌∙◌, ◌+◌, ◌*◌, ◌-◌, get_or}
use Rattle.text_tokens.specs.Digits.{capped_low, digit_more}
use Rattle.text_tokens.proofs.token.digits.Goals as goal

pub loop-after-preserved : goal.loop-after-preserved
loop-after-preserved c =
    let xs = c.args.text.now in
    let l = c.loop-after in (
      rw c.grown-value.ensures (capped_low (l.value * 10 + (get_or xs l.after 0 - 48))),
      rw c.grown-value.ensures
          (sym (digit_more xs l.value l.after l.invariant.0 c.loop-after-test.true (sym c.is_ascii_digit.ensures.value ∙ c.if-not-is_ascii_digit.false))
          ∙ l.invariant.1),
    )
