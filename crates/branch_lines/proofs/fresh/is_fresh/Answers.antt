-- `branch_lines::fresh::is_fresh` meets its contract: the two tests of `is_fresh` in turn.
-- Assumes nothing.
use Rattle.std.proofs.Common.{refl, sym, ◌∙◌}
use Rattle.branch_lines.proofs.fresh.is_fresh.Goals as goal

pub returns-then-has : goal.returns-then-has
returns-then-has c bs uses = rw (sym (uses _) ∙ sym c.has.ensures ∙ c.if-has.true) refl

pub returns : goal.returns
returns c bs uses = rw (sym (uses _) ∙ sym c.has.ensures ∙ c.if-has.false, c.branch_has.ensures) refl
