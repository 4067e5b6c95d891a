-- `text_tokens::grammar::check` meets its contract: what the rest of the text is for what is wanted stays the same.
-- Assumes nothing.
use Rattle.std.proofs.Common.{rules, ◌≡◌, sym, ap, ◌∙◌, ◌-◌, arith, length, drop, length-drop, take_all}
use Rattle.std.specs.List.{list_all}
use Rattle.wire.specs.Blocks.{length_from}
use Rattle.typed_text.specs.Machine.{fault, end_place}
use Rattle.text_tokens.specs.Stack.{new_wants, passable}
use Rattle.text_tokens.specs.Taking.{may_end_all, place_empty, place_taken, place_end}
use Rattle.text_tokens.proofs.grammar.check.Goals as goal

pub returns-then-at-eq-STACK : goal.returns-then-at-eq-STACK
returns-then-at-eq-STACK c =
    let l = c.loop-i in
    sym (place_empty c.args.text.now l.stack l.at l.i c.loop-i-test.true (omega arith)) ∙ l.invariant.4

pub loop-i-preserved-then-want-ne-DIGITS : goal.loop-i-preserved-then-want-ne-DIGITS
loop-i-preserved-then-want-ne-DIGITS c =
    let l = c.loop-i in
    let new = c.in-Some.new in (
      search rules,
      rw (c.copy_at.ensures, length_from) l.invariant.1,
      omega (arith, new.inside),
      omega (arith, l.invariant.3),
      rw c.copy_at.ensures
          (sym (place_taken c.args.text.now l.stack l.at l.i c.loop-i-test.true (omega arith) new.first new.bytes (search rules) new.inside (omega arith)
          (sym c.behind.ensures ∙ ap new_wants c.in-Some.is))
          ∙ l.invariant.4),
    )

pub returns-then-may_end : goal.returns-then-may_end
returns-then-may_end c =
    let l = c.loop-i in
    let left = take_all (4097 - l.at) (drop l.at l.stack) (omega (arith, length-drop l.at l.stack)) in
    sym (place_end c.args.text.now l.stack l.at l.i (omega arith)
    ∙ ap (λ t. end_place t l.i)
    (may_end_all (drop l.at l.stack) ∙ sym (ap (list_all passable) left) ∙ sym c.may_end.ensures ∙ c.if-may_end.true))
    ∙ l.invariant.4

pub returns-else-may_end : goal.returns-else-may_end
returns-else-may_end c =
    let l = c.loop-i in
    let left = take_all (4097 - l.at) (drop l.at l.stack) (omega (arith, length-drop l.at l.stack)) in
    let end : l.i ≡ length c.args.text.now = omega arith in
    sym (place_end c.args.text.now l.stack l.at l.i end
    ∙ ap (λ t. end_place t l.i)
    (may_end_all (drop l.at l.stack) ∙ sym (ap (list_all passable) left) ∙ sym c.may_end.ensures ∙ c.if-may_end.false)
    ∙ ap fault end)
    ∙ l.invariant.4
