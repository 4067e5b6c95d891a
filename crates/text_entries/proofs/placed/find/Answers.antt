-- `text_entries::placed::find` meets its contract: no entry passed is the one that is looked for.
-- Assumes nothing.
use Rattle.std.proofs.Common.{sym, ◌∙◌, arith}
use Rattle.text_entries.specs.Placing.{found_here, found_later, found_nowhere}
use Rattle.text_entries.proofs.placed.find.Goals as goal

pub returns-then-is_entry : goal.returns-then-is_entry
returns-then-is_entry c =
    sym (found_here c.args.entries.now _ c.args.n c.loop-i.i c.loop-i-test.true (sym c.is_entry.ensures ∙ c.if-is_entry.true)) ∙ c.loop-i.invariant

pub loop-i-preserved : goal.loop-i-preserved
loop-i-preserved c =
    found_later c.args.entries.now _ c.args.n c.loop-i.i c.loop-i-test.true (sym c.is_entry.ensures ∙ c.if-is_entry.false) ∙ c.loop-i.invariant

pub returns : goal.returns
returns c = sym (found_nowhere c.args.entries.now _ c.args.n c.loop-i.i (omega arith)) ∙ c.loop-i.invariant
