-- `text_tokens::grammar::check` meets its contract: what the rest of the text is for what is wanted stays the same.
-- Assumes nothing.
use Rattle.std.proofs.Common.{◌≡◌, ◌+◌, ◌*◌, ◌-◌, ◌≤◌, length}
use Rattle.typed_text.specs.Machine.{place_of}
use Rattle.text_tokens.specs.Taking.{place_at}
use Rattle.text_tokens.proofs.grammar.check.Given as goal

abbrev pub invariant-loop-i : goal.invariant-loop-i
invariant-loop-i l =
    (l.i ≤ length l.text) × (length l.stack ≡ 4097) × (l.at ≤ 4097) × (4096 ≤ l.at + 4 * l.i) × (place_at l.text l.stack l.at l.i ≡ place_of l.text)

abbrev pub decreases-loop-i : goal.decreases-loop-i
decreases-loop-i l = 5 * (length l.text - l.i) + (4097 - l.at)
