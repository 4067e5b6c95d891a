-- `text_tokens::tokens::read_tokens` meets its contract: between two tokens those before are stored and held to their ranges.
-- Assumes nothing.
use Rattle.std.proofs.Common.{◌-◌, length}
use Rattle.text_tokens.specs.SoFar.{SoFar}
use Rattle.text_tokens.proofs.tokens.read_tokens.Given as goal

abbrev pub invariant-loop-token : goal.invariant-loop-token
invariant-loop-token l = SoFar l.text l.initial.tokens l.tokens l.at l.n l.beyond

abbrev pub decreases-loop-token : goal.decreases-loop-token
decreases-loop-token l = length l.text - l.at
