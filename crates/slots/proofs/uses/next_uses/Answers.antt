-- `slots::uses::next_uses` stays within the pattern and its own bytes.
-- Assumes nothing.
use Rattle.std.proofs.Common.{arith}
use Rattle.pattern.proofs.File.Valid.{valid}
use Rattle.slots.proofs.uses.next_uses.Goals as goal

pub bounds-p-5 : goal.bounds-p-5
bounds-p-5 c = omega (arith, (valid _ _ c.requires).header.length_is)

pub refer_to_parts-requires : goal.refer_to_parts-requires
refer_to_parts-requires c = omega (arith, (valid _ _ c.requires).header.length_is)
