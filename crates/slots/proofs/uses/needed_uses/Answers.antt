-- `slots::uses::needed_uses` stays within the pattern and its own bytes.
-- Assumes nothing.
use Rattle.std.proofs.Common.{arith}
use Rattle.pattern.proofs.File.Valid.{valid}
use Rattle.slots.proofs.uses.needed_uses.Goals as goal

pub refer_to_parts-requires : goal.refer_to_parts-requires
refer_to_parts-requires c = omega (arith, (valid _ _ c.requires.p_value).header.length_is, c.requires.k_bound)

pub is_lost-requires : goal.is_lost-requires
is_lost-requires c = omega (arith, (valid _ _ c.requires.p_value).header.length_is, c.requires.k_bound)

pub refer_to_parts-requires-then-is_lost-uses : goal.refer_to_parts-requires-then-is_lost-uses
refer_to_parts-requires-then-is_lost-uses c = omega (arith, (valid _ _ c.requires.p_value).header.length_is, c.requires.k_bound)
