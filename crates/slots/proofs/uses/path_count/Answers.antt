-- `slots::uses::path_count` stays within the pattern.
-- Assumes nothing.
use Rattle.std.proofs.Common.{arith}
use Rattle.pattern.proofs.File.Valid.{valid}
use Rattle.slots.proofs.uses.path_count.Goals as goal

pub bounds-p-5 : goal.bounds-p-5
bounds-p-5 c = omega (arith, (valid _ _ c.requires).header.length_is)

pub sort_at-requires : goal.sort_at-requires
sort_at-requires c = omega (arith, (valid _ _ c.requires).header.length_is)
