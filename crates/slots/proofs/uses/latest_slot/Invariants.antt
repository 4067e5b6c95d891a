-- `slots::uses::latest_slot` meets its contract.
-- Assumes nothing.
use Rattle.std.proofs.Common.{◌<◌}
use Rattle.slots.proofs.uses.latest_slot.Given as goal

abbrev pub invariant-loop-slot : goal.invariant-loop-slot
invariant-loop-slot l = (0 < l.latest) × (l.latest < l.slot)
