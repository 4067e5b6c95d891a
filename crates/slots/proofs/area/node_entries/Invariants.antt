-- `slots::area::node_entries` meets its contract: entry by entry the count is the place of the next set.
-- Assumes nothing.
use Rattle.std.proofs.Common.{◌≡◌}
use Rattle.slots.specs.Area.{place_of}
use Rattle.slots.proofs.area.node_entries.Given as goal

abbrev pub invariant-loop-k : goal.invariant-loop-k
invariant-loop-k l = l.found ≡ place_of l.p l.k
