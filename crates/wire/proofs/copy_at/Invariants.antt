-- `wire::copy_at` meets its contract: each pass stores one byte more, and what is left to store after it is the rest of the bytes.
-- Assumes nothing.
use Rattle.std.proofs.Common.{◌≡◌, length, drop}
use Rattle.wire.specs.Blocks.{put_from}
use Rattle.wire.proofs.copy_at.Given as goal

abbrev pub invariant-loop-k : goal.invariant-loop-k
invariant-loop-k l = (length l.out ≡ length l.initial.out) × (put_from l.out l.at l.k (drop l.k l.bytes) ≡ put_from l.initial.out l.at 0 l.bytes)
