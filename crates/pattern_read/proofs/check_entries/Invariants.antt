-- `pattern_read::check_entries` meets its contract: every entry passed has passed its check, by the laws of `each_below`.
-- Assumes nothing.
use Rattle.std.proofs.Common.{ℕ, ◌+◌, ◌*◌, ◌≤◌, ◌<◌, ◌≡◌, length}
use Rattle.pattern.specs.Checks.Finding.{passes}
use Rattle.pattern.specs.File.Reading.{entry_check}
use Rattle.repeats.specs.Seen.{slots, Seen}
use Rattle.pattern_read.proofs.check_entries.Given as goal

abbrev pub invariant-loop-k : goal.invariant-loop-k
invariant-loop-k l = (l.k ≤ l.n) × (length l.p ≡ 6 + 4 * l.n) × (length l.seen ≡ slots) × Seen l.p l.k l.seen × ((i : ℕ) → i < l.k → entry_check l.p i ≡ passes)
