-- The measures: the entry number first, and among functions at one entry who calls whom. And what the two loops keep.
-- Assumes nothing.
use Rattle.std.proofs.Common.{◌≡◌, ◌+◌, ◌≤◌, length, ◌*◌}
use Rattle.evaluation.specs.Standing.{pending_bytes}
use Rattle.evaluation.specs.Sweep.{entries_swept}
use Rattle.evaluation.specs.Evaluated.{CollectedAt}
use Rattle.evaluation.specs.SweepEntry.{SweptAt}
use Rattle.evaluation.proofs.judged.Judged.+evaluation.Given as goal

abbrev pub decreases-compare : goal.decreases-compare
decreases-compare l = 8 * l.k + 4

abbrev pub decreases-compute : goal.decreases-compute
decreases-compute l = 8 * l.k + 5

abbrev pub decreases-ends : goal.decreases-ends
decreases-ends l = 8 * entries_swept l.path

abbrev pub decreases-evaluate : goal.decreases-evaluate
decreases-evaluate l = 8 * l.k + 6

abbrev pub decreases-sweep_entry : goal.decreases-sweep_entry
decreases-sweep_entry l = 8 * l.i + 7

abbrev pub invariant-compare-loop-u : goal.invariant-compare-loop-u
invariant-compare-loop-u l = CollectedAt l.self.p.now l.self.table.now l.self.alike.now l.self.n l.k l.c l.u l.found

abbrev pub invariant-ends-loop-j : goal.invariant-ends-loop-j
invariant-ends-loop-j l =
    (l.j ≤ entries_swept l.path) × (length l.pending ≡ pending_bytes) × SweptAt l.self.p.now l.self.table.now l.self.alike.now l.self.n l.path l.u l.pending l.j
