-- `text_entries::complete` meets its contract: what lies on the stack completes to the root's entries, step by step (`Stack`).
-- Assumes nothing.
use Rattle.std.proofs.Common.{◌+◌, ◌-◌, ◌*◌}
use Rattle.typed_file.specs.Trees.{Tree}
use Rattle.text_cells.specs.Cells.{CellIs}
use Rattle.text_entries.specs.Completing.{Going, zeros}
use Rattle.text_entries.proofs.complete.Given as goal

abbrev pub invariant-loop-at : goal.invariant-loop-at
invariant-loop-at l =
    (t : Tree) × (CellIs l.cells (l.count - 1) t × Going l.cells l.initial.entries t l.numbers l.stack l.entries l.at l.n)

abbrev pub decreases-loop-at : goal.decreases-loop-at
decreases-loop-at l = zeros l.numbers * 1025 + l.at
