-- Where a step is taken: the pattern was read, and the branch has lines, which are in the area and speak of the pattern's entries.
-- Assumes nothing.
use Rattle.std.specs.Prelude.{◌≡◌, false, List, ℕ, ◌+◌, ◌*◌, ◌≤◌, ◌<◌, length}
use Rattle.std.proofs.Common.{arith}
use Rattle.pattern.specs.Checks.Finding.{found}
use Rattle.pattern.specs.File.Reading.{count_of, reading_of}
use Rattle.steps.specs.declared.step.Step.{Step}
use Rattle.lines.specs.Formed.{Formed}
use Rattle.branch_lines.specs.Stored.{line_at, lines_from, length_lines}
use Rattle.steps.specs.Steps.{field_fault, placed_on}
use Rattle.steps.specs.Forms.{LineWithin, formed_within}

-- a pattern's bytes, the bytes of the area, and how many lines the branch has
pub record AtStep (bs xs : List ℕ) (len : ℕ) : Type 0 where
  pub pattern_read : reading_of bs ≡ found (count_of bs)
  pub some_line : 0 < len
  pub room : 8 * len ≤ length xs
  pub formed : (j : ℕ) → j < len → Formed bs (count_of bs) (line_at xs j)

-- the same, as far as a rule needs it to read the entries of its lines: the branch has lines, they are in the area, and their entries in the file
pub record Readable (bs xs : List ℕ) (len : ℕ) : Type 0 where
  pub some_line : 0 < len
  pub room : 8 * len ≤ length xs
  pub within : (j : ℕ) → j < len → LineWithin bs (line_at xs j)

pub readable : {bs xs : List ℕ} {len : ℕ} → AtStep bs xs len → Readable bs xs len
readable {bs} {xs} at_step =
    record {
      some_line = at_step.some_line;
      room = at_step.room;
      within = λ j l. formed_within bs (count_of bs) at_step.pattern_read (line_at xs j) (at_step.formed j l);
    }

-- the lines P and Q of a step without fault are on the branch
pub step_on_law : (bs xs : List ℕ) (len : ℕ) (s : Step) → field_fault (lines_from xs 0 len) s ≡ false → (s.p < len) × (s.q < len)
step_on_law bs xs len s h = rw (length_lines xs 0 len) at (placed_on bs (lines_from xs 0 len) s h)

-- each line of the branch is in the area
pub room_for : {bs xs : List ℕ} {len k : ℕ} → Readable bs xs len → k < len → 8 * (k + 1) ≤ length xs
room_for at_step h = omega (arith, at_step.room, h)
