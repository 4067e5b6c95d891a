-- What it is for a line to speak of a pattern's entries. No promise says it: it is what makes the rules' entries there to be read, and what
-- soundness asks of lines.
-- Assumes nothing.
use Rattle.std.specs.Prelude.{List, [], ◌∷◌, ◌++◌, ◌⊎◌, ◌≡◌, ℕ, zero, suc, ◌<◌, length}
use Rattle.std.proofs.Common.{not-suc-le-zero, le_of_suc-le-suc}
use Rattle.pattern.specs.declared.table.Sort.{Sort}
use Rattle.pattern.specs.File.Table.{end_of_path}
use Rattle.pattern.specs.File.Entries.{HasEntry}
use Rattle.pattern.specs.File.Reading.{sort_at}
use Rattle.lines.specs.declared.line.Line.{Line}
use Rattle.lines.specs.Lines.{line_on}

-- a node entry of a pattern of n entries; a path reference
abbrev pub IsNode : List ℕ → ℕ → ℕ → Type 0
IsNode bs n k = (k < n) × (sort_at bs k ≡ Sort.Node)

abbrev pub IsPath : List ℕ → ℕ → ℕ → Type 0
IsPath bs n k = (k ≡ end_of_path) ⊎ ((k < n) × (sort_at bs k ≡ Sort.Path))

-- a path reference is the end of path, or the file is long enough for its entry
abbrev pub PathWithin : List ℕ → ℕ → Type 0
PathWithin bs k = (k ≡ end_of_path) ⊎ HasEntry bs k

-- the entries that a line speaks of are node entries and paths of the pattern
abbrev pub Formed : List ℕ → ℕ → Line → Type 0
Formed bs n (Line.Has l) = IsNode bs n l.node
Formed bs n (Line.Is l) = Unit {0}
Formed bs n (Line.Edge l) = Unit {0}
Formed bs n (Line.Compare l) = IsPath bs n l.left.path × IsPath bs n l.right.path

-- every line of a branch is formed
abbrev pub AllFormed : List ℕ → ℕ → List Line → Type 0
AllFormed bs n [] = Unit {0}
AllFormed bs n (l ∷ ls) = Formed bs n l × AllFormed bs n ls

module _ (bs : List ℕ) (n : ℕ) where
  -- each line of a branch that is formed
  pub formed_at : (b : List Line) → AllFormed bs n b → (j : ℕ) → j < length b → Formed bs n (line_on b j)
  formed_at [] f j h = absurd (not-suc-le-zero h)
  formed_at (l ∷ ls) f zero h = f.0
  formed_at (l ∷ ls) f (suc j) h = formed_at ls f.1 j (le_of_suc-le-suc h)

  -- lines added to a branch
  pub formed_append : (b c : List Line) → AllFormed bs n b → AllFormed bs n c → AllFormed bs n (b ++ c)
  formed_append [] c f g = g
  formed_append (l ∷ ls) c f g = (f.0, formed_append ls c f.1 g)
