-- What a conclusion does to a branch of so many lines that stands in lent bytes.
-- Assumes nothing.
use Rattle.std.specs.Prelude.{List, [], ◌∷◌, ℕ, ◌+◌}
use Rattle.lines.specs.declared.line.Line.{Line}
use Rattle.rules.specs.declared.conclusion.Conclusion.{Conclusion}
use Rattle.rules.specs.Sides.{sides}
use Rattle.branch_lines.specs.Stored.{put_line}
use Rattle.branch_step.specs.declared.Advance.{Advance}

-- the lent bytes with these as lines from number k on
abbrev pub put_lines : List ℕ → ℕ → List Line → List ℕ
put_lines xs k [] = xs
put_lines xs k (l ∷ ls) = put_lines (put_line xs k l) (k + 1) ls

-- the lent bytes with the lines of the one side behind the first len; of several sides none is stored yet
abbrev pub pushed_by : List ℕ → ℕ → List (List Line) → List ℕ
pushed_by xs len [] = xs
pushed_by xs len (new ∷ []) = put_lines xs len new
pushed_by xs len (new ∷ other ∷ more) = xs

abbrev pub pushed : List ℕ → ℕ → Conclusion → List ℕ
pushed xs len c = pushed_by xs len (sides c)

abbrev pub advance_of : ℕ → Conclusion → Advance
advance_of len (Conclusion.One l) = Advance.Grown (len + 1)
advance_of len (Conclusion.Two l m) = Advance.Grown (len + 2)
advance_of len (Conclusion.New i l m) = Advance.Grown (len + 2)
advance_of len (Conclusion.Fork l r) = Advance.Fork l r
advance_of len Conclusion.Clash = Advance.Clash
