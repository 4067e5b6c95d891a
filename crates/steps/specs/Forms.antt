-- The line P by its form: the entries that a rule reads of it are in the file, and no rule has an axis line for P.
-- Assumes nothing.
use Rattle.std.specs.Prelude.{◌≡◌, refl, List, [], ℕ, ◌<◌, None}
use Rattle.std.proofs.Common.{inl, inr, arith}
use Rattle.pattern.specs.Checks.Finding.{found}
use Rattle.pattern.specs.File.Entries.{HasEntry}
use Rattle.pattern.specs.File.Reading.{reading_of}
use Rattle.pattern.proofs.File.Valid.{valid}
use Rattle.lines.specs.declared.line.EdgeLine.{EdgeLine}
use Rattle.lines.specs.declared.line.Line.{Line}
use Rattle.lines.specs.Formed.{IsPath, PathWithin, Formed}
use Rattle.rules.specs.Rules.{rule_at}
use Rattle.rules.specs.RuleLaws.{unlisted}

-- the file has the entries that a rule reads of a line P: the node of a has/lacks line, the left path of a comparison
abbrev pub LineWithin : List ℕ → Line → Type 0
LineWithin bs (Line.Has l) = HasEntry bs l.node
LineWithin bs (Line.Is l) = Unit {0}
LineWithin bs (Line.Edge l) = Unit {0}
LineWithin bs (Line.Compare l) = PathWithin bs l.left.path

module _ (bs : List ℕ) (n : ℕ) (read : reading_of bs ≡ found n) where
  below_within : (k : ℕ) → k < n → HasEntry bs k
  below_within k l = let v = valid bs n read in omega (arith, v.header.length_is, v.count_is)

  path_within_law : (k : ℕ) → IsPath bs n k → PathWithin bs k
  path_within_law k (inl e) = inl e
  path_within_law k (inr h) = inr (below_within k h.0)

  -- the entries that a line of a pattern that was read speaks of are in the file
  pub formed_within : (l : Line) → Formed bs n l → LineWithin bs l
  formed_within (Line.Has l) f = below_within l.node f.0
  formed_within (Line.Is l) f = tt
  formed_within (Line.Edge l) f = tt
  formed_within (Line.Compare l) f = path_within_law l.left.path f.0

-- no rule has an axis line for P
pub edge_unfit : (bs : List ℕ) (Q : Line) (a k : ℕ) (l : EdgeLine) → (rule_at k).outcome bs (Line.Edge l) Q a ≡ None
edge_unfit bs Q a k l = unlisted bs (Line.Edge l) Q a [] refl k tt
