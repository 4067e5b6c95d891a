-- The rules that a has/lacks line P fits, by number.
-- Assumes nothing.
use Rattle.std.specs.Prelude.{◌≡◌, refl, List, [], ◌∷◌, ℕ, None}
use Rattle.lines.specs.declared.line.HasLine.{HasLine}
use Rattle.lines.specs.declared.line.Line.{Line}
use Rattle.rules.specs.Rules.{rule_at}
use Rattle.rules.specs.Table.{NoneOf}
use Rattle.rules.specs.RuleLaws.{unlisted}

-- listed last first
abbrev pub has_rules : List ℕ
has_rules = 25 ∷ 24 ∷ 21 ∷ 7 ∷ 6 ∷ 5 ∷ 4 ∷ 3 ∷ 2 ∷ 1 ∷ []

-- a rule that isn't listed has no has/lacks line for P
pub has_unfit : (bs : List ℕ) (h : HasLine) (Q : Line) (a k : ℕ) → NoneOf k has_rules
    → (rule_at k).outcome bs (Line.Has h) Q a ≡ None
has_unfit bs h Q a = unlisted bs (Line.Has h) Q a has_rules refl
