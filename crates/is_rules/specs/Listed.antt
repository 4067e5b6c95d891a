-- The rules that an is/is not line P fits, by number.
-- Assumes nothing.
use Rattle.std.specs.Prelude.{◌≡◌, refl, List, [], ◌∷◌, ℕ, None}
use Rattle.lines.specs.declared.line.IsLine.{IsLine}
use Rattle.lines.specs.declared.line.Line.{Line}
use Rattle.rules.specs.Rules.{rule_at}
use Rattle.rules.specs.Table.{NoneOf}
use Rattle.rules.specs.RuleLaws.{unlisted}

-- listed last first
abbrev pub is_rules : List ℕ
is_rules = 23 ∷ 21 ∷ 19 ∷ 18 ∷ 17 ∷ []

-- a rule that isn't listed has no is/is not line for P
pub is_unfit_law : (bs : List ℕ) (l : IsLine) (Q : Line) (a k : ℕ) → NoneOf k is_rules
    → (rule_at k).outcome bs (Line.Is l) Q a ≡ None
is_unfit_law bs l Q a = unlisted bs (Line.Is l) Q a is_rules refl
