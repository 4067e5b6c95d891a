-- The entry of a comparison's left path, and the rules that a comparison P fits, by number.
-- Assumes nothing.
use Rattle.std.specs.Prelude.{◌≡◌, refl, true, false, List, [], ◌∷◌, ◌++◌, ℕ, eqb, Option, None}
use Rattle.std.proofs.Common.{sym, ◌∙◌, inl, inr, eq-eqb}
use Rattle.std.proofs.lemmas.Bool.{false≢true}
use Rattle.rules.specs.declared.conclusion.Conclusion.{Conclusion}
use Rattle.pattern.specs.declared.entry.Entry.{Entry}
use Rattle.pattern.specs.File.Table.{end_of_path}
use Rattle.pattern.specs.File.Entries.{HasEntry, entry_at}
use Rattle.lines.specs.declared.line.CompareLine.{CompareLine}
use Rattle.lines.specs.declared.line.Line.{Line}
use Rattle.lines.specs.Formed.{PathWithin}
use Rattle.lines.specs.Parts.{at_end}
use Rattle.rules.specs.Rules.{rule_at, on_left_of}
use Rattle.rules.specs.Table.{NoneOf}
use Rattle.rules.specs.RuleLaws.{unlisted}

-- a path reference that isn't the end of path is that of an entry
pub entry_within : (bs : List ℕ) (k : ℕ) → PathWithin bs k → eqb k end_of_path ≡ false → HasEntry bs k
entry_within bs k (inl e) h = absurd (false≢true (sym h ∙ eq-eqb k end_of_path e))
entry_within bs k (inr l) h = l

-- the rules of a comparison P that go by its left path, and the others, listed last first
abbrev pub left_rules : List ℕ
left_rules = 15 ∷ 14 ∷ 13 ∷ 12 ∷ 11 ∷ 10 ∷ 9 ∷ []

abbrev pub whole_rules : List ℕ
whole_rules = 23 ∷ 22 ∷ 21 ∷ 20 ∷ 16 ∷ 8 ∷ []

none_append : (k : ℕ) (ns ms : List ℕ) → NoneOf k ns → NoneOf k ms → NoneOf k (ns ++ ms)
none_append k [] ms h g = g
none_append k (n ∷ ns) ms h g = (none_append k ns ms h.0 g, h.1)

module _ (bs : List ℕ) (l : CompareLine) (Q : Line) (a k : ℕ) where
  -- a rule that isn't listed has no comparison for P
  pub compare_unfit : NoneOf k left_rules → NoneOf k whole_rules → (rule_at k).outcome bs (Line.Compare l) Q a ≡ None
  compare_unfit none others =
      unlisted bs (Line.Compare l) Q a (left_rules ++ whole_rules) refl k (none_append k left_rules whole_rules none others)

  -- at the end of the left path the rules that go by it conclude nothing
  pub end_unfit : at_end l.left ≡ true → NoneOf k whole_rules → (rule_at k).outcome bs (Line.Compare l) Q a ≡ None
  end_unfit h none = unlisted bs (Line.Compare l) Q a whole_rules (rw h) k none

-- a rule of the left path, which isn't at its end
pub fits_left : (bs : List ℕ) (l : CompareLine) → at_end l.left ≡ false → (rule : CompareLine → Entry → Option Conclusion) {o : Option Conclusion}
    → o ≡ rule l (entry_at bs l.left.path) → o ≡ on_left_of rule bs l
fits_left bs l h rule e = rw h e
