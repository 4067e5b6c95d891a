-- What a rule concludes has the sides that the table of the rules says.
-- Assumes nothing.
use Rattle.std.specs.Prelude.{◌≡◌, refl, Bool, List, [], ℕ, zero, suc, length, Option, Some, None}
use Rattle.std.proofs.Common.{subst}
use Rattle.pattern.specs.declared.types.Name.{Name}
use Rattle.pattern.specs.declared.entry.Entry.{Entry}
use Rattle.pattern.specs.declared.table.Kind.{Kind}
use Rattle.pattern.specs.declared.types.Comparison.{Comparison}
use Rattle.pattern.specs.File.Table.{same_kind}
use Rattle.lines.specs.declared.line.HasLine.{HasLine}
use Rattle.lines.specs.declared.line.IsLine.{IsLine}
use Rattle.lines.specs.declared.line.CompareLine.{CompareLine}
use Rattle.lines.specs.declared.line.Line.{Line}
use Rattle.rules.specs.declared.conclusion.Conclusion.{Conclusion}
use Rattle.rules.specs.declared.fit.Direction.{Direction}
use Rattle.lines.specs.Lines.{name, line_on}
use Rattle.rules.specs.Rules.{Rule, rule_at, only, when, comparing, new_name, far_end, arrival, arriving, replaced_first, replaced_second, replaced, on_is, on_compare, on_node, on_left, rule1, rule2, rule3, rule4, rule5, rule6, rule7, rule8, rule9, rule10, rule11, rule12, rule13, rule14, rule15, rule16, rule17, rule18, rule19, rule20, chained, rule21, rule22, clash_if, contrary, rule23, rule24, rule25}
use Rattle.soundness.specs.Cases.{WhereFits, only_fits, otherwise_fits, new_fits, arrival_fits, has_fits, is_fits, compare_fits, left_fits}
use Rattle.rules.specs.Sides.{sides}
use Rattle.rules.specs.Table.{each_rule, ◌and◌}
use Rattle.steps.specs.declared.step.Step.{Step}
use Rattle.steps.specs.Steps.{Follows, follows_fits}

-- what is concluded has so many sides
pub record Shaped (n : ℕ) (o : Option Conclusion) : Type 0 where
  pub says : WhereFits (λ c. length (sides c) ≡ n) o

one : {l : Line} → Shaped 1 (Some (Conclusion.One l))
one = record { says = refl }

two : {l m : Line} → Shaped 1 (Some (Conclusion.Two l m))
two = record { says = refl }

new : {i : Name} {l m : Line} → Shaped 1 (Some (Conclusion.New i l m))
new = record { says = refl }

fork : {l r : Line} → Shaped 2 (Some (Conclusion.Fork l r))
fork = record { says = refl }

clash : Shaped 0 (Some Conclusion.Clash)
clash = record { says = refl }

-- a shape carries over from what a rule concludes in the end to the rule
module _ {n : ℕ} where
  unfit : Shaped n None
  unfit = record { says = tt }

  when_shaped : (t : Bool) (o : Option Conclusion) → Shaped n o → Shaped n (only t o)
  when_shaped t o h = only_fits (Shaped n) unfit t o (λ e. h)

  new_name_law : (a : ℕ) (conclusion : Name → Conclusion) → Shaped n (Some (conclusion (name a))) → Shaped n (new_name a conclusion)
  new_name_law a conclusion h = new_fits (Shaped n) unfit a conclusion h

  arrives : (Q : Line) (d : Direction) (a : ℕ) (i : Name) (conclusion : Name → Conclusion)
      → ((j : Name) → Shaped n (Some (conclusion j))) → Shaped n (arriving (arrival Q d a i) conclusion)
  arrives Q d a i conclusion shaped = arrival_fits (λ P. Shaped n) (λ P. unfit) d a i conclusion (λ l e f. shaped (far_end d l)) Q

  on_has_law : (rule : HasLine → Entry → Option Conclusion) → ((h : HasLine) (e : Entry) → Shaped n (rule h e)) → (bs : List ℕ) (P : Line)
      → Shaped n (on_node rule bs P)
  on_has_law rule shaped bs P = has_fits (λ P. Shaped n) (λ P. unfit) bs rule (λ h. shaped h _) P

  on_is_law : (rule : IsLine → Option Conclusion) → ((l : IsLine) → Shaped n (rule l)) → (P : Line) → Shaped n (on_is rule P)
  on_is_law rule shaped P = is_fits (λ P. Shaped n) (λ P. unfit) rule shaped P

  on_compare_law : (rule : CompareLine → Option Conclusion) → ((l : CompareLine) → Shaped n (rule l)) → (P : Line) → Shaped n (on_compare rule P)
  on_compare_law rule shaped P = compare_fits (λ P. Shaped n) (λ P. unfit) rule shaped P

  on_left_law : (rule : CompareLine → Entry → Option Conclusion) → ((l : CompareLine) (e : Entry) → Shaped n (rule l e)) → (bs : List ℕ) (P : Line)
      → Shaped n (on_left rule bs P)
  on_left_law rule shaped bs P = left_fits (λ P. Shaped n) (λ P. unfit) bs rule (λ l on. shaped l _) P

-- ---- the rules with several cases
same_or_differ : (h : HasLine) (e : Entry) → Shaped 1 (rule7 h e)
same_or_differ h e =
    otherwise_fits (Shaped 1) unfit e Kind.Same (Some (comparing h e Comparison.Same))
    (when (same_kind e.kind Kind.Differ) (comparing h e Comparison.Differ))
    (λ s. one)
    (search (when_shaped, one))

first_replaced : (i : Name) (Q : Line) (j : Name) → Shaped 1 (replaced_first i Q j)
first_replaced i (Line.Has q) j = search (when_shaped, one)
first_replaced i (Line.Is q) j = search (when_shaped, one)
first_replaced i (Line.Edge q) j = search (when_shaped, one)
first_replaced i (Line.Compare q) j = search (when_shaped, one)

second_replaced : (i : Name) (Q : Line) (j : Name) → Shaped 1 (replaced_second i Q j)
second_replaced i (Line.Has q) j = unfit
second_replaced i (Line.Is q) j = search (when_shaped, one)
second_replaced i (Line.Edge q) j = search (when_shaped, one)
second_replaced i (Line.Compare q) j = search (when_shaped, one)

replacing : (a : ℕ) (i : Name) (Q : Line) (j : Name) → Shaped 1 (replaced a i Q j)
replacing zero i Q j = first_replaced i Q j
replacing (suc zero) i Q j = second_replaced i Q j
replacing (suc (suc a)) i Q j = unfit

opposes : (P Q : Line) → Shaped 0 (rule21 P Q)
opposes (Line.Has l) Q = on_has_law (λ q e. rule21 (Line.Has l) (Line.Has q)) (λ q e. search (when_shaped, clash)) [] Q
opposes (Line.Is l) Q = on_is_law _ (λ q. search (when_shaped, clash)) Q
opposes (Line.Edge l) Q = unfit
opposes (Line.Compare l) Q = on_compare_law _ (λ q. search (when_shaped, clash)) Q

refutes_itself : (P : Line) → Shaped 0 (rule23 P)
refutes_itself (Line.Has l) = unfit
refutes_itself (Line.Is l) = search (when_shaped, clash)
refutes_itself (Line.Edge l) = unfit
refutes_itself (Line.Compare l) = search (when_shaped, clash)

-- ---- the table, rule by rule
abbrev RuleShaped : ℕ → Rule → Type 0
RuleShaped k r = (bs : List ℕ) (P Q : Line) (a : ℕ) → Shaped r.side_count (r.outcome bs P Q a)

-- what a rule concludes has the sides that the table says
rule_shaped : (k : ℕ) → RuleShaped k (rule_at k)
rule_shaped =
    each_rule RuleShaped (
    (λ bs P Q a. on_has_law rule1 (λ h e. search (when_shaped, one)) bs P)
    and (λ bs P Q a. on_has_law rule2 (λ h e. search (when_shaped, two)) bs P)
    and (λ bs P Q a. on_has_law rule3 (λ h e. search (when_shaped, fork)) bs P)
    and (λ bs P Q a. on_has_law rule4 (λ h e. search (when_shaped, one)) bs P)
    and (λ bs P Q a. on_has_law (λ h e. rule5 h e a) (λ h e. search (when_shaped, new_name_law, new)) bs P)
    and (λ bs P Q a. on_has_law (λ h e. rule6 h e Q) (λ h e. search (when_shaped, arrives, one)) bs P)
    and (λ bs P Q a. on_has_law rule7 same_or_differ bs P)
    and (λ bs P Q a. on_compare_law rule8 (λ l. one) P)
    and (λ bs P Q a. on_left_law rule9 (λ l e. search (when_shaped, one)) bs P)
    and (λ bs P Q a. on_left_law rule10 (λ l e. search (when_shaped, two)) bs P)
    and (λ bs P Q a. on_left_law rule11 (λ l e. search (when_shaped, fork)) bs P)
    and (λ bs P Q a. on_left_law rule12 (λ l e. search (when_shaped, fork)) bs P)
    and (λ bs P Q a. on_left_law rule13 (λ l e. search (when_shaped, two)) bs P)
    and (λ bs P Q a. on_left_law (λ l e. rule14 l e a) (λ l e. search (when_shaped, new_name_law, new)) bs P)
    and (λ bs P Q a. on_left_law (λ l e. rule15 l e Q) (λ l e. search (when_shaped, arrives, one)) bs P)
    and (λ bs P Q a. on_compare_law rule16 (λ l. search (when_shaped, one)) P)
    and (λ bs P Q a. on_is_law rule17 (λ l. search (when_shaped, one)) P)
    and (λ bs P Q a. on_is_law (λ l. rule18 l a) (λ l. search (when_shaped, one)) P)
    and (λ bs P Q a. on_is_law (λ l. rule19 l Q a) (λ l. search (when_shaped, replacing)) P)
    and (λ bs P Q a. on_compare_law (λ l. rule20 l Q) (λ l. on_compare_law (chained l) (λ q. search (when_shaped, one)) Q) P)
    and (λ bs P Q a. opposes P Q)
    and (λ bs P Q a. on_compare_law (λ l. rule22 l Q) (λ l. on_compare_law (λ q. clash_if (contrary l q)) (λ q. search (when_shaped, clash)) Q) P)
    and (λ bs P Q a. refutes_itself P)
    and (λ bs P Q a. on_has_law rule24 (λ h e. search (when_shaped, fork)) bs P)
    and (λ bs P Q a. on_has_law rule25 (λ h e. search (when_shaped, two)) bs P)
    and tt
    )
    (λ k bs P Q a. unfit)

-- so has what a step that follows its rule concludes
pub follows_sides : (bs : List ℕ) (b : List Line) (s : Step) (c : Conclusion) → Follows bs b s c → length (sides c) ≡ (rule_at s.rule).side_count
follows_sides bs b s c f =
    subst (WhereFits (λ d. length (sides d) ≡ (rule_at s.rule).side_count)) (follows_fits bs b s c f)
    (rule_shaped s.rule bs (line_on b s.p) (line_on b s.q) s.argument).says
