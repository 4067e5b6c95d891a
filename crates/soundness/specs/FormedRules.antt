-- From lines that speak of a pattern's entries the rules conclude such lines.
-- Assumes nothing.
use Rattle.std.specs.Prelude.{◌≡◌, refl, List, [], ◌∷◌, ℕ, zero, suc, Option, Some}
use Rattle.std.proofs.Common.{subst, inl}
use Rattle.pattern.specs.declared.types.Name.{Name}
use Rattle.pattern.specs.declared.types.Sign.{Sign}
use Rattle.pattern.specs.declared.types.Comparison.{Comparison}
use Rattle.pattern.specs.declared.table.Kind.{Kind}
use Rattle.pattern.specs.declared.entry.Entry.{Entry}
use Rattle.pattern.specs.File.Table.{end_of_path}
use Rattle.pattern.specs.File.Entries.{entry_at}
use Rattle.pattern.specs.File.Valid.{Valid}
use Rattle.lines.specs.declared.line.HasLine.{HasLine}
use Rattle.lines.specs.declared.line.IsLine.{IsLine}
use Rattle.lines.specs.declared.line.CompareLine.{CompareLine}
use Rattle.lines.specs.declared.line.Line.{Line}
use Rattle.steps.specs.declared.step.Step.{Step}
use Rattle.rules.specs.declared.conclusion.Conclusion.{Conclusion}
use Rattle.rules.specs.declared.fit.Direction.{Direction}
use Rattle.lines.specs.Lines.{has, leads, side, axis, line_on}
use Rattle.lines.specs.Formed.{IsNode, Formed, AllFormed, formed_at}
use Rattle.lines.specs.Parts.{with_left}
use Rattle.rules.specs.Rules.{Rule, rule_at, comparing, on_is, on_compare, on_node, on_left, rule1, rule2, rule3, rule4, rule5, rule6, rule7, rule8, rule9, rule10, rule11, rule12, rule13, rule14, rule15, rule16, rule17, rule18, rule19, replaced, replaced_first, replaced_second, rule20, chained, rule21, rule22, clash_if, contrary, rule23, rule24, rule25}
use Rattle.soundness.specs.Entries.{References, references_of, on_path}
use Rattle.soundness.specs.Cases.{WhereFits, otherwise_fits, kind_fits, held_fits, barred_fits, new_fits, named_fits, has_fits, is_fits, compare_fits, left_fits, arrival_fits, fits16, fits17, fits18, fits19, fits20, fits21has, fits21is, fits21compare, fits22, fits23is, fits23compare}
use Rattle.rules.specs.Sides.{sides}
use Rattle.steps.specs.Steps.{Follows, follows_fits, follows_on}
use Rattle.rules.specs.Table.{each_rule, ◌and◌}

-- the lines of every side are formed
abbrev pub EachFormed : List ℕ → ℕ → List (List Line) → Type 0
EachFormed bs n [] = Unit {0}
EachFormed bs n (new ∷ more) = AllFormed bs n new × EachFormed bs n more

-- the lines of a conclusion are formed
abbrev pub FormedConclusion : List ℕ → ℕ → Conclusion → Type 0
FormedConclusion bs n c = EachFormed bs n (sides c)

-- what is shown of a conclusion's lines, by its sides: one line, two, a line on each side
one : {A : Type 0} → A → (A × Unit {0}) × Unit {0}
one f = ((f, tt), tt)

two : {A B : Type 0} → A → B → (A × (B × Unit {0})) × Unit {0}
two f g = ((f, (g, tt)), tt)

fork : {A B : Type 0} → A → B → (A × Unit {0}) × ((B × Unit {0}) × Unit {0})
fork f g = ((f, tt), ((g, tt), tt))

module _ {bs : List ℕ} {n : ℕ} (ok : Valid bs n) where
  -- what is concluded is formed; what is concluded from P is formed where P is
  abbrev Shown : Option Conclusion → Type 0
  Shown = WhereFits (FormedConclusion bs n)

  abbrev From : Line → Option Conclusion → Type 0
  From P o = Formed bs n P → Shown o

  module _ (h : HasLine) (f : IsNode bs n h.node) where
    abbrev node : Entry
    node = entry_at bs h.node

    -- what the entry of P refers to
    node_refers : (κ : Kind) → node.kind ≡ κ → References bs n h.node κ
    node_refers = references_of ok h.node f.0

    formed1 : Shown (rule1 h node)
    formed1 = kind_fits Shown tt node Kind.Not _ (λ κ. one (node_refers Kind.Not κ).0)

    formed2 : Shown (rule2 h node)
    formed2 = held_fits Shown tt node Kind.Both h.sign _ (λ κ s. let r = node_refers Kind.Both κ in two r.0 r.1)

    formed3 : Shown (rule3 h node)
    formed3 = barred_fits Shown tt node Kind.Both h.sign _ (λ κ s. let r = node_refers Kind.Both κ in fork r.0 r.1)

    formed4 : Shown (rule4 h node)
    formed4 = kind_fits Shown tt node Kind.Name _ (λ κ. one tt)

    formed5 : (a : ℕ) → Shown (rule5 h node a)
    formed5 a =
        held_fits Shown tt node Kind.After h.sign _
        (λ κ s. new_fits Shown tt a (λ j. Conclusion.New j (leads (axis node.x) h.name j) (has Sign.Positive j node.y))
        (two tt (node_refers Kind.After κ).1))

    formed6 : (Q : Line) → Shown (rule6 h node Q)
    formed6 Q =
        barred_fits Shown tt node Kind.After h.sign _
        (λ κ s. arrival_fits (λ q. Shown) (λ q. tt) Direction.Along node.x h.name (λ j. Conclusion.One (has Sign.Negative j node.y))
        (λ l a i. one (node_refers Kind.After κ).1) Q)

    formed7 : Shown (rule7 h node)
    formed7 =
        otherwise_fits Shown tt node Kind.Same (Some (comparing h node Comparison.Same)) _
        (λ κ. let r = node_refers Kind.Same κ in one (r.1, r.2))
        (kind_fits Shown tt node Kind.Differ _ (λ κ. let r = node_refers Kind.Differ κ in one (r.1, r.2)))

    formed24 : Shown (rule24 h node)
    formed24 = held_fits Shown tt node Kind.Either h.sign _ (λ κ s. let r = node_refers Kind.Either κ in fork r.0 r.1)

    formed25 : Shown (rule25 h node)
    formed25 = barred_fits Shown tt node Kind.Either h.sign _ (λ κ s. let r = node_refers Kind.Either κ in two r.0 r.1)

  module _ (l : CompareLine) (on : l.left.path ≡ end_of_path → ⊥) (f : Formed bs n (Line.Compare l)) where
    abbrev path : Entry
    path = entry_at bs l.left.path

    -- what the entry of the left path refers to
    path_refers : (κ : Kind) → path.kind ≡ κ → References bs n l.left.path κ
    path_refers = references_of ok l.left.path (on_path ok l.left.path f.0 on).0

    formed9 : Shown (rule9 l path)
    formed9 = kind_fits Shown tt path Kind.Jump _ (λ κ. one ((path_refers Kind.Jump κ).1, f.1))

    formed10 : Shown (rule10 l path)
    formed10 = held_fits Shown tt path Kind.Test l.sign _ (λ κ s. let r = path_refers Kind.Test κ in two r.0 (r.1, f.1))

    formed11 : Shown (rule11 l path)
    formed11 = barred_fits Shown tt path Kind.Test l.sign _ (λ κ s. let r = path_refers Kind.Test κ in fork r.0 (r.1, f.1))

    formed12 : Shown (rule12 l path)
    formed12 = held_fits Shown tt path Kind.Fork l.sign _ (λ κ s. let r = path_refers Kind.Fork κ in fork (r.0, f.1) (r.1, f.1))

    formed13 : Shown (rule13 l path)
    formed13 = barred_fits Shown tt path Kind.Fork l.sign _ (λ κ s. let r = path_refers Kind.Fork κ in two (r.0, f.1) (r.1, f.1))

    formed14 : (a : ℕ) → Shown (rule14 l path a)
    formed14 a =
        held_fits Shown tt path Kind.Step l.sign _
        (λ κ s. new_fits Shown tt a (λ k. Conclusion.New k (leads (axis path.x) l.left.name k) (with_left l (side k path.y)))
        (two tt ((path_refers Kind.Step κ).1, f.1)))

    formed15 : (Q : Line) → Shown (rule15 l path Q)
    formed15 Q =
        barred_fits Shown tt path Kind.Step l.sign _
        (λ κ s. arrival_fits (λ q. Shown) (λ q. tt) Direction.Along path.x l.left.name (λ k. Conclusion.One (with_left l (side k path.y)))
        (λ m a i. one ((path_refers Kind.Step κ).1, f.1)) Q)

  -- rule 19, argument 0; argument 1
  first_formed : (i : Name) (Q : Line) (j : Name) → From Q (replaced_first i Q j)
  first_formed i (Line.Has q) j f = named_fits Shown tt q.name i _ (λ e. one f)
  first_formed i (Line.Is q) j f = named_fits Shown tt q.first i _ (λ e. one tt)
  first_formed i (Line.Edge q) j f = named_fits Shown tt q.from i _ (λ e. one tt)
  first_formed i (Line.Compare q) j f = named_fits Shown tt q.left.name i _ (λ e. one f)

  second_formed : (i : Name) (Q : Line) (j : Name) → From Q (replaced_second i Q j)
  second_formed i (Line.Has q) j f = tt
  second_formed i (Line.Is q) j f = named_fits Shown tt q.second i _ (λ e. one tt)
  second_formed i (Line.Edge q) j f = named_fits Shown tt q.to i _ (λ e. one tt)
  second_formed i (Line.Compare q) j f = named_fits Shown tt q.right.name i _ (λ e. one f)

  replaced_formed : (a : ℕ) (i : Name) (Q : Line) (j : Name) → From Q (replaced a i Q j)
  replaced_formed zero i Q j f = first_formed i Q j f
  replaced_formed (suc zero) i Q j f = second_formed i Q j f
  replaced_formed (suc (suc a)) i Q j f = tt

  -- by the form of a line
  by_has : (rule : HasLine → Entry → Option Conclusion) → ((h : HasLine) → From (Line.Has h) (rule h (entry_at bs h.node))) → (P : Line)
      → From P (on_node rule bs P)
  by_has = has_fits From (λ P f. tt) bs

  by_is : (rule : IsLine → Option Conclusion) → ((l : IsLine) → From (Line.Is l) (rule l)) → (P : Line) → From P (on_is rule P)
  by_is = is_fits From (λ P f. tt)

  by_compare : (rule : CompareLine → Option Conclusion) → ((l : CompareLine) → From (Line.Compare l) (rule l)) → (P : Line)
      → From P (on_compare rule P)
  by_compare = compare_fits From (λ P f. tt)

  by_left : (rule : CompareLine → Entry → Option Conclusion)
      → ((l : CompareLine) → (l.left.path ≡ end_of_path → ⊥) → From (Line.Compare l) (rule l (entry_at bs l.left.path))) → (P : Line)
      → From P (on_left rule bs P)
  by_left = left_fits From (λ P f. tt) bs

  formed20 : (l : CompareLine) (Q : Line) → Formed bs n (Line.Compare l) → From Q (rule20 l Q)
  formed20 l Q f = by_compare (chained l) (λ q g. fits20 Shown tt l q (λ s c e t d i j. one (f.0, g.1))) Q

  -- a clash has no line
  formed21 : (P Q : Line) → Shown (rule21 P Q)
  formed21 (Line.Has l) Q =
      has_fits (λ q. Shown) (λ q. tt) bs (λ q e. rule21 (Line.Has l) (Line.Has q)) (λ q. fits21has Shown tt l q (λ s i f. tt)) Q
  formed21 (Line.Is l) Q = is_fits (λ q. Shown) (λ q. tt) (λ q. rule21 (Line.Is l) (Line.Is q)) (λ q. fits21is Shown tt l q (λ s i j. tt)) Q
  formed21 (Line.Edge l) Q = tt
  formed21 (Line.Compare l) Q =
      compare_fits (λ q. Shown) (λ q. tt) (λ q. rule21 (Line.Compare l) (Line.Compare q)) (λ q. fits21compare Shown tt l q (λ s c e. tt)) Q

  formed22 : (l : CompareLine) (Q : Line) → Shown (rule22 l Q)
  formed22 l Q = compare_fits (λ q. Shown) (λ q. tt) (λ q. clash_if (contrary l q)) (λ q. fits22 Shown tt l q (λ s c t d e f. tt)) Q

  formed23 : (P : Line) → Shown (rule23 P)
  formed23 (Line.Has l) = tt
  formed23 (Line.Is l) = fits23is Shown tt l (λ s i. tt)
  formed23 (Line.Edge l) = tt
  formed23 (Line.Compare l) = fits23compare Shown tt l (λ s c e i. tt)

  -- a rule concludes formed lines from such
  abbrev RuleFormed : Rule → Type 0
  RuleFormed r = (P Q : Line) (a : ℕ) → Formed bs n P → Formed bs n Q → Shown (r.outcome bs P Q a)

  -- every rule of the table
  rule_formed : (k : ℕ) → RuleFormed (rule_at k)
  rule_formed =
      each_rule (λ k r. RuleFormed r)
      ((λ P Q a f g. by_has rule1 formed1 P f)
      and (λ P Q a f g. by_has rule2 formed2 P f)
      and (λ P Q a f g. by_has rule3 formed3 P f)
      and (λ P Q a f g. by_has rule4 formed4 P f)
      and (λ P Q a f g. by_has (λ h e. rule5 h e a) (λ h i. formed5 h i a) P f)
      and (λ P Q a f g. by_has (λ h e. rule6 h e Q) (λ h i. formed6 h i Q) P f)
      and (λ P Q a f g. by_has rule7 formed7 P f)
      and (λ P Q a f g. by_compare rule8 (λ l i. one (i.1, i.0)) P f)
      and (λ P Q a f g. by_left rule9 formed9 P f)
      and (λ P Q a f g. by_left rule10 formed10 P f)
      and (λ P Q a f g. by_left rule11 formed11 P f)
      and (λ P Q a f g. by_left rule12 formed12 P f)
      and (λ P Q a f g. by_left rule13 formed13 P f)
      and (λ P Q a f g. by_left (λ l e. rule14 l e a) (λ l on i. formed14 l on i a) P f)
      and (λ P Q a f g. by_left (λ l e. rule15 l e Q) (λ l on i. formed15 l on i Q) P f)
      and (λ P Q a f g. by_compare rule16 (λ l i. fits16 Shown tt l (λ s e. one i)) P f)
      and (λ P Q a f g. by_is rule17 (λ l i. fits17 Shown tt l (λ s. one tt)) P f)
      and (λ P Q a f g. by_is (λ l. rule18 l a) (λ l i. fits18 Shown tt l a (λ s. one (inl refl, inl refl))) P f)
      and (λ P Q a f g. by_is (λ l. rule19 l Q a) (λ l i. fits19 Shown tt l Q a (λ s. replaced_formed a l.first Q l.second g)) P f)
      and (λ P Q a f g. by_compare (λ l. rule20 l Q) (λ l i. formed20 l Q i g) P f)
      and (λ P Q a f g. formed21 P Q)
      and (λ P Q a f g. by_compare (λ l. rule22 l Q) (λ l i. formed22 l Q) P f)
      and (λ P Q a f g. formed23 P)
      and (λ P Q a f g. by_has rule24 formed24 P f)
      and (λ P Q a f g. by_has rule25 formed25 P f)
      and tt)
      (λ k P Q a f g. tt)

  -- the lines of what a step concludes on a branch of formed lines are formed
  pub step_formed : (b : List Line) → AllFormed bs n b → (s : Step) (c : Conclusion) → Follows bs b s c → FormedConclusion bs n c
  step_formed b f s c follows =
      let on = follows_on bs b s c follows in
      subst Shown (follows_fits bs b s c follows)
      (rule_formed s.rule (line_on b s.p) (line_on b s.q) s.argument (formed_at bs n b f s.p on.0)
      (formed_at bs n b f s.q on.1))
