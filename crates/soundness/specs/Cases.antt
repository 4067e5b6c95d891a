-- What has to be shown of a rule: C of what it concludes where lines and tests fit, and C of that they don't. C may speak of the line that
-- the rule is applied to.
-- Assumes nothing.
use Rattle.std.specs.Prelude.{◌≡◌, refl, Bool, true, false, not, ◌&&◌, List, ℕ, eqb, leb, Option, Some, None}
use Rattle.std.proofs.Common.{sym, eqb-true}
use Rattle.std.proofs.lemmas.Bool.{false≢true, eqb-false, not-true}
use Rattle.wire.specs.Choice.{pick}
use Rattle.pattern.specs.declared.types.Name.{Name}
use Rattle.pattern.specs.declared.types.Sign.{Sign}
use Rattle.pattern.specs.declared.types.Comparison.{Comparison}
use Rattle.pattern.specs.declared.table.Kind.{Kind}
use Rattle.pattern.specs.declared.entry.Entry.{Entry}
use Rattle.pattern.specs.Checks.Tests.{and_is_true}
use Rattle.pattern.specs.File.Types.{max_name, max_channel, channel_number, opposite, other_of}
use Rattle.pattern.specs.File.Table.{end_of_path, same_kind, same_kind_law}
use Rattle.pattern.specs.File.Entries.{entry_at}
use Rattle.lines.specs.declared.line.HasLine.{HasLine}
use Rattle.lines.specs.declared.line.IsLine.{IsLine}
use Rattle.lines.specs.declared.line.EdgeLine.{EdgeLine}
use Rattle.lines.specs.declared.line.CompareLine.{CompareLine}
use Rattle.lines.specs.declared.line.Side.{Side}
use Rattle.lines.specs.declared.line.Line.{Line}
use Rattle.rules.specs.declared.conclusion.Conclusion.{Conclusion}
use Rattle.rules.specs.declared.fit.Direction.{Direction}
use Rattle.lines.specs.Lines.{is, side, compare, name}
use Rattle.lines.specs.Parts.{positive, negative, is_same, is_differ, same_comparison, same_name, same_channel, same_side, at_end, both_at_end, opposed, channel_at}
use Rattle.rules.specs.Rules.{only, near_end, far_end, alike_sides, new_name, arrival, arriving, on_is, on_compare, on_node, on_left_of, on_left, replaced, rule16, rule17, rule18, rule19, chained, rule21, clash_if, contrary, rule23}

-- ---- what the tests say
sign_positive : (s : Sign) → positive s ≡ true → s ≡ Sign.Positive
sign_positive Sign.Positive h = refl
sign_positive Sign.Negative h = absurd (false≢true h)

sign_negative : (s : Sign) → negative s ≡ true → s ≡ Sign.Negative
sign_negative Sign.Positive h = absurd (false≢true h)
sign_negative Sign.Negative h = refl

signs_opposed : (s t : Sign) → opposed s t ≡ true → t ≡ opposite s
signs_opposed Sign.Positive t h = sign_negative t h
signs_opposed Sign.Negative t h = sign_positive t h

comparison_same : (c : Comparison) → is_same c ≡ true → c ≡ Comparison.Same
comparison_same Comparison.Same h = refl
comparison_same Comparison.Differ h = absurd (false≢true h)

comparison_differ : (c : Comparison) → is_differ c ≡ true → c ≡ Comparison.Differ
comparison_differ Comparison.Same h = absurd (false≢true h)
comparison_differ Comparison.Differ h = refl

comparisons_same : (c d : Comparison) → same_comparison c d ≡ true → c ≡ d
comparisons_same Comparison.Same d h = sym (comparison_same d h)
comparisons_same Comparison.Differ d h = sym (comparison_differ d h)

-- both paths of a comparison are at their ends
abbrev pub AtEnds : CompareLine → Type 0
AtEnds l = (l.left.path ≡ end_of_path) × (l.right.path ≡ end_of_path)

at_ends : (l : CompareLine) → both_at_end l ≡ true → AtEnds l
at_ends l h =
    let r = and_is_true (at_end l.left) (at_end l.right) h in
    (eqb-true l.left.path end_of_path r.0, eqb-true l.right.path end_of_path r.1)

-- sides alike, and comparisons alike but for sign and comparison
abbrev pub SidesAlike : Side → Side → Type 0
SidesAlike s t = (s.name.number ≡ t.name.number) × (s.path ≡ t.path)

abbrev pub AlikeSides : CompareLine → CompareLine → Type 0
AlikeSides l q = (channel_number l.channel ≡ channel_number q.channel) × SidesAlike l.left q.left × SidesAlike l.right q.right

side_alike : (s t : Side) → same_side s t ≡ true → SidesAlike s t
side_alike s t h =
    let r = and_is_true (same_name s.name t.name) (eqb s.path t.path) h in
    (eqb-true s.name.number t.name.number r.0, eqb-true s.path t.path r.1)

sides_alike : (l q : CompareLine) → alike_sides l q ≡ true → AlikeSides l q
sides_alike l q h =
    let r = and_is_true (same_channel l.channel q.channel && same_side l.left q.left) (same_side l.right q.right) h in
    let s = and_is_true (same_channel l.channel q.channel) (same_side l.left q.left) r.0 in (
      eqb-true (channel_number l.channel) (channel_number q.channel) s.0,
      side_alike l.left q.left s.1,
      side_alike l.right q.right r.1,
    )

-- ---- the parts of a rule

-- D of what is concluded; nothing is to be shown where lines or argument don't fit
abbrev pub WhereFits : (Conclusion → Type 0) → Option Conclusion → Type 0
WhereFits D (Some c) = D c
WhereFits D None = Unit {0}

module _ (C : Option Conclusion → Type 0) (unfit : C None) where
  -- a test
  pub only_fits : (test : Bool) (o : Option Conclusion) → (test ≡ true → C o) → C (only test o)
  only_fits true o fits = fits refl
  only_fits false o fits = unfit

  -- the kind of the entry, alone and as the first of two choices
  pub kind_fits : (e : Entry) (κ : Kind) (o : Option Conclusion) → (e.kind ≡ κ → C o) → C (only (same_kind e.kind κ) o)
  kind_fits e κ o fits = only_fits (same_kind e.kind κ) o (λ t. fits (same_kind_law e.kind κ t))

  pub otherwise_fits : (e : Entry) (κ : Kind) (o p : Option Conclusion) → (e.kind ≡ κ → C o) → C p → C (pick (same_kind e.kind κ) o p)
  otherwise_fits e κ o p first second = go (same_kind e.kind κ) (λ t. first (same_kind_law e.kind κ t))
    where
      go : (test : Bool) → (test ≡ true → C o) → C (pick test o p)
      go true h = h refl
      go false h = second

  -- the kind of the entry and the sign of P
  pub held_fits : (e : Entry) (κ : Kind) (s : Sign) (o : Option Conclusion) → (e.kind ≡ κ → s ≡ Sign.Positive → C o)
      → C (only (same_kind e.kind κ && positive s) o)
  held_fits e κ s o fits =
      only_fits (same_kind e.kind κ && positive s) o
      (λ t. let r = and_is_true (same_kind e.kind κ) (positive s) t in fits (same_kind_law e.kind κ r.0) (sign_positive s r.1))

  pub barred_fits : (e : Entry) (κ : Kind) (s : Sign) (o : Option Conclusion) → (e.kind ≡ κ → s ≡ Sign.Negative → C o)
      → C (only (same_kind e.kind κ && negative s) o)
  barred_fits e κ s o fits =
      only_fits (same_kind e.kind κ && negative s) o
      (λ t. let r = and_is_true (same_kind e.kind κ) (negative s) t in fits (same_kind_law e.kind κ r.0) (sign_negative s r.1))

  -- "(name over 127 included)"
  pub new_fits : (a : ℕ) (conclusion : Name → Conclusion) → C (Some (conclusion (name a))) → C (new_name a conclusion)
  new_fits a conclusion fits = only_fits (leb a max_name) (Some (conclusion (name a))) (λ t. fits)

  -- ---- the rules 16 to 23, which look at no entry
  pub fits16 : (l : CompareLine)
      → (l.sign ≡ Sign.Negative → AtEnds l
      → C (Some (Conclusion.One (compare Sign.Positive (other_of l.comparison) l.channel l.left l.right)))) → C (rule16 l)
  fits16 l fits =
      only_fits (negative l.sign && both_at_end l) _
      (λ t. let r = and_is_true (negative l.sign) (both_at_end l) t in fits (sign_negative l.sign r.0) (at_ends l r.1))

  pub fits17 : (l : IsLine) → (l.sign ≡ Sign.Positive → C (Some (Conclusion.One (is Sign.Positive l.second l.first)))) → C (rule17 l)
  fits17 l fits = only_fits (positive l.sign) _ (λ t. fits (sign_positive l.sign t))

  pub fits18 : (l : IsLine) (a : ℕ)
      → (l.sign ≡ Sign.Positive
      → C (Some (Conclusion.One (compare Sign.Positive Comparison.Same (channel_at a) (side l.first end_of_path) (side l.second end_of_path)))))
      → C (rule18 l a)
  fits18 l a fits =
      only_fits (positive l.sign && leb a max_channel) _
      (λ t. fits (sign_positive l.sign (and_is_true (positive l.sign) (leb a max_channel) t).0))

  pub fits19 : (l : IsLine) (Q : Line) (a : ℕ) → (l.sign ≡ Sign.Positive → C (replaced a l.first Q l.second)) → C (rule19 l Q a)
  fits19 l Q a fits = only_fits (positive l.sign) _ (λ t. fits (sign_positive l.sign t))

  -- the name at a place is the one that is replaced
  pub named_fits : (i j : Name) (o : Option Conclusion) → (i.number ≡ j.number → C o) → C (only (same_name i j) o)
  named_fits i j o fits = only_fits (same_name i j) o (λ t. fits (eqb-true i.number j.number t))

  pub fits20 : (l q : CompareLine)
      → (l.sign ≡ Sign.Positive → l.comparison ≡ Comparison.Same → AtEnds l → q.sign ≡ Sign.Positive → AtEnds q
      → l.right.name.number ≡ q.left.name.number → channel_number l.channel ≡ channel_number q.channel
      → C (Some (Conclusion.One (compare Sign.Positive q.comparison l.channel l.left q.right)))) → C (chained l q)
  fits20 l q fits =
      let a = positive l.sign in
      let b = is_same l.comparison in
      let c = both_at_end l in
      let d = positive q.sign in
      let e = both_at_end q in
      let f = same_name l.right.name q.left.name in
      let g = same_channel l.channel q.channel in
      only_fits (a && b && c && d && e && f && g) _
      (λ t. let t6 = and_is_true (a && b && c && d && e && f) g t in
      let t5 = and_is_true (a && b && c && d && e) f t6.0 in
      let t4 = and_is_true (a && b && c && d) e t5.0 in
      let t3 = and_is_true (a && b && c) d t4.0 in
      let t2 = and_is_true (a && b) c t3.0 in
      let t1 = and_is_true a b t2.0 in
      fits (sign_positive l.sign t1.0) (comparison_same l.comparison t1.1) (at_ends l t2.1)
      (sign_positive q.sign t3.1)
      (at_ends q t4.1)
      (eqb-true l.right.name.number q.left.name.number t5.1)
      (eqb-true (channel_number l.channel) (channel_number q.channel) t6.1))

  pub fits21has : (l q : HasLine)
      → (q.sign ≡ opposite l.sign → l.name.number ≡ q.name.number → l.node ≡ q.node → C (Some Conclusion.Clash))
      → C (rule21 (Line.Has l) (Line.Has q))
  fits21has l q fits =
      let a = opposed l.sign q.sign in
      let b = same_name l.name q.name in
      let c = eqb l.node q.node in
      only_fits (a && b && c) _
      (λ t. let t2 = and_is_true (a && b) c t in
      let t1 = and_is_true a b t2.0 in
      fits (signs_opposed l.sign q.sign t1.0) (eqb-true l.name.number q.name.number t1.1)
      (eqb-true l.node q.node t2.1))

  pub fits21is : (l q : IsLine)
      → (q.sign ≡ opposite l.sign → l.first.number ≡ q.first.number → l.second.number ≡ q.second.number → C (Some Conclusion.Clash))
      → C (rule21 (Line.Is l) (Line.Is q))
  fits21is l q fits =
      let a = opposed l.sign q.sign in
      let b = same_name l.first q.first in
      let c = same_name l.second q.second in
      only_fits (a && b && c) _
      (λ t. let t2 = and_is_true (a && b) c t in
      let t1 = and_is_true a b t2.0 in
      fits (signs_opposed l.sign q.sign t1.0) (eqb-true l.first.number q.first.number t1.1)
      (eqb-true l.second.number q.second.number t2.1))

  pub fits21compare : (l q : CompareLine)
      → (q.sign ≡ opposite l.sign → l.comparison ≡ q.comparison → AlikeSides l q → C (Some Conclusion.Clash))
      → C (rule21 (Line.Compare l) (Line.Compare q))
  fits21compare l q fits =
      let a = opposed l.sign q.sign in
      let b = same_comparison l.comparison q.comparison in
      let c = alike_sides l q in
      only_fits (a && b && c) _
      (λ t. let t2 = and_is_true (a && b) c t in
      let t1 = and_is_true a b t2.0 in
      fits (signs_opposed l.sign q.sign t1.0) (comparisons_same l.comparison q.comparison t1.1) (sides_alike l q t2.1))

  pub fits22 : (l q : CompareLine)
      → (l.sign ≡ Sign.Positive → l.comparison ≡ Comparison.Same → q.sign ≡ Sign.Positive → q.comparison ≡ Comparison.Differ
      → AlikeSides l q → AtEnds l → C (Some Conclusion.Clash)) → C (clash_if (contrary l q))
  fits22 l q fits =
      let a = positive l.sign in
      let b = is_same l.comparison in
      let c = positive q.sign in
      let d = is_differ q.comparison in
      let e = alike_sides l q in
      let f = both_at_end l in
      only_fits (a && b && c && d && e && f) _
      (λ t. let t5 = and_is_true (a && b && c && d && e) f t in
      let t4 = and_is_true (a && b && c && d) e t5.0 in
      let t3 = and_is_true (a && b && c) d t4.0 in
      let t2 = and_is_true (a && b) c t3.0 in
      let t1 = and_is_true a b t2.0 in
      fits (sign_positive l.sign t1.0) (comparison_same l.comparison t1.1) (sign_positive q.sign t2.1)
      (comparison_differ q.comparison t3.1)
      (sides_alike l q t4.1)
      (at_ends l t5.1))

  pub fits23is : (l : IsLine) → (l.sign ≡ Sign.Negative → l.first.number ≡ l.second.number → C (Some Conclusion.Clash)) → C (rule23 (Line.Is l))
  fits23is l fits =
      let a = negative l.sign in
      let b = same_name l.first l.second in
      only_fits (a && b) _
      (λ t. let r = and_is_true a b t in fits (sign_negative l.sign r.0) (eqb-true l.first.number l.second.number r.1))

  pub fits23compare : (l : CompareLine)
      → (l.sign ≡ Sign.Positive → l.comparison ≡ Comparison.Differ → AtEnds l → l.left.name.number ≡ l.right.name.number
      → C (Some Conclusion.Clash)) → C (rule23 (Line.Compare l))
  fits23compare l fits =
      let a = positive l.sign in
      let b = is_differ l.comparison in
      let c = both_at_end l in
      let d = same_name l.left.name l.right.name in
      only_fits (a && b && c && d) _
      (λ t. let t3 = and_is_true (a && b && c) d t in
      let t2 = and_is_true (a && b) c t3.0 in
      let t1 = and_is_true a b t2.0 in
      fits (sign_positive l.sign t1.0) (comparison_differ l.comparison t1.1) (at_ends l t2.1)
      (eqb-true l.left.name.number l.right.name.number t3.1))

-- ---- the forms that P and Q have
module _ (C : Line → Option Conclusion → Type 0) (unfit : (P : Line) → C P None) where
  -- P by its form
  pub has_fits : (bs : List ℕ) (rule : HasLine → Entry → Option Conclusion) → ((h : HasLine) → C (Line.Has h) (rule h (entry_at bs h.node)))
      → (P : Line) → C P (on_node rule bs P)
  has_fits bs rule fits (Line.Has h) = fits h
  has_fits bs rule fits (Line.Is l) = unfit (Line.Is l)
  has_fits bs rule fits (Line.Edge l) = unfit (Line.Edge l)
  has_fits bs rule fits (Line.Compare l) = unfit (Line.Compare l)

  pub is_fits : (rule : IsLine → Option Conclusion) → ((l : IsLine) → C (Line.Is l) (rule l)) → (P : Line) → C P (on_is rule P)
  is_fits rule fits (Line.Has h) = unfit (Line.Has h)
  is_fits rule fits (Line.Is l) = fits l
  is_fits rule fits (Line.Edge l) = unfit (Line.Edge l)
  is_fits rule fits (Line.Compare l) = unfit (Line.Compare l)

  pub compare_fits : (rule : CompareLine → Option Conclusion) → ((l : CompareLine) → C (Line.Compare l) (rule l)) → (P : Line)
      → C P (on_compare rule P)
  compare_fits rule fits (Line.Has h) = unfit (Line.Has h)
  compare_fits rule fits (Line.Is l) = unfit (Line.Is l)
  compare_fits rule fits (Line.Edge l) = unfit (Line.Edge l)
  compare_fits rule fits (Line.Compare l) = fits l

  -- "P is a comparison", and its left path isn't at its end
  pub left_fits : (bs : List ℕ) (rule : CompareLine → Entry → Option Conclusion)
      → ((l : CompareLine) → (l.left.path ≡ end_of_path → ⊥) → C (Line.Compare l) (rule l (entry_at bs l.left.path))) → (P : Line)
      → C P (on_left rule bs P)
  left_fits bs rule fits =
      compare_fits (on_left_of rule bs)
      (λ l. only_fits (C (Line.Compare l)) (unfit (Line.Compare l)) (not (at_end l.left)) (rule l (entry_at bs l.left.path))
      (λ t. fits l (eqb-false l.left.path end_of_path (not-true _ t))))

  -- "Q: that axis leads from i to j"
  pub arrival_fits : (d : Direction) (a : ℕ) (i : Name) (conclusion : Name → Conclusion)
      → ((l : EdgeLine) → l.axis.number ≡ a → (near_end d l).number ≡ i.number → C (Line.Edge l) (Some (conclusion (far_end d l))))
      → (Q : Line) → C Q (arriving (arrival Q d a i) conclusion)
  arrival_fits d a i conclusion fits (Line.Has h) = unfit (Line.Has h)
  arrival_fits d a i conclusion fits (Line.Is l) = unfit (Line.Is l)
  arrival_fits d a i conclusion fits (Line.Edge l) =
      go (eqb l.axis.number a && same_name (near_end d l) i)
      (λ t. let r = and_is_true (eqb l.axis.number a) (same_name (near_end d l) i) t in
      fits l (eqb-true l.axis.number a r.0) (eqb-true (near_end d l).number i.number r.1))
    where
      go : (test : Bool) → (test ≡ true → C (Line.Edge l) (Some (conclusion (far_end d l))))
          → C (Line.Edge l) (arriving (pick test (Some (far_end d l)) None) conclusion)
      go true h = h refl
      go false h = unfit (Line.Edge l)
  arrival_fits d a i conclusion fits (Line.Compare l) = unfit (Line.Compare l)
