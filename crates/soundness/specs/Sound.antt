-- The rules are sound: where a step's lines are true, the sides of what it concludes can't all be refuted.
-- Assumes nothing.
use Rattle.std.specs.Prelude.{◌≡◌, refl, ◌⊎◌, ◌↔◌, Bool, true, false, List, [], ◌∷◌, ℕ, zero, suc, ◌≤◌, ◌<◌, eqb, length, Option, Some}
use Rattle.std.proofs.Common.{sym, ◌∙◌, ap, subst, inl, inr, arith, ne_eqb}
use Rattle.std.proofs.lemmas.Bool.{false≢true}
use Rattle.pattern.specs.declared.types.Name.{Name}
use Rattle.pattern.specs.declared.types.Sign.{Sign}
use Rattle.pattern.specs.declared.types.Comparison.{Comparison}
use Rattle.pattern.specs.declared.table.Kind.{Kind}
use Rattle.pattern.specs.declared.table.Sort.{Sort}
use Rattle.pattern.specs.declared.entry.Entry.{Entry}
use Rattle.pattern.specs.Logic.Semantics.{Model, Naming, Compared}
use Rattle.pattern.specs.Logic.Compared.{alike_is, compared_other}
use Rattle.pattern.proofs.Logic.Compared.{compared_on}
use Rattle.pattern.specs.Checks.Tests.{or_is_false}
use Rattle.pattern.specs.File.Types.{max_channel, channel_number, other_of}
use Rattle.pattern.specs.File.Table.{end_of_path}
use Rattle.pattern.specs.File.Entries.{entry_at}
use Rattle.pattern.specs.File.Reading.{sort_at}
use Rattle.pattern.specs.File.Valid.{Valid}
use Rattle.pattern.specs.Meaning.Agreement.{HoldsAt, LeadsAt}
use Rattle.pattern.specs.Meaning.Names.{uses_name}
use Rattle.lines.specs.declared.line.HasLine.{HasLine}
use Rattle.lines.specs.declared.line.IsLine.{IsLine}
use Rattle.lines.specs.declared.line.CompareLine.{CompareLine}
use Rattle.lines.specs.declared.line.Side.{Side}
use Rattle.lines.specs.declared.line.Line.{Line}
use Rattle.steps.specs.declared.step.Step.{Step}
use Rattle.rules.specs.declared.conclusion.Conclusion.{Conclusion}
use Rattle.rules.specs.declared.fit.Direction.{Direction}
use Rattle.lines.specs.Lines.{has, leads, side, axis, name, line_on, line_has, branch_has, line_lacks}
use Rattle.lines.specs.Formed.{IsNode, Formed, AllFormed, formed_at}
use Rattle.lines.specs.Parts.{with_left, channel_at}
use Rattle.rules.specs.Rules.{Rule, rule_at, comparing, on_is, on_compare, on_node, on_left, rule1, rule2, rule3, rule4, rule5, rule6, rule7, rule8, rule9, rule10, rule11, rule12, rule13, rule14, rule15, rule16, rule17, rule18, rule19, replaced, replaced_first, replaced_second, rule20, chained, rule21, rule22, clash_if, contrary, rule23, rule24, rule25, ◌∈◌}
use Rattle.soundness.specs.Cases.{WhereFits, AtEnds, otherwise_fits, kind_fits, held_fits, barred_fits, new_fits, named_fits, has_fits, is_fits, compare_fits, left_fits, arrival_fits, fits16, fits17, fits18, fits19, fits20, fits21has, fits21is, fits21compare, fits22, fits23is, fits23compare}
use Rattle.steps.specs.Steps.{Follows, follows_fits, follows_on}
use Rattle.soundness.specs.Entries.{references_of, first_within, on_path, NodeSays, PathSays, node_says, path_says}
use Rattle.lines.specs.Truth.{Signed, Compares, True, AllTrue, true_at, held, barred, to_held, to_barred, signed_map, denied, opposites}
use Rattle.lines.specs.Naming.{renamed, renamed_same, renamed_other, moved_holds, moved_leads, still_true}
use Rattle.soundness.specs.Comparing.{SideEnds, Meet, meet_swap, meet_left, meet_alike, to_meet, of_meet}
use Rattle.rules.specs.Sides.{sides, new_names}
use Rattle.rules.specs.Table.{each_rule, ◌and◌, one_of}

-- no side's lines are all true
abbrev pub EachRefuted : (bs : List ℕ) (M : Model) → Naming M → List (List Line) → Type 0
EachRefuted bs M nom [] = Unit {0}
EachRefuted bs M nom (new ∷ more) = (AllTrue bs M nom new → ⊥) × EachRefuted bs M nom more

-- a naming that gives the new names of a conclusion any nodes, and changes no other
abbrev pub Renames : (M : Model) → Conclusion → Naming M → Naming M → Type 0
Renames M c nom nom' = (j : ℕ) → one_of j (new_names c) ≡ false → nom j ≡ nom' j

-- What a conclusion is worth: if each of its sides leads to ⊥, whatever its new names name, then there is ⊥. No side is chosen.
pub record Sound (bs : List ℕ) (M : Model) (nom : Naming M) (c : Conclusion) : Type 0 where
  pub not_all_refuted : ((nom' : Naming M) → Renames M c nom nom' → EachRefuted bs M nom' (sides c)) → ⊥

-- a conclusion by its form
module _ {bs : List ℕ} {M : Model} {nom : Naming M} where
  one_sound : {l : Line} → ((True bs M nom l → ⊥) → ⊥) → Sound bs M nom (Conclusion.One l)
  one_sound h = record { not_all_refuted = λ each. h (λ t. (each nom (λ j e. refl)).0 (t, tt)) }

  two_sound : {l m : Line} → ((True bs M nom l → True bs M nom m → ⊥) → ⊥) → Sound bs M nom (Conclusion.Two l m)
  two_sound h = record { not_all_refuted = λ each. h (λ t u. (each nom (λ j e. refl)).0 (t, (u, tt))) }

  new_sound : {i : Name} {l m : Line}
      → (((y : M.Node) → True bs M (renamed M nom i.number y) l → True bs M (renamed M nom i.number y) m → ⊥) → ⊥)
      → Sound bs M nom (Conclusion.New i l m)
  new_sound {i} h =
      record {
        not_all_refuted = λ each.
            h (λ y t u. (each (renamed M nom i.number y)
            (λ j e. sym (renamed_other M nom i.number y j (or_is_false (eqb j i.number) false e).0))).0 (t, (u, tt)));
      }

  fork_sound : {l r : Line} → ((True bs M nom l → ⊥) → (True bs M nom r → ⊥) → ⊥) → Sound bs M nom (Conclusion.Fork l r)
  fork_sound h =
      record { not_all_refuted = λ each. let both = each nom (λ j e. refl) in h (λ t. both.0 (t, tt)) (λ u. both.1.0 (u, tt)) }

  clash_sound : ⊥ → Sound bs M nom Conclusion.Clash
  clash_sound h = record { not_all_refuted = λ each. h }

-- what refutes both of two refutes that there is one of them
either : {A B : Type 0} → A ⊎ B → (A → ⊥) → (B → ⊥) → ⊥
either (inl a) f g = f a
either (inr b) f g = g b

-- the channel of a number in range has that number
channel_number_law : (x : ℕ) → x ≤ max_channel → channel_number (channel_at x) ≡ x
channel_number_law zero l = refl
channel_number_law (suc zero) l = refl
channel_number_law (suc (suc zero)) l = refl
channel_number_law (suc (suc (suc x))) l = omega (arith, l)

module _ {bs : List ℕ} {n : ℕ} (ok : Valid bs n) (M : Model) (nom : Naming M) where
  -- what is concluded is sound
  abbrev Shown : Option Conclusion → Type 0
  Shown = WhereFits (Sound bs M nom)

  -- the new names of a conclusion aren't used in the pattern and aren't on P
  abbrev NewTo : Line → List ℕ → Type 0
  NewTo P [] = Unit {0}
  NewTo P (i ∷ is) = ((uses_name bs i ≡ false) × (line_has P i ≡ false)) × NewTo P is

  -- sound where that is so
  abbrev ShownFor : Line → Option Conclusion → Type 0
  ShownFor P o = WhereFits (λ c. NewTo P (new_names c)) o → Shown o

  -- what Q says makes what is concluded sound
  abbrev ShownBy : Line → Option Conclusion → Type 0
  ShownBy Q o = True bs M nom Q → Shown o

  -- one edge, said in other words
  edge_is : {a b : ℕ} {u v w x : M.Node} → a ≡ b → u ≡ v → w ≡ x → M.edge a u w → M.edge b v x
  edge_is p q r h = subst (λ (X : Type 0). X) (λ k. M.edge (p k) (q k) (r k)) h

  -- ---- P is a has/lacks line
  module _ (h : HasLine) (f : IsNode bs n h.node) (t : True bs M nom (Line.Has h)) where
    abbrev node : Entry
    node = entry_at bs h.node

    abbrev i : ℕ
    i = h.name.number

    -- what P says, by the kind of its entry
    says : (κ : Kind) → node.kind ≡ κ → Signed h.sign (NodeSays bs M nom h.node κ (nom i))
    says κ of_kind = signed_map h.sign (node_says ok M nom h.node f κ of_kind (nom i)) t

    sound1 : Shown (rule1 h node)
    sound1 = kind_fits Shown tt node Kind.Not _ (λ κ. one_sound (denied (HoldsAt M nom bs node.x (nom i)) h.sign (says Kind.Not κ)))

    sound2 : Shown (rule2 h node)
    sound2 = held_fits Shown tt node Kind.Both h.sign _ (λ κ s. two_sound (λ never. let m = held s (says Kind.Both κ) in never m.0 m.1))

    sound3 : Shown (rule3 h node)
    sound3 =
        barred_fits Shown tt node Kind.Both h.sign _
        (λ κ s. fork_sound (λ left right. left (λ a. right (λ b. barred s (says Kind.Both κ) (a, b)))))

    sound4 : Shown (rule4 h node)
    sound4 = kind_fits Shown tt node Kind.Name _
        (λ κ. one_sound (λ never. never (signed_map h.sign (λ e. sym e, λ e. sym e) (says Kind.Name κ))))

    -- rule 5: the new name is that of a successor
    abbrev successor : Name → Conclusion
    successor j = Conclusion.New j (leads (axis node.x) h.name j) (has Sign.Positive j node.y)

    to_successor : node.kind ≡ Kind.After → h.sign ≡ Sign.Positive → (a : ℕ) → NewTo (Line.Has h) (a ∷ [])
        → Sound bs M nom (successor (name a))
    to_successor κ s a fresh = new_sound (λ never.
        let m = held s (says Kind.After κ) in
        let here = sym (renamed_other M nom a m.0 i fresh.0.1) in
        let there = sym (renamed_same M nom a m.0) in
        never m.0 (edge_is refl here there m.1.0)
        (moved_holds ok M nom a m.0 fresh.0.0 node.y (references_of ok h.node f.0 Kind.After κ).1 there m.1.1))

    sound5 : (a : ℕ) → ShownFor (Line.Has h) (rule5 h node a)
    sound5 a =
        held_fits (ShownFor (Line.Has h)) (λ w. tt) node Kind.After h.sign _
        (λ κ s. new_fits (ShownFor (Line.Has h)) (λ w. tt) a successor (to_successor κ s a))

    sound6 : (Q : Line) → True bs M nom Q → Shown (rule6 h node Q)
    sound6 Q g =
        barred_fits Shown tt node Kind.After h.sign _
        (λ κ s. arrival_fits ShownBy (λ q w. tt) Direction.Along node.x h.name
        (λ j. Conclusion.One (has Sign.Negative j node.y))
        (λ l a e edge. one_sound
        (λ never. never (λ has_y. barred s (says Kind.After κ) (nom l.to.number, (edge_is a (ap nom e) refl edge, has_y)))))
        Q g)

    -- rule 7, for each comparison
    compares : (c : Comparison) → node.x ≤ max_channel
        → Signed h.sign (Meet bs M nom c node.x (side h.name node.y) (side h.name node.z)) → Sound bs M nom (comparing h node c)
    compares c l m =
        one_sound (λ never. never
        (subst (λ (e : ℕ). Signed h.sign (Meet bs M nom c e (side h.name node.y) (side h.name node.z)))
        (sym (channel_number_law node.x l))
        m))

    sound7 : Shown (rule7 h node)
    sound7 =
        let within = first_within ok h.node f.0 in
        otherwise_fits Shown tt node Kind.Same (Some (comparing h node Comparison.Same)) _
        (λ κ. compares Comparison.Same (within Kind.Same κ) (says Kind.Same κ))
        (kind_fits Shown tt node Kind.Differ _ (λ κ. compares Comparison.Differ (within Kind.Differ κ) (says Kind.Differ κ)))

    sound24 : Shown (rule24 h node)
    sound24 = held_fits Shown tt node Kind.Either h.sign _ (λ κ s. fork_sound (either (held s (says Kind.Either κ))))

    sound25 : Shown (rule25 h node)
    sound25 =
        barred_fits Shown tt node Kind.Either h.sign _
        (λ κ s. two_sound (λ never. let neither = barred s (says Kind.Either κ) in never (λ a. neither (inl a)) (λ b. neither (inr b))))

  -- ---- P is a comparison
  sound8 : (l : CompareLine) → True bs M nom (Line.Compare l) → Shown (rule8 l)
  sound8 l t =
      let swap = meet_swap bs M nom l.comparison (channel_number l.channel) in
      one_sound (λ never. never (signed_map l.sign (swap l.left l.right, swap l.right l.left) t))

  module _ (l : CompareLine) (on : l.left.path ≡ end_of_path → ⊥) (f : Formed bs n (Line.Compare l)) (t : True bs M nom (Line.Compare l)) where
    abbrev path : Entry
    path = entry_at bs l.left.path

    abbrev left_name : ℕ
    left_name = l.left.name.number

    path_entry : (l.left.path < n) × (sort_at bs l.left.path ≡ Sort.Path)
    path_entry = on_path ok l.left.path f.0 on

    -- the left path by its kind
    leads_by : (κ : Kind) → path.kind ≡ κ → (y : M.Node)
        → SideEnds bs M nom l.left y ↔ PathSays bs M nom l.left.path κ (nom left_name) y
    leads_by κ of_kind y = path_says ok M nom l.left.path path_entry κ of_kind (nom left_name) y

    -- the comparison with another left side
    abbrev With : Side → Type 0
    With s = Meet bs M nom l.comparison (channel_number l.channel) s l.right

    to_side : (s : Side) → ((y : M.Node) → SideEnds bs M nom l.left y → SideEnds bs M nom s y) → Compares bs M nom l → With s
    to_side s = meet_left bs M nom l.comparison (channel_number l.channel) l.left s l.right

    of_side : (s : Side) → ((y : M.Node) → SideEnds bs M nom s y → SideEnds bs M nom l.left y) → With s → Compares bs M nom l
    of_side s = meet_left bs M nom l.comparison (channel_number l.channel) s l.left l.right

    -- what is held is held with a side that leads to the same end
    hold : (e : l.sign ≡ Sign.Positive) (s : Side) → SideEnds bs M nom s (held e t).0 → Signed l.sign (With s)
    hold e s ends = let c = held e t in to_held e (c.0, (c.1.0, (ends, c.1.1.1, c.1.1.2)))

    -- what is barred is barred with a side that leads nowhere else
    bar : l.sign ≡ Sign.Negative → (s : Side) → ((y : M.Node) → SideEnds bs M nom s y → SideEnds bs M nom l.left y)
        → Signed l.sign (With s)
    bar e s lead = to_barred e (λ c. barred e t (of_side s lead c))

    -- the left path of a held comparison leads somewhere
    led : (e : l.sign ≡ Sign.Positive) (κ : Kind) → path.kind ≡ κ → PathSays bs M nom l.left.path κ (nom left_name) (held e t).0
    led e κ of_kind = let c = held e t in (leads_by κ of_kind c.0).0 c.1.1.0

    -- a jump leads wherever the rest of the path leads from the named node
    jumped : path.kind ≡ Kind.Jump → Compares bs M nom l ↔ With (side (name path.x) path.y)
    jumped κ =
        let s = side (name path.x) path.y in
        (to_side s (λ y. (leads_by Kind.Jump κ y).0), of_side s (λ y. (leads_by Kind.Jump κ y).1))

    sound9 : Shown (rule9 l path)
    sound9 = kind_fits Shown tt path Kind.Jump _ (λ κ. one_sound (λ never. never (signed_map l.sign (jumped κ) t)))

    sound10 : Shown (rule10 l path)
    sound10 =
        held_fits Shown tt path Kind.Test l.sign _
        (λ κ s. two_sound
        (λ never. let m = led s Kind.Test κ in never m.0 (hold s (side l.left.name path.y) m.1)))

    sound11 : Shown (rule11 l path)
    sound11 =
        barred_fits Shown tt path Kind.Test l.sign _
        (λ κ s. fork_sound
        (λ left right. left (λ a. right (bar s (side l.left.name path.y) (λ y e. (leads_by Kind.Test κ y).1 (a, e))))))

    sound12 : Shown (rule12 l path)
    sound12 =
        held_fits Shown tt path Kind.Fork l.sign _
        (λ κ s. fork_sound (λ left right. either (led s Kind.Fork κ) (λ e. left (hold s (side l.left.name path.x) e))
        (λ e. right (hold s (side l.left.name path.y) e))))

    sound13 : Shown (rule13 l path)
    sound13 =
        barred_fits Shown tt path Kind.Fork l.sign _
        (λ κ s. two_sound (λ never. never (bar s (side l.left.name path.x) (λ y e. (leads_by Kind.Fork κ y).1 (inl e)))
        (bar s (side l.left.name path.y) (λ y e. (leads_by Kind.Fork κ y).1 (inr e)))))

    -- rule 14: the new name is that of a successor from which the rest of the path leads on
    abbrev next : Name → Conclusion
    next k = Conclusion.New k (leads (axis path.x) l.left.name k) (with_left l (side k path.y))

    to_next : path.kind ≡ Kind.Step → l.sign ≡ Sign.Positive → (a : ℕ) → NewTo (Line.Compare l) (a ∷ [])
        → Sound bs M nom (next (name a))
    to_next κ s a fresh = new_sound (λ never.
        let c = held s t in
        let m = led s Kind.Step κ in
        let apart = or_is_false (eqb left_name a) (eqb l.right.name.number a) fresh.0.1 in
        let here = sym (renamed_other M nom a m.0 left_name apart.0) in
        let other = sym (renamed_other M nom a m.0 l.right.name.number apart.1) in
        let there = sym (renamed_same M nom a m.0) in
        let r = references_of ok l.left.path path_entry.0 Kind.Step κ in
        let rest = moved_leads ok M nom a m.0 fresh.0.0 path.y r.1 there c.0 m.1.1 in
        let right = moved_leads ok M nom a m.0 fresh.0.0 l.right.path f.1 other c.1.0 c.1.1.1 in
        never m.0 (edge_is refl here there m.1.0) (to_held s (c.0, (c.1.0, (rest, right, c.1.1.2)))))

    sound14 : (a : ℕ) → ShownFor (Line.Compare l) (rule14 l path a)
    sound14 a =
        held_fits (ShownFor (Line.Compare l)) (λ w. tt) path Kind.Step l.sign _
        (λ κ s. new_fits (ShownFor (Line.Compare l)) (λ w. tt) a next (to_next κ s a))

    sound15 : (Q : Line) → True bs M nom Q → Shown (rule15 l path Q)
    sound15 Q g =
        barred_fits Shown tt path Kind.Step l.sign _
        (λ κ s. arrival_fits ShownBy (λ q w. tt) Direction.Along path.x l.left.name
        (λ k. Conclusion.One (with_left l (side k path.y)))
        (λ m a i edge. one_sound (λ never. never (bar s (side m.to path.y)
        (λ y e. (leads_by Kind.Step κ y).1 (nom m.to.number, (edge_is a (ap nom i) refl edge, e))))))
        Q g)

  sound16 : (l : CompareLine) → True bs M nom (Line.Compare l) → Shown (rule16 l)
  sound16 l t =
      let c = l.comparison in
      let e = channel_number l.channel in
      fits16 Shown tt l
      (λ s ends. one_sound (λ never. compared_other M e c (nom l.left.name.number) (nom l.right.name.number)
      (λ h. barred s t (to_meet ok M nom c e l.left l.right ends h))
      (λ h. never (to_meet ok M nom (other_of c) e l.left l.right ends h))))

  -- ---- P is an is/is not line
  sound17 : (l : IsLine) → True bs M nom (Line.Is l) → Shown (rule17 l)
  sound17 l t = fits17 Shown tt l (λ s. one_sound (λ never. never (sym (held s t))))

  sound18 : (l : IsLine) (a : ℕ) → True bs M nom (Line.Is l) → Shown (rule18 l a)
  sound18 l a t =
      let e = channel_number (channel_at a) in
      fits18 Shown tt l a
      (λ s. one_sound (λ never. never (to_meet ok M nom Comparison.Same e (side l.first end_of_path) (side l.second end_of_path) (refl, refl)
      (alike_is M e (nom l.first.number) (nom l.second.number) (held s t)))))

  module _ (i j : Name) (e : nom i.number ≡ nom j.number) where
    -- a place that has the name i has the node of j
    to_j : (k : Name) → k.number ≡ i.number → nom k.number ≡ nom j.number
    to_j k same = ap nom same ∙ e

    -- rule 19, argument 0; argument 1
    first_sound : (Q : Line) → True bs M nom Q → Shown (replaced_first i Q j)
    first_sound (Line.Has q) t =
        named_fits Shown tt q.name i _
        (λ same. one_sound (λ never. never (subst (λ (u : M.Node). Signed q.sign (HoldsAt M nom bs q.node u)) (to_j q.name same) t)))
    first_sound (Line.Is q) t =
        named_fits Shown tt q.first i _
        (λ same. one_sound (λ never. never (subst (λ (u : M.Node). Signed q.sign (u ≡ nom q.second.number)) (to_j q.first same) t)))
    first_sound (Line.Edge q) t =
        named_fits Shown tt q.from i _
        (λ same. one_sound (λ never. never (subst (λ (u : M.Node). M.edge q.axis.number u (nom q.to.number)) (to_j q.from same) t)))
    first_sound (Line.Compare q) t =
        named_fits Shown tt q.left.name i _
        (λ same. one_sound (λ never. never
        (subst
        (λ (u : M.Node). Signed q.sign
        ((y : M.Node) × ((z : M.Node)
        × (LeadsAt M nom bs q.left.path u y × SideEnds bs M nom q.right z × Compared M q.comparison (channel_number q.channel) y z))))
        (to_j q.left.name same)
        t)))

    second_sound : (Q : Line) → True bs M nom Q → Shown (replaced_second i Q j)
    second_sound (Line.Has q) t = tt
    second_sound (Line.Is q) t =
        named_fits Shown tt q.second i _
        (λ same. one_sound (λ never. never (subst (λ (u : M.Node). Signed q.sign (nom q.first.number ≡ u)) (to_j q.second same) t)))
    second_sound (Line.Edge q) t =
        named_fits Shown tt q.to i _
        (λ same. one_sound (λ never. never (subst (λ (u : M.Node). M.edge q.axis.number (nom q.from.number) u) (to_j q.to same) t)))
    second_sound (Line.Compare q) t =
        named_fits Shown tt q.right.name i _
        (λ same. one_sound (λ never. never
        (subst
        (λ (u : M.Node). Signed q.sign
        ((y : M.Node) × ((z : M.Node)
        × (SideEnds bs M nom q.left y × LeadsAt M nom bs q.right.path u z × Compared M q.comparison (channel_number q.channel) y z))))
        (to_j q.right.name same)
        t)))

    replaced_sound : (a : ℕ) (Q : Line) → True bs M nom Q → Shown (replaced a i Q j)
    replaced_sound zero Q t = first_sound Q t
    replaced_sound (suc zero) Q t = second_sound Q t
    replaced_sound (suc (suc a)) Q t = tt

  sound19 : (l : IsLine) (Q : Line) (a : ℕ) → True bs M nom (Line.Is l) → True bs M nom Q → Shown (rule19 l Q a)
  sound19 l Q a t g = fits19 Shown tt l Q a (λ s. replaced_sound l.first l.second (held s t) a Q g)

  -- ---- P and Q
  -- rule 20: Q is the comparison q
  chain : (l q : CompareLine) → True bs M nom (Line.Compare l) → True bs M nom (Line.Compare q) → Shown (chained l q)
  chain l q t g =
      let e = channel_number l.channel in
      let x = nom l.left.name.number in
      let y = nom l.right.name.number in
      let z = nom q.right.name.number in
      fits20 Shown tt l q
      (λ s same ends s' ends' j one. one_sound (λ never.
      let a : M.alike e x y =
      subst (λ (c : Comparison). Compared M c e x y) same (of_meet ok M nom l.comparison e l.left l.right ends (held s t)) in
      let b : Compared M q.comparison e y z =
      subst (λ (X : Type 0). X) (λ k. Compared M q.comparison (sym one k) (nom (sym j k)) z)
      (of_meet ok M nom q.comparison (channel_number q.channel) q.left q.right ends' (held s' g)) in
      never (to_meet ok M nom q.comparison e l.left q.right (ends.0, ends'.1) (compared_on M e q.comparison x y z a b))))

  sound20 : (l : CompareLine) (Q : Line) → True bs M nom (Line.Compare l) → ShownBy Q (rule20 l Q)
  sound20 l Q t = compare_fits ShownBy (λ q g. tt) (chained l) (λ q g. chain l q t g) Q

  sound21 : (P Q : Line) → True bs M nom P → ShownBy Q (rule21 P Q)
  sound21 (Line.Has l) Q t =
      has_fits ShownBy (λ q g. tt) bs (λ q e. rule21 (Line.Has l) (Line.Has q))
      (λ q g. fits21has Shown tt l q
      (λ s i φ. clash_sound (opposites l.sign q.sign s (λ k. HoldsAt M nom bs (φ k) (nom (i k))) t g)))
      Q
  sound21 (Line.Is l) Q t =
      is_fits ShownBy (λ q g. tt) (λ q. rule21 (Line.Is l) (Line.Is q))
      (λ q g. fits21is Shown tt l q (λ s i j. clash_sound (opposites l.sign q.sign s (λ k. nom (i k) ≡ nom (j k)) t g))) Q
  sound21 (Line.Edge l) Q t = λ g. tt
  sound21 (Line.Compare l) Q t =
      compare_fits ShownBy (λ q g. tt) (λ q. rule21 (Line.Compare l) (Line.Compare q))
      (λ q g. fits21compare Shown tt l q
      (λ s same alike. clash_sound (opposites l.sign q.sign s (meet_alike bs M nom same l q alike) t g)))
      Q

  -- same and differ of the two nodes where a comparison is at its ends
  contrary_ends : (l : CompareLine) → AtEnds l → Meet bs M nom Comparison.Differ (channel_number l.channel) l.left l.right
      → M.alike (channel_number l.channel) (nom l.left.name.number) (nom l.right.name.number) → ⊥
  contrary_ends l ends = of_meet ok M nom Comparison.Differ (channel_number l.channel) l.left l.right ends

  -- rule 22: Q is the comparison q
  contradiction : (l q : CompareLine) → True bs M nom (Line.Compare l) → True bs M nom (Line.Compare q) → Shown (clash_if (contrary l q))
  contradiction l q t g =
      let e = channel_number l.channel in
      fits22 Shown tt l q
      (λ s same s' differ alike ends. clash_sound
      (contrary_ends l ends (subst (λ (X : Type 0). X) (sym (meet_alike bs M nom (sym differ) l q alike)) (held s' g))
      (of_meet ok M nom Comparison.Same e l.left l.right ends
      (subst (λ (c : Comparison). Meet bs M nom c e l.left l.right) same (held s t)))))

  sound22 : (l : CompareLine) (Q : Line) → True bs M nom (Line.Compare l) → ShownBy Q (rule22 l Q)
  sound22 l Q t = compare_fits ShownBy (λ q g. tt) (λ q. clash_if (contrary l q)) (λ q g. contradiction l q t g) Q

  sound23 : (P : Line) → True bs M nom P → Shown (rule23 P)
  sound23 (Line.Has l) t = tt
  sound23 (Line.Is l) t = fits23is Shown tt l (λ s i. clash_sound (barred s t (ap nom i)))
  sound23 (Line.Edge l) t = tt
  sound23 (Line.Compare l) t =
      let e = channel_number l.channel in
      fits23compare Shown tt l
      (λ s differ ends i. clash_sound
      (contrary_ends l ends (subst (λ (c : Comparison). Meet bs M nom c e l.left l.right) differ (held s t))
      (alike_is M e (nom l.left.name.number) (nom l.right.name.number) (ap nom i))))

  -- ---- the table
  -- what is concluded from P is sound where P is formed and true and the new name is fresh
  abbrev SoundFrom : Line → Option Conclusion → Type 0
  SoundFrom P o = Formed bs n P → True bs M nom P → ShownFor P o

  -- by the form of P
  by_has : (rule : HasLine → Entry → Option Conclusion) → ((h : HasLine) → SoundFrom (Line.Has h) (rule h (entry_at bs h.node))) → (P : Line)
      → SoundFrom P (on_node rule bs P)
  by_has = has_fits SoundFrom (λ P f t w. tt) bs

  by_is : (rule : IsLine → Option Conclusion) → ((l : IsLine) → SoundFrom (Line.Is l) (rule l)) → (P : Line) → SoundFrom P (on_is rule P)
  by_is = is_fits SoundFrom (λ P f t w. tt)

  by_compare : (rule : CompareLine → Option Conclusion) → ((l : CompareLine) → SoundFrom (Line.Compare l) (rule l)) → (P : Line)
      → SoundFrom P (on_compare rule P)
  by_compare = compare_fits SoundFrom (λ P f t w. tt)

  by_left : (rule : CompareLine → Entry → Option Conclusion)
      → ((l : CompareLine) → (l.left.path ≡ end_of_path → ⊥) → SoundFrom (Line.Compare l) (rule l (entry_at bs l.left.path))) → (P : Line)
      → SoundFrom P (on_left rule bs P)
  by_left = left_fits SoundFrom (λ P f t w. tt) bs

  -- a rule is sound: from a formed and true line P, a true line Q, and a name that is fresh for P
  abbrev RuleSound : Rule → Type 0
  RuleSound r = (P Q : Line) (a : ℕ) → True bs M nom Q → SoundFrom P (r.outcome bs P Q a)

  -- every rule of the table
  rule_sound : (k : ℕ) → RuleSound (rule_at k)
  rule_sound =
      each_rule (λ k r. RuleSound r)
      ((λ P Q a g. by_has rule1 (λ h f t w. sound1 h f t) P)
      and (λ P Q a g. by_has rule2 (λ h f t w. sound2 h f t) P)
      and (λ P Q a g. by_has rule3 (λ h f t w. sound3 h f t) P)
      and (λ P Q a g. by_has rule4 (λ h f t w. sound4 h f t) P)
      and (λ P Q a g. by_has (λ h e. rule5 h e a) (λ h f t w. sound5 h f t a w) P)
      and (λ P Q a g. by_has (λ h e. rule6 h e Q) (λ h f t w. sound6 h f t Q g) P)
      and (λ P Q a g. by_has rule7 (λ h f t w. sound7 h f t) P)
      and (λ P Q a g. by_compare rule8 (λ l f t w. sound8 l t) P)
      and (λ P Q a g. by_left rule9 (λ l on f t w. sound9 l on f t) P)
      and (λ P Q a g. by_left rule10 (λ l on f t w. sound10 l on f t) P)
      and (λ P Q a g. by_left rule11 (λ l on f t w. sound11 l on f t) P)
      and (λ P Q a g. by_left rule12 (λ l on f t w. sound12 l on f t) P)
      and (λ P Q a g. by_left rule13 (λ l on f t w. sound13 l on f t) P)
      and (λ P Q a g. by_left (λ l e. rule14 l e a) (λ l on f t w. sound14 l on f t a w) P)
      and (λ P Q a g. by_left (λ l e. rule15 l e Q) (λ l on f t w. sound15 l on f t Q g) P)
      and (λ P Q a g. by_compare rule16 (λ l f t w. sound16 l t) P)
      and (λ P Q a g. by_is rule17 (λ l f t w. sound17 l t) P)
      and (λ P Q a g. by_is (λ l. rule18 l a) (λ l f t w. sound18 l a t) P)
      and (λ P Q a g. by_is (λ l. rule19 l Q a) (λ l f t w. sound19 l Q a t g) P)
      and (λ P Q a g. by_compare (λ l. rule20 l Q) (λ l f t w. sound20 l Q t g) P)
      and (λ P Q a g f t w. sound21 P Q t g)
      and (λ P Q a g. by_compare (λ l. rule22 l Q) (λ l f t w. sound22 l Q t g) P)
      and (λ P Q a g f t w. sound23 P t)
      and (λ P Q a g. by_has rule24 (λ h f t w. sound24 h f t) P)
      and (λ P Q a g. by_has rule25 (λ h f t w. sound25 h f t) P)
      and tt)
      (λ k P Q a g f t w. tt)

  -- new names that are fresh for a branch are new to each line of it
  new_to : (b : List Line) (j : ℕ) → j < length b → (is : List ℕ)
      → ((i : ℕ) → i ∈ is → (uses_name bs i ≡ false) × (branch_has b i ≡ false)) → NewTo (line_on b j) is
  new_to b j l [] fresh = tt
  new_to b j l (i ∷ is) fresh =
      let first = fresh i (inl refl) in
      ((first.0, line_lacks b i first.1 j l), new_to b j l is (λ k m. fresh k (inr m)))

  -- what a step concludes on a branch of formed and true lines is sound
  pub step_sound : (b : List Line) → AllFormed bs n b → AllTrue bs M nom b → (s : Step) (c : Conclusion) → Follows bs b s c → Sound bs M nom c
  step_sound b f t s c follows =
      let on = follows_on bs b s c follows in
      subst (ShownFor (line_on b s.p)) (follows_fits bs b s c follows)
      (rule_sound s.rule (line_on b s.p) (line_on b s.q) s.argument (true_at bs M nom b t s.q on.1)
      (formed_at bs n b f s.p on.0)
      (true_at bs M nom b t s.p on.0))
      (new_to b s.p on.0 (new_names c) follows.fresh)

-- ---- fresh names

-- where a test passes for none of the names, it passes for no other than those that aren't among them
apart_from : (test : ℕ → Bool) (is : List ℕ) → ((i : ℕ) → i ∈ is → test i ≡ false) → (j : ℕ) → test j ≡ true → one_of j is ≡ false
apart_from test [] none j h = refl
apart_from test (i ∷ is) none j h =
    rw (ne_eqb j i (λ e. false≢true (sym (none i (inl refl)) ∙ ap test (sym e) ∙ h))) (apart_from test is (λ k m. none k (inr m)) j h)

-- the lines of a branch stay true, whatever names that are fresh for it are made to name
pub renamed_true : {bs : List ℕ} {n : ℕ} → Valid bs n → (M : Model) (nom nom' : Naming M) (b : List Line) (s : Step) (c : Conclusion) → Follows bs b s c
    → Renames M c nom nom' → AllFormed bs n b → AllTrue bs M nom b → AllTrue bs M nom' b
renamed_true {bs} ok M nom nom' b s c follows same f t =
    still_true ok M nom nom' (λ j u. same j (apart_from (uses_name bs) (new_names c) (λ i m. (follows.fresh i m).0) j u)) b f
    (λ j u. same j (apart_from (branch_has b) (new_names c) (λ i m. (follows.fresh i m).1) j u)) t
