-- 01's rules 1 to 23 and 02's rules 24 and 25 (Job 6), one equation each, in their order and words: from the lines P and Q and the argument
-- to what they give. h is the has/lacks line P and e the entry of its node; l is the comparison or the is/is not line P, and in 9 to 15 e is
-- the entry of its left path; Q is the line Q, and q that line where its form is known.
-- Assumes nothing.
use Rattle.std.specs.Prelude.{Bool, true, false, not, ◌&&◌, List, [], ◌∷◌, ◌⊎◌, ◌≡◌, ℕ, zero, suc, eqb, leb, Option, Some, None}
use Rattle.wire.specs.Choice.{pick}
use Rattle.pattern.specs.declared.types.Name.{Name}
use Rattle.pattern.specs.declared.types.Sign.{Sign}
use Rattle.pattern.specs.declared.types.Comparison.{Comparison}
use Rattle.pattern.specs.declared.table.Kind.{Kind}
use Rattle.pattern.specs.declared.entry.Entry.{Entry}
use Rattle.pattern.specs.File.Types.{max_name, max_channel, opposite, other_of}
use Rattle.pattern.specs.File.Table.{end_of_path, same_kind}
use Rattle.pattern.specs.File.Entries.{entry_at}
use Rattle.lines.specs.declared.line.HasLine.{HasLine}
use Rattle.lines.specs.declared.line.IsLine.{IsLine}
use Rattle.lines.specs.declared.line.EdgeLine.{EdgeLine}
use Rattle.lines.specs.declared.line.CompareLine.{CompareLine}
use Rattle.lines.specs.declared.line.Line.{Line}
use Rattle.lines.specs.Lines.{has, is, leads, side, compare, name, axis}
use Rattle.lines.specs.Parts.{positive, negative, opposed, is_same, is_differ, same_comparison, same_channel, same_name, same_side, at_end, both_at_end, channel_at, with_left}
use Rattle.rules.specs.declared.conclusion.Conclusion.{Conclusion}
use Rattle.rules.specs.declared.fit.Direction.{Direction}

-- ---- what must fit

-- where the test passes; otherwise lines or argument don't fit
abbrev pub only : Bool → Option Conclusion → Option Conclusion
only test o = pick test o None

abbrev pub when : Bool → Conclusion → Option Conclusion
when test c = only test (Some c)

-- the line is a has/lacks line; an is/is not line; a comparison
abbrev pub on_has : (HasLine → Option Conclusion) → Line → Option Conclusion
on_has rule (Line.Has l) = rule l
on_has rule (Line.Is l) = None
on_has rule (Line.Edge l) = None
on_has rule (Line.Compare l) = None

abbrev pub on_is : (IsLine → Option Conclusion) → Line → Option Conclusion
on_is rule (Line.Has l) = None
on_is rule (Line.Is l) = rule l
on_is rule (Line.Edge l) = None
on_is rule (Line.Compare l) = None

abbrev pub on_compare : (CompareLine → Option Conclusion) → Line → Option Conclusion
on_compare rule (Line.Has l) = None
on_compare rule (Line.Is l) = None
on_compare rule (Line.Edge l) = None
on_compare rule (Line.Compare l) = rule l

-- "argument a fresh j": a name, which the step then wants fresh. "(name over 127 included)"
abbrev pub new_name : ℕ → (Name → Conclusion) → Option Conclusion
new_name a conclusion = when (leb a max_name) (conclusion (name a))

-- the end of an axis line at which one stands, going along the axis or against it, and the end at which one arrives
abbrev pub near_end : Direction → EdgeLine → Name
near_end Direction.Along l = l.from
near_end Direction.Against l = l.to

abbrev pub far_end : Direction → EdgeLine → Name
far_end Direction.Along l = l.to
far_end Direction.Against l = l.from

-- "Q: that axis leads from i to j"
abbrev pub arrival : Line → Direction → ℕ → Name → Option Name
arrival (Line.Has l) d a i = None
arrival (Line.Is l) d a i = None
arrival (Line.Edge l) d a i =
    pick (eqb l.axis.number a && same_name (near_end d l) i) (Some (far_end d l)) None
arrival (Line.Compare l) d a i = None

abbrev pub arriving : Option Name → (Name → Conclusion) → Option Conclusion
arriving (Some j) conclusion = Some (conclusion j)
arriving None conclusion = None

-- ---- the rules

-- 1. "P has/lacks not φ: lacks/has φ."
abbrev pub rule1 : HasLine → Entry → Option Conclusion
rule1 h e = when (same_kind e.kind Kind.Not) (Conclusion.One (has (opposite h.sign) h.name e.x))

-- 2. "P has both: has φ, then has ψ."
abbrev pub rule2 : HasLine → Entry → Option Conclusion
rule2 h e =
    when (same_kind e.kind Kind.Both && positive h.sign)
    (Conclusion.Two (has Sign.Positive h.name e.x) (has Sign.Positive h.name e.y))

-- 3. "P lacks both: fork, lacks φ or lacks ψ."
abbrev pub rule3 : HasLine → Entry → Option Conclusion
rule3 h e =
    when (same_kind e.kind Kind.Both && negative h.sign)
    (Conclusion.Fork (has Sign.Negative h.name e.x) (has Sign.Negative h.name e.y))

-- 4. "P has/lacks name j: is/is not j."
abbrev pub rule4 : HasLine → Entry → Option Conclusion
rule4 h e = when (same_kind e.kind Kind.Name) (Conclusion.One (is h.sign h.name (name e.x)))

-- 5. "P: i has after; argument a fresh j: axis leads from i to j, then j has φ."
abbrev pub rule5 : HasLine → Entry → ℕ → Option Conclusion
rule5 h e a =
    only (same_kind e.kind Kind.After && positive h.sign)
    (new_name a (λ j. Conclusion.New j (leads (axis e.x) h.name j) (has Sign.Positive j e.y)))

-- 6. "P: i lacks after; Q: that axis leads from i to j: j lacks φ."
abbrev pub rule6 : HasLine → Entry → Line → Option Conclusion
rule6 h e Q =
    only (same_kind e.kind Kind.After && negative h.sign)
    (arriving (arrival Q Direction.Along e.x h.name) (λ j. Conclusion.One (has Sign.Negative j e.y)))

-- 7. "P: i has/lacks same or differ: that comparison of (i, α) and (i, β) holds/is barred."
abbrev pub comparing : HasLine → Entry → Comparison → Conclusion
comparing h e c = Conclusion.One (compare h.sign c (channel_at e.x) (side h.name e.y) (side h.name e.z))

abbrev pub rule7 : HasLine → Entry → Option Conclusion
rule7 h e =
    pick (same_kind e.kind Kind.Same) (Some (comparing h e Comparison.Same))
    (when (same_kind e.kind Kind.Differ) (comparing h e Comparison.Differ))

-- 8. "P a comparison: its two sides exchanged."
abbrev pub rule8 : CompareLine → Option Conclusion
rule8 l = Some (Conclusion.One (compare l.sign l.comparison l.channel l.right l.left))

-- "In rules 9 to 15 P is a comparison and i its left name; the rest is kept."
-- 9. "Left path jump to k: the left side becomes (k, α)."
abbrev pub rule9 : CompareLine → Entry → Option Conclusion
rule9 l e = when (same_kind e.kind Kind.Jump) (Conclusion.One (with_left l (side (name e.x) e.y)))

-- 10. "Held, left path test: i has φ, then the comparison with α."
abbrev pub rule10 : CompareLine → Entry → Option Conclusion
rule10 l e =
    when (same_kind e.kind Kind.Test && positive l.sign)
    (Conclusion.Two (has Sign.Positive l.left.name e.x) (with_left l (side l.left.name e.y)))

-- 11. "Barred, left path test: fork, i lacks φ or barred with α."
abbrev pub rule11 : CompareLine → Entry → Option Conclusion
rule11 l e =
    when (same_kind e.kind Kind.Test && negative l.sign)
    (Conclusion.Fork (has Sign.Negative l.left.name e.x) (with_left l (side l.left.name e.y)))

-- 12. "Held, left path fork: fork, with α or with β."
abbrev pub rule12 : CompareLine → Entry → Option Conclusion
rule12 l e =
    when (same_kind e.kind Kind.Fork && positive l.sign)
    (Conclusion.Fork (with_left l (side l.left.name e.x)) (with_left l (side l.left.name e.y)))

-- 13. "Barred, left path fork: barred with α, then with β."
abbrev pub rule13 : CompareLine → Entry → Option Conclusion
rule13 l e =
    when (same_kind e.kind Kind.Fork && negative l.sign)
    (Conclusion.Two (with_left l (side l.left.name e.x)) (with_left l (side l.left.name e.y)))

-- 14. "Held, left path step; argument a fresh k: axis leads from i to k, then held with (k, α)."
abbrev pub rule14 : CompareLine → Entry → ℕ → Option Conclusion
rule14 l e a =
    only (same_kind e.kind Kind.Step && positive l.sign)
    (new_name a (λ k. Conclusion.New k (leads (axis e.x) l.left.name k) (with_left l (side k e.y))))

-- 15. "Barred, left path step; Q: that axis leads from i to k: barred with (k, α)."
abbrev pub rule15 : CompareLine → Entry → Line → Option Conclusion
rule15 l e Q =
    only (same_kind e.kind Kind.Step && negative l.sign)
    (arriving (arrival Q Direction.Along e.x l.left.name) (λ k. Conclusion.One (with_left l (side k e.y))))

-- 16. "Barred, both paths at end: the other of same and differ holds."
abbrev pub rule16 : CompareLine → Option Conclusion
rule16 l =
    when (negative l.sign && both_at_end l)
    (Conclusion.One (compare Sign.Positive (other_of l.comparison) l.channel l.left l.right))

-- 17. "P: i is j: j is i."
abbrev pub rule17 : IsLine → Option Conclusion
rule17 l = when (positive l.sign) (Conclusion.One (is Sign.Positive l.second l.first))

-- 18. "P: i is j; argument a channel: (i, end) and (j, end) same holds."
abbrev pub rule18 : IsLine → ℕ → Option Conclusion
rule18 l a =
    when (positive l.sign && leb a max_channel)
    (Conclusion.One (compare Sign.Positive Comparison.Same (channel_at a) (side l.first end_of_path) (side l.second end_of_path)))

-- 19. "P: i is j; argument 0 (first or left name) or 1 (second or right): Q with i at that place replaced by j. "Has/lacks" lines have a
-- first name only."
abbrev pub replaced_first : Name → Line → Name → Option Conclusion
replaced_first i (Line.Has q) j = when (same_name q.name i) (Conclusion.One (has q.sign j q.node))
replaced_first i (Line.Is q) j = when (same_name q.first i) (Conclusion.One (is q.sign j q.second))
replaced_first i (Line.Edge q) j = when (same_name q.from i) (Conclusion.One (leads q.axis j q.to))
replaced_first i (Line.Compare q) j = when (same_name q.left.name i) (Conclusion.One (with_left q (side j q.left.path)))

abbrev pub replaced_second : Name → Line → Name → Option Conclusion
replaced_second i (Line.Has q) j = None
replaced_second i (Line.Is q) j = when (same_name q.second i) (Conclusion.One (is q.sign q.first j))
replaced_second i (Line.Edge q) j = when (same_name q.to i) (Conclusion.One (leads q.axis q.from j))
replaced_second i (Line.Compare q) j =
    when (same_name q.right.name i)
    (Conclusion.One (compare q.sign q.comparison q.channel q.left (side j q.right.path)))

abbrev pub replaced : ℕ → Name → Line → Name → Option Conclusion
replaced zero i Q j = replaced_first i Q j
replaced (suc zero) i Q j = replaced_second i Q j
replaced (suc (suc a)) i Q j = None

abbrev pub rule19 : IsLine → Line → ℕ → Option Conclusion
rule19 l Q a = only (positive l.sign) (replaced a l.first Q l.second)

-- 20. "P: (i, end) same (j, end) holds; Q: (j, end) same or differ (k, end) holds, one channel: (i, end) and (k, end) compare as in Q."
abbrev pub chains : CompareLine → CompareLine → Bool
chains l q =
    positive l.sign && is_same l.comparison && both_at_end l && positive q.sign && both_at_end q
    && same_name l.right.name q.left.name && same_channel l.channel q.channel

abbrev pub chained : CompareLine → CompareLine → Option Conclusion
chained l q = when (chains l q) (Conclusion.One (compare Sign.Positive q.comparison l.channel l.left q.right))

abbrev pub rule20 : CompareLine → Line → Option Conclusion
rule20 l Q = on_compare (chained l) Q

-- 21. "Clash: P and Q alike but for sign."
abbrev pub opposed_has : HasLine → HasLine → Bool
opposed_has l q = opposed l.sign q.sign && same_name l.name q.name && eqb l.node q.node

abbrev pub opposed_is : IsLine → IsLine → Bool
opposed_is l q = opposed l.sign q.sign && same_name l.first q.first && same_name l.second q.second

abbrev pub alike_sides : CompareLine → CompareLine → Bool
alike_sides l q = same_channel l.channel q.channel && same_side l.left q.left && same_side l.right q.right

abbrev pub opposed_compare : CompareLine → CompareLine → Bool
opposed_compare l q = opposed l.sign q.sign && same_comparison l.comparison q.comparison && alike_sides l q

abbrev pub clash_if : Bool → Option Conclusion
clash_if test = when test Conclusion.Clash

abbrev pub rule21 : Line → Line → Option Conclusion
rule21 (Line.Has l) Q = on_has (λ q. clash_if (opposed_has l q)) Q
rule21 (Line.Is l) Q = on_is (λ q. clash_if (opposed_is l q)) Q
rule21 (Line.Edge l) Q = None
rule21 (Line.Compare l) Q = on_compare (λ q. clash_if (opposed_compare l q)) Q

-- 22. "Clash: P same and Q differ hold, all else alike and both paths at end."
abbrev pub contrary : CompareLine → CompareLine → Bool
contrary l q =
    positive l.sign && is_same l.comparison && positive q.sign && is_differ q.comparison && alike_sides l q && both_at_end l

abbrev pub rule22 : CompareLine → Line → Option Conclusion
rule22 l Q = on_compare (λ q. clash_if (contrary l q)) Q

-- 23. "Clash: P is "i is not i", or (i, end) differ (i, end) holds."
abbrev pub rule23 : Line → Option Conclusion
rule23 (Line.Has l) = None
rule23 (Line.Is l) = clash_if (negative l.sign && same_name l.first l.second)
rule23 (Line.Edge l) = None
rule23 (Line.Compare l) =
    clash_if (positive l.sign && is_differ l.comparison && both_at_end l && same_name l.left.name l.right.name)

-- 24. "P has either, fork, has φ or has ψ."
abbrev pub rule24 : HasLine → Entry → Option Conclusion
rule24 h e =
    when (same_kind e.kind Kind.Either && positive h.sign)
    (Conclusion.Fork (has Sign.Positive h.name e.x) (has Sign.Positive h.name e.y))

-- 25. "P lacks either, lacks φ then lacks ψ."
abbrev pub rule25 : HasLine → Entry → Option Conclusion
rule25 h e =
    when (same_kind e.kind Kind.Either && negative h.sign)
    (Conclusion.Two (has Sign.Negative h.name e.x) (has Sign.Negative h.name e.y))

-- ---- the table of the rules

-- All that the documents say of a rule: its number; how many sides what it concludes has; whether it uses the line Q, and the argument,
-- beside P; and its outcome, for the pattern of these bytes, from P, Q and the argument.
pub record Rule : Type 0 where
  pub number : ℕ
  pub side_count : ℕ
  pub uses_q : Bool
  pub uses_argument : Bool
  pub outcome : List ℕ → Line → Line → ℕ → Option Conclusion

-- the branch goes on with new lines; "forks the branch in two"; "says clash"
abbrev grows : ℕ
grows = 1

abbrev forks : ℕ
forks = 2

abbrev clashes : ℕ
clashes = 0

-- a rule by its number, its sides and what it uses: what it concludes can go by nothing else
abbrev of_p : ℕ → ℕ → (List ℕ → Line → Option Conclusion) → Rule
of_p n s f = record { number = n; side_count = s; uses_q = false; uses_argument = false; outcome = λ bs P Q a. f bs P }

abbrev of_p_q : ℕ → ℕ → (List ℕ → Line → Line → Option Conclusion) → Rule
of_p_q n s f = record { number = n; side_count = s; uses_q = true; uses_argument = false; outcome = λ bs P Q a. f bs P Q }

abbrev of_p_argument : ℕ → ℕ → (List ℕ → Line → ℕ → Option Conclusion) → Rule
of_p_argument n s f = record { number = n; side_count = s; uses_q = false; uses_argument = true; outcome = λ bs P Q a. f bs P a }

abbrev of_p_q_argument : ℕ → ℕ → (List ℕ → Line → Line → ℕ → Option Conclusion) → Rule
of_p_q_argument n s f = record { number = n; side_count = s; uses_q = true; uses_argument = true; outcome = f }

-- P is a has/lacks line; e is the entry of its node
abbrev pub on_node : (HasLine → Entry → Option Conclusion) → List ℕ → Line → Option Conclusion
on_node rule bs = on_has (λ h. rule h (entry_at bs h.node))

-- P is a comparison, and its left path isn't at its end; e is the entry of that path
abbrev pub on_left_of : (CompareLine → Entry → Option Conclusion) → List ℕ → CompareLine → Option Conclusion
on_left_of rule bs l = only (not (at_end l.left)) (rule l (entry_at bs l.left.path))

abbrev pub on_left : (CompareLine → Entry → Option Conclusion) → List ℕ → Line → Option Conclusion
on_left rule bs = on_compare (on_left_of rule bs)

abbrev pub rules : List Rule
rules =
    of_p 1 grows (on_node rule1)
    ∷ of_p 2 grows (on_node rule2)
    ∷ of_p 3 forks (on_node rule3)
    ∷ of_p 4 grows (on_node rule4)
    ∷ of_p_argument 5 grows (λ bs P a. on_node (λ h e. rule5 h e a) bs P)
    ∷ of_p_q 6 grows (λ bs P Q. on_node (λ h e. rule6 h e Q) bs P)
    ∷ of_p 7 grows (on_node rule7)
    ∷ of_p 8 grows (λ bs. on_compare rule8)
    ∷ of_p 9 grows (on_left rule9)
    ∷ of_p 10 grows (on_left rule10)
    ∷ of_p 11 forks (on_left rule11)
    ∷ of_p 12 forks (on_left rule12)
    ∷ of_p 13 grows (on_left rule13)
    ∷ of_p_argument 14 grows (λ bs P a. on_left (λ l e. rule14 l e a) bs P)
    ∷ of_p_q 15 grows (λ bs P Q. on_left (λ l e. rule15 l e Q) bs P)
    ∷ of_p 16 grows (λ bs. on_compare rule16)
    ∷ of_p 17 grows (λ bs. on_is rule17)
    ∷ of_p_argument 18 grows (λ bs P a. on_is (λ l. rule18 l a) P)
    ∷ of_p_q_argument 19 grows (λ bs P Q a. on_is (λ l. rule19 l Q a) P)
    ∷ of_p_q 20 grows (λ bs P Q. on_compare (λ l. rule20 l Q) P)
    ∷ of_p_q 21 clashes (λ bs. rule21)
    ∷ of_p_q 22 clashes (λ bs P Q. on_compare (λ l. rule22 l Q) P)
    ∷ of_p 23 clashes (λ bs. rule23)
    ∷ of_p 24 forks (on_node rule24)
    ∷ of_p 25 grows (on_node rule25)
    ∷ []

-- one of a list: of the rules, of the names that a conclusion wants fresh
infix 4 ◌∈◌
abbrev pub ◌∈◌ : {A : Type 0} → A → List A → Type 0
x ∈ [] = ⊥
x ∈ y ∷ ys = (x ≡ y) ⊎ x ∈ ys

-- what stands for the rule of a number that no rule has, and is asked for nothing but its number; the rules have numbers from 1 on
abbrev pub unknown : Rule
unknown = of_p 0 grows (λ bs P. None)

abbrev pub is_unknown : Rule → Bool
is_unknown r = eqb r.number 0

-- the rule of a number
abbrev pub rule_in : List Rule → ℕ → Rule
rule_in [] k = unknown
rule_in (r ∷ rs) k = pick (eqb k r.number) r (rule_in rs k)

unfoldable pub rule_at : ℕ → Rule
rule_at k = rule_in rules k
