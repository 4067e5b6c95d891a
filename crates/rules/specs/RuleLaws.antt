-- Which rules a line P fits, by their numbers, on which the code's proofs of the rules rest; and what joins the rules' equations to the code's
-- parts: arguments that are made into names and channels, where the line Q leads, a line seen as one of its forms.
-- Assumes nothing.
use Rattle.std.specs.Prelude.{◌≡◌, refl, Bool, true, false, ◌&&◌, ◌||◌, List, ℕ, leb, Option, Some, None}
use Rattle.std.proofs.Common.{sym, ap, ◌∙◌}
use Rattle.std.proofs.Math.Bool.{or-true, and-true, and-false}
use Rattle.std.proofs.lemmas.Bool.{false≢true}
use Rattle.lines.specs.declared.line.EdgeLine.{EdgeLine}
use Rattle.pattern.specs.declared.types.Name.{Name}
use Rattle.pattern.specs.declared.types.Channel.{Channel}
use Rattle.pattern.specs.File.Types.{max_name, max_channel, channel_number}
use Rattle.pattern.specs.File.Made.{make, made_within, out_beyond}
use Rattle.lines.specs.declared.line.HasLine.{HasLine}
use Rattle.lines.specs.declared.line.IsLine.{IsLine}
use Rattle.lines.specs.declared.line.CompareLine.{CompareLine}
use Rattle.lines.specs.declared.line.Line.{Line}
use Rattle.lines.specs.Lines.{name}
use Rattle.lines.specs.Parts.{channel_at, channel_back}
use Rattle.lines.specs.Views.{has_view, is_view, edge_view, compare_view}
use Rattle.rules.specs.declared.conclusion.Conclusion.{Conclusion}
use Rattle.rules.specs.declared.fit.Direction.{Direction}
use Rattle.rules.specs.Rules.{Rule, only, when, on_has, on_is, on_compare, new_name, arrival, arriving, rules, rule_at}
use Rattle.rules.specs.Table.{one_of, NoneOf, none_of, all_of, rule_passes}

-- ---- a test before what doesn't fit

only_unfit : (fits : Bool) → only fits None ≡ None
only_unfit true = refl
only_unfit false = refl

-- ---- an argument that is a name or a channel

-- a name that the making function made is the argument's
pub new_name_law : (fits : Bool) (a : ℕ) (j : Name) (conclusion : Name → Conclusion)
    → Some j.number ≡ make max_name a → when fits (conclusion j) ≡ only fits (new_name a conclusion)
new_name_law fits a j conclusion h =
    let within = sym (made_within max_name a j.number h) in
    let number : j.number ≡ a = (let e = rw within at h in cc) in
    rw within (ap (λ (i : ℕ). when fits (conclusion (name i))) number)

-- an argument out of range is no name
pub no_name_law : (fits : Bool) (a : ℕ) (conclusion : Name → Conclusion)
    → None ≡ make max_name a → None ≡ only fits (new_name a conclusion)
no_name_law fits a conclusion h = rw (sym (out_beyond max_name a h)) (sym (only_unfit fits))

-- a channel that the making function made is the argument's
pub on_channel : (fits : Bool) (a : ℕ) (e : Channel) (conclusion : Channel → Conclusion)
    → Some (channel_number e) ≡ make max_channel a → when fits (conclusion e) ≡ when (fits && leb a max_channel) (conclusion (channel_at a))
on_channel fits a e conclusion h =
    let within = sym (made_within max_channel a (channel_number e) h) in
    let number : channel_number e ≡ a = (let k = rw within at h in cc) in
    rw (within, and-true fits) (ap (λ (d : Channel). when fits (conclusion d)) (sym (channel_back e) ∙ ap channel_at number))

-- an argument out of range is no channel
pub no_channel : (fits : Bool) (a : ℕ) (c : Conclusion) → None ≡ make max_channel a → None ≡ when (fits && leb a max_channel) c
no_channel fits a c h = rw (sym (out_beyond max_channel a h), and-false fits)

-- ---- where the line Q leads

pub arrived : (fits : Bool) (there : Option Name) (j : Name) (conclusion : Name → Conclusion)
    → there ≡ Some j → when fits (conclusion j) ≡ only fits (arriving there conclusion)
arrived fits there j conclusion h = rw h

pub not_arrived : (fits : Bool) (there : Option Name) (conclusion : Name → Conclusion)
    → there ≡ None → None ≡ only fits (arriving there conclusion)
not_arrived fits there conclusion h = rw h (sym (only_unfit fits))

-- ---- a line as the code sees it
abbrev pub of_has : (HasLine → Option Conclusion) → Option HasLine → Option Conclusion
of_has rule (Some l) = rule l
of_has rule None = None

pub seen_has : (rule : HasLine → Option Conclusion) (Q : Line) → on_has rule Q ≡ of_has rule (has_view Q)
seen_has rule (Line.Has l) = refl
seen_has rule (Line.Is l) = refl
seen_has rule (Line.Edge l) = refl
seen_has rule (Line.Compare l) = refl

abbrev pub of_is : (IsLine → Option Conclusion) → Option IsLine → Option Conclusion
of_is rule (Some l) = rule l
of_is rule None = None

pub seen_is : (rule : IsLine → Option Conclusion) (Q : Line) → on_is rule Q ≡ of_is rule (is_view Q)
seen_is rule (Line.Has l) = refl
seen_is rule (Line.Is l) = refl
seen_is rule (Line.Edge l) = refl
seen_is rule (Line.Compare l) = refl

abbrev pub of_compare : (CompareLine → Option Conclusion) → Option CompareLine → Option Conclusion
of_compare rule (Some l) = rule l
of_compare rule None = None

pub seen_compare : (rule : CompareLine → Option Conclusion) (Q : Line) → on_compare rule Q ≡ of_compare rule (compare_view Q)
seen_compare rule (Line.Has l) = refl
seen_compare rule (Line.Is l) = refl
seen_compare rule (Line.Edge l) = refl
seen_compare rule (Line.Compare l) = refl

abbrev pub arrival_by : Option EdgeLine → Direction → ℕ → Name → Option Name
arrival_by (Some l) d a i = arrival (Line.Edge l) d a i
arrival_by None d a i = None

pub seen_edge : (Q : Line) (d : Direction) (a : ℕ) (i : Name) → arrival Q d a i ≡ arrival_by (edge_view Q) d a i
seen_edge (Line.Has l) d a i = refl
seen_edge (Line.Is l) d a i = refl
seen_edge (Line.Edge l) d a i = refl
seen_edge (Line.Compare l) d a i = refl

-- ---- the rules that a line P fits, by number

abbrev is_unfit : Option Conclusion → Bool
is_unfit (Some c) = false
is_unfit None = true

unfit_only : (o : Option Conclusion) → is_unfit o ≡ true → o ≡ None
unfit_only (Some c) h = absurd (false≢true h)
unfit_only None h = refl

module _ (bs : List ℕ) (P Q : Line) (a : ℕ) (ns : List ℕ) where
  -- the rule's number is one of the list, or the rule doesn't fit P
  abbrev listed_or_unfit : ℕ → Rule → Bool
  listed_or_unfit k r = one_of k ns || is_unfit (r.outcome bs P Q a)

  -- where each rule that fits P is listed, a rule of another number doesn't fit
  pub unlisted : all_of listed_or_unfit rules ≡ true → (k : ℕ) → NoneOf k ns → (rule_at k).outcome bs P Q a ≡ None
  unlisted all k none =
      let h = rule_passes listed_or_unfit all (λ i. or-true (one_of i ns)) k in
      unfit_only ((rule_at k).outcome bs P Q a) (rw (none_of k ns none) at h)

-- the rule of a number that is known
pub of_rule : (bs : List ℕ) (P Q : Line) (a : ℕ) {k n : ℕ} {o : Option Conclusion}
    → k ≡ n → o ≡ (rule_at n).outcome bs P Q a → o ≡ (rule_at k).outcome bs P Q a
of_rule bs P Q a e h = h ∙ ap (λ (i : ℕ). (rule_at i).outcome bs P Q a) (sym e)
