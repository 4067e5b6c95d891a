-- 01's steps: their six bytes, the refusals 19 to 22 of a step on a branch, and what it is to follow a rule.
-- Assumes nothing.
use Rattle.std.specs.Prelude.{◌≡◌, Bool, true, false, not, ◌&&◌, ◌||◌, List, [], ◌∷◌, ℕ, zero, suc, ◌+◌, ◌*◌, ◌<◌, eqb, ltb, length, get_or, Option, Some, None, Result, Ok, Err}
use Rattle.std.proofs.Math.Path.{refl, ap}
use Rattle.std.proofs.Common.{sym, ◌∙◌, inl, inr, arith, ltb-true, lt-ltb, eqb-true, ne_eqb}
use Rattle.std.proofs.lemmas.Bool.{false≢true, not-false, not-true}
use Rattle.wire.specs.Choice.{pick}
use Rattle.wire.specs.Fields.{word_at}
use Rattle.pattern.specs.Checks.Finding.{Finding, found, refused, Check, refuses_if, ◌then◌, unless, onward, then_passes, refuses_if_passes, found_passes, onward_found}
use Rattle.pattern.specs.Checks.Tests.{or_is_false}
use Rattle.pattern.specs.Meaning.Names.{uses_name}
use Rattle.lines.specs.declared.line.Line.{Line}
use Rattle.steps.specs.declared.step.Step.{Step}
use Rattle.rules.specs.declared.conclusion.Conclusion.{Conclusion}
use Rattle.steps.specs.declared.step.StepRefusal.{StepRefusal}
use Rattle.lines.specs.Lines.{line_on, branch_has, is_fresh}
use Rattle.rules.specs.Sides.{new_names}
use Rattle.rules.specs.Rules.{Rule, rules, ◌∈◌, rule_at, is_unknown}
use Rattle.rules.specs.Table.{at_listed, listed_at}

-- "rule (one byte), lines P and Q (16 bits each), argument (one byte)"; "Steps .. number from 0". The bytes are those of the steps.
unfoldable pub step_at : List ℕ → ℕ → Step
step_at ss k =
    record {
      rule = get_or ss (6 * k) 0;
      p = word_at ss (6 * k + 1);
      q = word_at ss (6 * k + 3);
      argument = get_or ss (6 * k + 5) 0;
    }

-- the next so many steps, from step k on
unfoldable pub steps_from : List ℕ → ℕ → ℕ → List Step
steps_from ss k zero = []
steps_from ss k (suc left) = step_at ss k ∷ steps_from ss (suc k) left

-- a line of the number isn't on the branch
abbrev pub off_branch : List Line → ℕ → Bool
off_branch b k = not (ltb k (length b))

-- a field that holds the number of a line: a used one is on the branch, an unused one zero
abbrev pub line_fault : Bool → List Line → ℕ → Bool
line_fault used b k = pick used (off_branch b k) (not (eqb k 0))

-- a used argument is the rule's to judge, an unused one zero
abbrev pub argument_fault : Bool → ℕ → Bool
argument_fault used a = not used && not (eqb a 0)

abbrev pub field_fault : List Line → Step → Bool
field_fault b s =
    off_branch b s.p || (line_fault (rule_at s.rule).uses_q b s.q || argument_fault (rule_at s.rule).uses_argument s.argument)

-- what the step's rule makes of its lines and argument, for a pattern
abbrev pub step_outcome : List ℕ → List Line → Step → Option Conclusion
step_outcome bs b s = (rule_at s.rule).outcome bs (line_on b s.p) (line_on b s.q) s.argument

-- a name that the conclusion wants fresh isn't
abbrev pub any_stale : List ℕ → List Line → List ℕ → Bool
any_stale bs b [] = false
any_stale bs b (i ∷ is) = not (is_fresh bs b i) || any_stale bs b is

abbrev pub is_stale : List ℕ → List Line → Conclusion → Bool
is_stale bs b c = any_stale bs b (new_names c)

-- "19, rule unknown; 20, a used line not on the branch or an unused field not zero": of step k
abbrev pub rule_field_check : List Line → Step → ℕ → Check
rule_field_check b s k = refuses_if (is_unknown (rule_at s.rule)) 19 k then refuses_if (field_fault b s) 20 k

-- "21, lines or argument don't fit (name over 127 included); 22, name not fresh"
abbrev pub unless_stale : List ℕ → List Line → ℕ → Option Conclusion → Finding Conclusion
unless_stale bs b k (Some c) = unless (refuses_if (is_stale bs b c) 22 k) c
unless_stale bs b k None = refused 21 k

-- a step's answer: what it concludes, or its refusal
unfoldable pub stepping : List ℕ → List Line → Step → ℕ → Finding Conclusion
stepping bs b s k = onward (rule_field_check b s k) (unless_stale bs b k (step_outcome bs b s))

-- The step follows a listed rule on the branch, and concludes c: the rule has the step's number; the lines that it uses are on the branch;
-- "fields a rule doesn't use are zero"; the lines and the argument give c; and each name that c wants fresh is "not used in the pattern and on
-- no line of the branch".
pub record Follows (bs : List ℕ) (b : List Line) (s : Step) (c : Conclusion) : Type 0 where
  pub rule : Rule
  pub listed : rule ∈ rules
  pub number_is : rule.number ≡ s.rule
  pub p_on : s.p < length b
  pub q_on : rule.uses_q ≡ true → s.q < length b
  pub q_zero : rule.uses_q ≡ false → s.q ≡ 0
  pub argument_zero : rule.uses_argument ≡ false → s.argument ≡ 0
  pub fits : rule.outcome bs (line_on b s.p) (line_on b s.q) s.argument ≡ Some c
  pub fresh : (i : ℕ) → i ∈ new_names c → (uses_name bs i ≡ false) × (branch_has b i ≡ false)

-- ---- the code's answers, by 01's numbers and values
abbrev pub refusal_number : StepRefusal → ℕ
refusal_number (StepRefusal.Rule k) = 19
refusal_number (StepRefusal.Field k) = 20
refusal_number (StepRefusal.Fit k) = 21
refusal_number (StepRefusal.Fresh k) = 22

abbrev pub refusal_place : StepRefusal → ℕ
refusal_place (StepRefusal.Rule k) = k
refusal_place (StepRefusal.Field k) = k
refusal_place (StepRefusal.Fit k) = k
refusal_place (StepRefusal.Fresh k) = k

-- ---- laws

-- the answer of the code
abbrev pub answer_of : Result Conclusion StepRefusal → Finding Conclusion
answer_of (Ok c) = found c
answer_of (Err refusal) = refused (refusal_number refusal) (refusal_place refusal)

-- a field without fault, and back
on_branch : (b : List Line) (k : ℕ) → off_branch b k ≡ false → k < length b
on_branch b k h = ltb-true k (length b) (not-false (ltb k (length b)) h)

line_used : (used : Bool) (b : List Line) (k : ℕ) → line_fault used b k ≡ false → (used ≡ true → k < length b) × (used ≡ false → k ≡ 0)
line_used true b k h = (λ e. on_branch b k h, λ e. absurd (false≢true (sym e)))
line_used false b k h = (λ e. absurd (false≢true e), λ e. eqb-true k 0 (not-false (eqb k 0) h))

used_line : (used : Bool) (b : List Line) (k : ℕ) → (used ≡ true → k < length b) → (used ≡ false → k ≡ 0) → line_fault used b k ≡ false
used_line true b k on none = rw (lt-ltb k (length b) (on refl)) refl
used_line false b k on none = rw (none refl) refl

argument_used : (used : Bool) (a : ℕ) → argument_fault used a ≡ false → used ≡ false → a ≡ 0
argument_used true a h e = absurd (false≢true (sym e))
argument_used false a h e = eqb-true a 0 (not-false (eqb a 0) h)

used_argument : (used : Bool) (a : ℕ) → (used ≡ false → a ≡ 0) → argument_fault used a ≡ false
used_argument true a none = refl
used_argument false a none = rw (none refl) refl

-- names that are fresh, and back
none_stale : (bs : List ℕ) (b : List Line) (is : List ℕ) → any_stale bs b is ≡ false
    → (i : ℕ) → i ∈ is → (uses_name bs i ≡ false) × (branch_has b i ≡ false)
none_stale bs b [] h i m = absurd m
none_stale bs b (j ∷ is) h i (inl e) =
    let first = (or_is_false (not (is_fresh bs b j)) (any_stale bs b is) h).0 in
    let apart = or_is_false (uses_name bs j) (branch_has b j) (not-true _ (not-false _ first)) in
    (ap (uses_name bs) e ∙ apart.0, ap (branch_has b) e ∙ apart.1)
none_stale bs b (j ∷ is) h i (inr m) = none_stale bs b is (or_is_false (not (is_fresh bs b j)) (any_stale bs b is) h).1 i m

all_fresh : (bs : List ℕ) (b : List Line) (is : List ℕ) → ((i : ℕ) → i ∈ is → (uses_name bs i ≡ false) × (branch_has b i ≡ false))
    → any_stale bs b is ≡ false
all_fresh bs b [] fresh = refl
all_fresh bs b (j ∷ is) fresh =
    let first = fresh j (inl refl) in
    rw (first.0, first.1) (all_fresh bs b is (λ i m. fresh i (inr m)))

module _ (bs : List ℕ) (b : List Line) (s : Step) where
  -- the lines of a step without fault are on the branch; an unused Q is 0, and a branch that has lines has line 0
  pub placed_on : field_fault b s ≡ false → (s.p < length b) × (s.q < length b)
  placed_on h =
      let r = rule_at s.rule in
      let first = or_is_false (off_branch b s.p) _ h in
      let q = or_is_false (line_fault r.uses_q b s.q) (argument_fault r.uses_argument s.argument) first.1 in
      let on = on_branch b s.p first.0 in
      (on, go r.uses_q (omega (arith, on)) (line_used r.uses_q b s.q q.0))
    where
      go : (used : Bool) → 0 < length b → (used ≡ true → s.q < length b) × (used ≡ false → s.q ≡ 0) → s.q < length b
      go true some h = h.0 refl
      go false some h = rw (h.1 refl) some

  module _ (c : Conclusion) where
    -- the rule that a step follows is the one of its number
    pub follows_rule : (f : Follows bs b s c) → rule_at s.rule ≡ f.rule
    follows_rule f = ap rule_at (sym f.number_is) ∙ (listed_at f.rule f.listed).1

    pub follows_fits : Follows bs b s c → step_outcome bs b s ≡ Some c
    follows_fits f =
        ap (λ (r : Rule). r.outcome bs (line_on b s.p) (line_on b s.q) s.argument) (follows_rule f) ∙ f.fits

    follows_known : Follows bs b s c → is_unknown (rule_at s.rule) ≡ false
    follows_known f =
        ap is_unknown (follows_rule f)
        ∙ ne_eqb f.rule.number 0 (λ e. omega (arith, e, (listed_at f.rule f.listed).0))

    follows_placed : Follows bs b s c → field_fault b s ≡ false
    follows_placed f =
        ap (λ (r : Rule). off_branch b s.p || (line_fault r.uses_q b s.q || argument_fault r.uses_argument s.argument)) (follows_rule f)
        ∙ rw (
          lt-ltb s.p (length b) f.p_on,
          used_line f.rule.uses_q b s.q f.q_on f.q_zero,
          used_argument f.rule.uses_argument s.argument f.argument_zero,
        ) refl

    -- line P is on the branch, and so is line Q
    pub follows_on : Follows bs b s c → (s.p < length b) × (s.q < length b)
    follows_on f = placed_on (follows_placed f)

    -- ---- a step follows a rule exactly where it isn't refused, whatever its number
    pub found_follows : (k : ℕ) → stepping bs b s k ≡ found c → Follows bs b s c
    unfolding stepping
    found_follows k h =
        let r = onward_found (rule_field_check b s k) (unless_stale bs b k (step_outcome bs b s)) c h in
        let p = then_passes (refuses_if (is_unknown (rule_at s.rule)) 19 k) (refuses_if (field_fault b s) 20 k) r.0 in
        let known = at_listed s.rule (refuses_if_passes _ 19 k p.0) in
        let uses = rule_at s.rule in
        let placed = or_is_false (off_branch b s.p) _ (refuses_if_passes _ 20 k p.1) in
        let rest = or_is_false (line_fault uses.uses_q b s.q) (argument_fault uses.uses_argument s.argument) placed.1 in
        let q = line_used uses.uses_q b s.q rest.0 in
        let gives = go (step_outcome bs b s) r.1 in
        record {
          rule = rule_at s.rule;
          listed = known.0;
          number_is = known.1;
          p_on = on_branch b s.p placed.0;
          q_on = q.0;
          q_zero = q.1;
          argument_zero = argument_used uses.uses_argument s.argument rest.1;
          fits = gives.0;
          fresh = none_stale bs b (new_names c) gives.1;
        }
      where
        go : (o : Option Conclusion) → unless_stale bs b k o ≡ found c → (o ≡ Some c) × (is_stale bs b c ≡ false)
        go (Some d) e =
            let r = found_passes (refuses_if (is_stale bs b d) 22 k) d c e in
            (ap Some r.1, ap (is_stale bs b) (sym r.1) ∙ refuses_if_passes _ 22 k r.0)
        go None e = (cc, cc)

    pub follows_found : Follows bs b s c → (k : ℕ) → stepping bs b s k ≡ found c
    unfolding stepping
    follows_found f k = rw (follows_known f, follows_placed f, follows_fits f, all_fresh bs b (new_names c) f.fresh) refl
