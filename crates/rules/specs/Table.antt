-- Laws about the table of the rules: what holds of each of its rows holds of the rule of every number.
-- Assumes nothing.
use Rattle.std.specs.Prelude.{◌≡◌, refl, Bool, true, false, not, ◌&&◌, ◌||◌, List, [], ◌∷◌, ◌++◌, ℕ, suc, ◌+◌, ◌≤◌, ◌<◌, eqb, leb, ltb, length}
use Rattle.std.proofs.Common.{sym, ap, ◌∙◌, subst, inl, inr, arith, eqb-true, eq-eqb, ne_eqb, le-ltb, lt-ltb, leb-true, leb-false}
use Rattle.std.proofs.Math.Bool.{or-true}
use Rattle.std.proofs.lemmas.Bool.{false≢true, eqb-false, not-true}
use Rattle.wire.specs.Choice.{pick}
use Rattle.pattern.specs.Checks.Tests.{and_is_true}
use Rattle.rules.specs.Rules.{Rule, unknown, rules, rule_in, rule_at, is_unknown, ◌∈◌}

-- P of the rows of a table of rules, each with its number
abbrev pub EachOf : (ℕ → Rule → Type 0) → List Rule → Type 0
EachOf P [] = Unit {0}
EachOf P (r ∷ rs) = P r.number r × EachOf P rs

-- the rows one by one: `first and second and .. and tt`
infixr 5 ◌and◌
abbrev pub ◌and◌ : {A B : Type 0} → A → B → A × B
x and y = (x, y)

each_in : (P : ℕ → Rule → Type 0) (k : ℕ) (rs : List Rule) → EachOf P rs → P k unknown → P k (rule_in rs k)
each_in P k [] e u = u
each_in P k (r ∷ rs) e u = go (eqb k r.number) refl (each_in P k rs e.1 u)
  where
    go : (t : Bool) → eqb k r.number ≡ t → P k (rule_in rs k) → P k (pick t r (rule_in rs k))
    go true q rest = subst (λ (n : ℕ). P n r) (sym (eqb-true k r.number q)) e.0
    go false q rest = rest

-- what holds of every row of the table, each with its number, and of a number that no rule has, holds of the rule of every number
pub each_rule : (P : ℕ → Rule → Type 0) → EachOf P rules → ((k : ℕ) → P k unknown) → (k : ℕ) → P k (rule_at k)
unfolding rule_at
each_rule P e u k = each_in P k rules e (u k)

-- ---- which numbers are known

-- the rows have the numbers from j on, in order
abbrev numbered : ℕ → List Rule → Bool
numbered j [] = true
numbered j (r ∷ rs) = eqb r.number j && numbered (suc j) rs

known_in : (rs : List Rule) (j k : ℕ) → 0 < j → numbered j rs ≡ true → j ≤ k → not (is_unknown (rule_in rs k)) ≡ ltb k (j + length rs)
known_in [] j k some h l = sym (le-ltb k (j + 0) (omega (arith, l)))
known_in (r ∷ rs) j k some h l =
    let first = and_is_true (eqb r.number j) (numbered (suc j) rs) h in
    let own : r.number ≡ j = eqb-true r.number j first.0 in
    go own (eqb k r.number) refl (λ m. known_in rs (suc j) k (omega arith) first.1 m)
  where
    place : suc j + length rs ≡ j + suc (length rs)
    place = omega arith

    go : r.number ≡ j → (t : Bool) → eqb k r.number ≡ t → (suc j ≤ k → not (is_unknown (rule_in rs k)) ≡ ltb k (suc j + length rs))
        → not (is_unknown (pick t r (rule_in rs k))) ≡ ltb k (j + suc (length rs))
    go own true q rest =
        let here : k ≡ j = eqb-true k r.number q ∙ own in
        ap not (ne_eqb r.number 0 (λ e. omega (arith, own, e, some))) ∙ sym (lt-ltb k (j + suc (length rs)) (omega (arith, here)))
    go own false q rest =
        let apart = eqb-false k r.number q in
        rest (omega (arith, l, own, apart)) ∙ ap (ltb k) place

-- the rule of a known number is listed, and has that number
at_in : (rs : List Rule) (k : ℕ) → is_unknown (rule_in rs k) ≡ false → (rule_in rs k ∈ rs) × ((rule_in rs k).number ≡ k)
at_in [] k h = absurd (false≢true (sym h))
at_in (r ∷ rs) k h = go (eqb k r.number) refl (at_in rs k) h
  where
    go : (t : Bool) → eqb k r.number ≡ t → (is_unknown (rule_in rs k) ≡ false → (rule_in rs k ∈ rs) × ((rule_in rs k).number ≡ k))
        → is_unknown (pick t r (rule_in rs k)) ≡ false → (pick t r (rule_in rs k) ∈ r ∷ rs) × ((pick t r (rule_in rs k)).number ≡ k)
    go true q rest h = (inl refl, sym (eqb-true k r.number q))
    go false q rest h = let m = rest h in (inr m.0, m.1)

pub at_listed : (k : ℕ) → is_unknown (rule_at k) ≡ false → (rule_at k ∈ rules) × ((rule_at k).number ≡ k)
unfolding rule_at
at_listed k h = at_in rules k h

-- and a listed rule is the one of its number, which isn't 0
listed_in : (rs : List Rule) (j : ℕ) (r : Rule) → numbered j rs ≡ true → r ∈ rs → (j ≤ r.number) × (rule_in rs r.number ≡ r)
listed_in [] j r h m = absurd m
listed_in (x ∷ xs) j r h (inl e) =
    let own : x.number ≡ j = eqb-true x.number j (and_is_true (eqb x.number j) (numbered (suc j) xs) h).0 in
    subst (λ (y : Rule). (j ≤ y.number) × (rule_in (x ∷ xs) y.number ≡ y)) (sym e)
    (omega (arith, own), rw (eq-eqb x.number x.number refl) refl)
listed_in (x ∷ xs) j r h (inr m) =
    let first = and_is_true (eqb x.number j) (numbered (suc j) xs) h in
    let own : x.number ≡ j = eqb-true x.number j first.0 in
    let rest = listed_in xs (suc j) r first.1 m in
    (omega (arith, rest.0), rw (ne_eqb r.number x.number (λ e. omega (arith, own, e, rest.0))) rest.1)

pub listed_at : (r : Rule) → r ∈ rules → (0 < r.number) × (rule_at r.number ≡ r)
unfolding rule_at
listed_at r m = listed_in rules 1 r refl m

-- the numbers from 1 on, up to the number of the rules
abbrev last_rule : ℕ
last_rule = length rules

pub known_rules : (k : ℕ) → (k ≡ 0 → ⊥) → not (is_unknown (rule_at k)) ≡ leb k last_rule
unfolding rule_at
known_rules k h = known_in rules 1 k (omega arith) refl (omega (arith, h)) ∙ same (leb k last_rule) refl
  where
    same : (t : Bool) → leb k last_rule ≡ t → ltb k (1 + last_rule) ≡ t
    same true e = lt-ltb k (1 + last_rule) (omega (arith, leb-true k last_rule e))
    same false e = le-ltb k (1 + last_rule) (omega (arith, leb-false k last_rule e))

-- ---- tests of the rows

-- the test passes for each row, which has its number
abbrev pub all_of : (ℕ → Rule → Bool) → List Rule → Bool
all_of test [] = true
all_of test (r ∷ rs) = test r.number r && all_of test rs

each_passes : (test : ℕ → Rule → Bool) (rs : List Rule) → all_of test rs ≡ true → EachOf (λ i r. test i r ≡ true) rs
each_passes test [] h = tt
each_passes test (r ∷ rs) h = let b = and_is_true (test r.number r) (all_of test rs) h in (b.0, each_passes test rs b.1)

-- a test that each row passes, which computes, and that a number without a rule passes, is passed by the rule of every number
pub rule_passes : (test : ℕ → Rule → Bool) → all_of test rules ≡ true → ((k : ℕ) → test k unknown ≡ true) → (k : ℕ)
    → test k (rule_at k) ≡ true
rule_passes test all beyond = each_rule (λ k r. test k r ≡ true) (each_passes test rules all) beyond

-- k is one of the numbers
abbrev pub one_of : ℕ → List ℕ → Bool
one_of k [] = false
one_of k (n ∷ ns) = eqb k n || one_of k ns

-- k is none of the numbers, in the form in which the last arm of a match is told it; the arms before it are listed last first
abbrev pub NoneOf : ℕ → List ℕ → Type 0
NoneOf k [] = Unit {0}
NoneOf k (n ∷ ns) = NoneOf k ns × (k ≡ n → ⊥)

pub none_of : (k : ℕ) (ns : List ℕ) → NoneOf k ns → one_of k ns ≡ false
none_of k [] h = refl
none_of k (n ∷ ns) h = rw (ne_eqb k n h.1) (none_of k ns h.0)

-- the numbers of the rows that pass a test, last first
abbrev number_if : Bool → ℕ → List ℕ
number_if true n = n ∷ []
number_if false n = []

abbrev pub numbers_of : (Rule → Bool) → List Rule → List ℕ
numbers_of test [] = []
numbers_of test (r ∷ rs) = numbers_of test rs ++ number_if (test r) r.number

-- a rule whose number isn't one of them doesn't use its field
unused : (uses : Rule → Bool) → all_of (λ k r. one_of k (numbers_of uses rules) || not (uses r)) rules ≡ true → uses unknown ≡ false → (k : ℕ)
    → NoneOf k (numbers_of uses rules) → uses (rule_at k) ≡ false
unused uses all out k none =
    let ns = numbers_of uses rules in
    let passed = rule_passes (λ i r. one_of i ns || not (uses r)) all (λ i. rw out (or-true (one_of i ns))) k in
    not-true _ (rw (none_of k ns none) at passed)

pub no_q : (k : ℕ) → NoneOf k (numbers_of (λ r. r.uses_q) rules) → (rule_at k).uses_q ≡ false
no_q = unused (λ r. r.uses_q) refl refl

pub no_argument : (k : ℕ) → NoneOf k (numbers_of (λ r. r.uses_argument) rules) → (rule_at k).uses_argument ≡ false
no_argument = unused (λ r. r.uses_argument) refl refl
