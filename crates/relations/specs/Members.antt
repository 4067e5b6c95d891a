-- Going through the members of a set, and through all nodes: what the loops of evaluation have gathered on the way.
-- Assumes nothing.
use Rattle.std.specs.Prelude.{◌≡◌, refl, Bool, true, false, ◌||◌, not, ◌⊎◌, ◌↔◌, ℕ, suc, ◌+◌, ◌<◌, eqb}
use Rattle.std.proofs.Common.{sym, ◌∙◌, subst, inl, inr, arith, not-suc-le-zero, eq-or-lt_of_le, le_of_suc-le-suc, add-one, eqb-true, eq-eqb}
use Rattle.std.proofs.lemmas.Bool.{false≢true, not-true}
use Rattle.pattern.specs.Checks.Tests.{or_is_true, and_is_true, or_left, or_right}
use Rattle.nodeset.specs.declared.NodeSet.{NodeSet}
use Rattle.nodeset.specs.Below.{count_fewer}
use Rattle.nodeset.specs.Set.{width, has, lowest_of, size_of, is_empty, empty_set, insert, insert_if, union, meet, minus, but_lowest, has_empty, has_insert, has_union, has_meet, has_minus, has_but_lowest}
use Rattle.nodeset.specs.Members.{HasExactly, still_there, lowest_gone, empty_none, lowest_member, member_some}

-- the union of the rows of a set's members
abbrev pub Image : (ℕ → NodeSet) → NodeSet → ℕ → Type 0
Image row s v = (u : ℕ) × ((has s u ≡ true) × (has (row u) v ≡ true))

-- the rows of the members that are no longer in the rest are gathered
pub record Gathered (row : ℕ → NodeSet) (s rest sum : NodeSet) : Type 0 where
  pub part : (u : ℕ) → has rest u ≡ true → has s u ≡ true
  pub sum_is : (v : ℕ) → (has sum v ≡ true) ↔ ((u : ℕ) × ((has s u ≡ true) × (has rest u ≡ false) × (has (row u) v ≡ true)))

-- a search among a set's members: those that are no longer in the rest don't have P
pub record Searched (P : ℕ → Type 0) (s rest : NodeSet) : Type 0 where
  pub part : (u : ℕ) → has rest u ≡ true → has s u ≡ true
  pub none : (u : ℕ) → has s u ≡ true → has rest u ≡ false → P u → ⊥

-- going through the nodes in rising order, and collecting those that have P
abbrev pub Collected : (ℕ → Type 0) → ℕ → NodeSet → Type 0
Collected P n s = HasExactly (λ u. (u < n) × P u) s

-- ---- laws
-- no number has Q
pub exactly_empty : (Q : ℕ → Type 0) → ((u : ℕ) → Q u → ⊥) → HasExactly Q empty_set
exactly_empty Q never u = (λ h. absurd (false≢true (sym (has_empty u) ∙ h)), λ q. absurd (never u q))

pub exactly_union : (s t : NodeSet) → HasExactly (λ u. (has s u ≡ true) ⊎ (has t u ≡ true)) (union s t)
exactly_union s t u = (λ h. or_is_true (has s u) (has t u) (sym (has_union s t u) ∙ h), λ h. has_union s t u ∙ which h)
  where
    which : (has s u ≡ true) ⊎ (has t u ≡ true) → has s u || has t u ≡ true
    which (inl h) = or_left (has s u) (has t u) h
    which (inr h) = or_right (has s u) (has t u) h

-- a set without its lowest node and without those of another
still_in : (s t : NodeSet) (u : ℕ) → has (minus (but_lowest s) t) u ≡ true → has s u ≡ true
still_in s t u h =
    still_there s u (and_is_true (has (but_lowest s) u) (not (has t u)) (sym (has_minus (but_lowest s) t u) ∙ h)).0

pub fewer_left : (s t : NodeSet) → is_empty s ≡ false → size_of (minus (but_lowest s) t) < size_of s
fewer_left s t h =
    let l = lowest_member s h in
    count_fewer width (has (minus (but_lowest s) t)) (has s) (lowest_of s) l.0 (still_in s t)
    (rw (has_minus (but_lowest s) t (lowest_of s), lowest_gone s)) l.1

still_gone : (s : NodeSet) (u : ℕ) → has s u ≡ false → has (but_lowest s) u ≡ false
still_gone s u h = rw (has_but_lowest s u, h)

-- what is gone was gone before or is the lowest
gone_which : (s : NodeSet) (u : ℕ) → has (but_lowest s) u ≡ false → (has s u ≡ false) ⊎ (u ≡ lowest_of s)
gone_which s u g = go (has s u) (eqb u (lowest_of s)) refl refl
  where
    go : (a b : Bool) → has s u ≡ a → eqb u (lowest_of s) ≡ b → (has s u ≡ false) ⊎ (u ≡ lowest_of s)
    go false b p q = inl p
    go true true p q = inr (eqb-true u (lowest_of s) q)
    go true false p q = let there : has (but_lowest s) u ≡ true = rw (has_but_lowest s u, p, q) in absurd (false≢true (sym g ∙ there))

-- the union of the rows of a set's members
module _ (row : ℕ → NodeSet) (s : NodeSet) where
  pub gathered_none : Gathered row s s empty_set
  gathered_none =
      record {
        part = λ u h. h;
        sum_is = λ v. (λ h. absurd (false≢true (sym (has_empty v) ∙ h)), λ h. absurd (false≢true (sym h.1.1 ∙ h.1.0)));
      }

  pub gathered_more : (rest sum : NodeSet) → is_empty rest ≡ false → Gathered row s rest sum
      → Gathered row s (but_lowest rest) (union sum (row (lowest_of rest)))
  gathered_more rest sum h g = record { part = λ u m. g.part u (still_there rest u m); sum_is = λ v. (there v, back v) }
    where
      there : (v : ℕ) → has (union sum (row (lowest_of rest))) v ≡ true
          → (u : ℕ) × ((has s u ≡ true) × (has (but_lowest rest) u ≡ false) × (has (row u) v ≡ true))
      there v m = which ((exactly_union sum (row (lowest_of rest)) v).0 m)
        where
          which : (has sum v ≡ true) ⊎ (has (row (lowest_of rest)) v ≡ true)
              → (u : ℕ) × ((has s u ≡ true) × (has (but_lowest rest) u ≡ false) × (has (row u) v ≡ true))
          which (inl a) = let r = (g.sum_is v).0 a in (r.0, (r.1.0, still_gone rest r.0 r.1.1, r.1.2))
          which (inr a) = (lowest_of rest, (g.part (lowest_of rest) (lowest_member rest h).1, lowest_gone rest, a))

      back : (v : ℕ) → (u : ℕ) × ((has s u ≡ true) × (has (but_lowest rest) u ≡ false) × (has (row u) v ≡ true))
          → has (union sum (row (lowest_of rest))) v ≡ true
      back v r = (exactly_union sum (row (lowest_of rest)) v).1 (which (gone_which rest r.0 r.1.1))
        where
          which : (has rest r.0 ≡ false) ⊎ (r.0 ≡ lowest_of rest) → (has sum v ≡ true) ⊎ (has (row (lowest_of rest)) v ≡ true)
          which (inl a) = inl ((g.sum_is v).1 (r.0, (r.1.0, a, r.1.2)))
          which (inr e) = inr (subst (λ (i : ℕ). has (row i) v ≡ true) e r.1.2)

  pub gathered_all : (rest sum : NodeSet) → is_empty rest ≡ true → Gathered row s rest sum → HasExactly (Image row s) sum
  gathered_all rest sum h g v =
      (λ m. let r = (g.sum_is v).0 m in (r.0, (r.1.0, r.1.2)), λ r. (g.sum_is v).1 (r.0, (r.1.0, empty_none rest h r.0, r.1.1)))

  -- nothing is missing if all that the rows have is gathered
  pub gathered_enough : (all rest sum : NodeSet) → ((u v : ℕ) → has s u ≡ true → has (row u) v ≡ true → has all v ≡ true)
      → is_empty (minus all sum) ≡ true → Gathered row s rest sum → HasExactly (Image row s) sum
  gathered_enough all rest sum within none g v =
      (λ m. let r = (g.sum_is v).0 m in (r.0, (r.1.0, r.1.2)), λ r. have (within r.0 v r.1.0 r.1.1) (has sum v) refl)
    where
      have : has all v ≡ true → (b : Bool) → has sum v ≡ b → has sum v ≡ true
      have h true e = e
      have h false e =
          let lacks : has (minus all sum) v ≡ true = rw (has_minus all sum v, h, e) in
          absurd (false≢true (sym (empty_none (minus all sum) none v) ∙ lacks))

-- a search
module _ (P : ℕ → Type 0) (s : NodeSet) where
  pub searched_none : Searched P s s
  searched_none = record { part = λ u h. h; none = λ u m g p. false≢true (sym g ∙ m) }

  -- the lowest of the rest, and those of a set, don't have P
  pub searched_more : (rest t : NodeSet) → (P (lowest_of rest) → ⊥) → ((u : ℕ) → has t u ≡ true → P u → ⊥) → Searched P s rest
      → Searched P s (minus (but_lowest rest) t)
  searched_more rest t lowest among g =
      record { part = λ u m. g.part u (still_in rest t u m); none = λ u m a p. which u m p (has t u) refl a }
    where
      which : (u : ℕ) → has s u ≡ true → P u → (b : Bool) → has t u ≡ b → has (minus (but_lowest rest) t) u ≡ false → ⊥
      which u m p true e a = among u e p
      which u m p false e a = last (gone_which rest u kept)
        where
          kept : has (but_lowest rest) u ≡ false
          kept = go (has (but_lowest rest) u) refl
            where
              go : (b : Bool) → has (but_lowest rest) u ≡ b → has (but_lowest rest) u ≡ false
              go false q = q
              go true q =
                  let there : has (minus (but_lowest rest) t) u ≡ true = rw (has_minus (but_lowest rest) t u, q, e) in
                  absurd (false≢true (sym a ∙ there))

          last : (has rest u ≡ false) ⊎ (u ≡ lowest_of rest) → ⊥
          last (inl q) = g.none u m q p
          last (inr q) = lowest (subst P q p)

  pub searched_all : (rest : NodeSet) → is_empty rest ≡ true → Searched P s rest → (u : ℕ) → has s u ≡ true → P u → ⊥
  searched_all rest h g u m p = g.none u m (empty_none rest h u) p

  pub searched_found : (rest : NodeSet) → is_empty rest ≡ false → Searched P s rest → has s (lowest_of rest) ≡ true
  searched_found rest h g = g.part (lowest_of rest) (lowest_member rest h).1

-- two sets have a common member; the first has one that the second lacks
pub meets : (s t : NodeSet) → (not (is_empty (meet s t)) ≡ true) ↔ ((u : ℕ) × ((has s u ≡ true) × (has t u ≡ true)))
meets s t = (there, back)
  where
    there : not (is_empty (meet s t)) ≡ true → (u : ℕ) × ((has s u ≡ true) × (has t u ≡ true))
    there h =
        let l = (lowest_member (meet s t) (not-true _ h)).1 in
        (lowest_of (meet s t), and_is_true (has s (lowest_of (meet s t))) (has t (lowest_of (meet s t))) (sym (has_meet s t (lowest_of (meet s t))) ∙ l))

    back : (u : ℕ) × ((has s u ≡ true) × (has t u ≡ true)) → not (is_empty (meet s t)) ≡ true
    back h = rw (member_some (meet s t) h.0 (rw (has_meet s t h.0, h.1.0, h.1.1)))

pub exceeds : (s t : NodeSet) → (not (is_empty (minus s t)) ≡ true) ↔ ((u : ℕ) × ((has s u ≡ true) × (has t u ≡ false)))
exceeds s t = (there, back)
  where
    there : not (is_empty (minus s t)) ≡ true → (u : ℕ) × ((has s u ≡ true) × (has t u ≡ false))
    there h =
        let i = lowest_of (minus s t) in
        let l = (lowest_member (minus s t) (not-true _ h)).1 in
        let r = and_is_true (has s i) (not (has t i)) (sym (has_minus s t i) ∙ l) in
        (i, (r.0, not-true _ r.1))

    back : (u : ℕ) × ((has s u ≡ true) × (has t u ≡ false)) → not (is_empty (minus s t)) ≡ true
    back h = rw (member_some (minus s t) h.0 (rw (has_minus s t h.0, h.1.0, h.1.1)))

-- collecting
module _ (P : ℕ → Type 0) where
  pub collected_none : Collected P 0 empty_set
  collected_none = exactly_empty (λ u. (u < 0) × P u) (λ u h. not-suc-le-zero h.0)

  collected_one : (n : ℕ) (s : NodeSet) → n < width → P n → Collected P n s → Collected P (suc n) (insert s n)
  collected_one n s l p g u = (there, back)
    where
      there : has (insert s n) u ≡ true → (u < suc n) × P u
      there h = which (or_is_true (eqb u n) (has s u) (sym (has_insert s n u l) ∙ h))
        where
          which : (eqb u n ≡ true) ⊎ (has s u ≡ true) → (u < suc n) × P u
          which (inl e) = let same = eqb-true u n e in (omega arith, subst P (sym same) p)
          which (inr m) = let r = (g u).0 m in (omega (arith, r.0), r.1)

      back : (u < suc n) × P u → has (insert s n) u ≡ true
      back h = has_insert s n u l ∙ which (eq-or-lt_of_le (le_of_suc-le-suc h.0))
        where
          which : (u ≡ n) ⊎ (u < n) → eqb u n || has s u ≡ true
          which (inl e) = rw (eq-eqb u n e)
          which (inr m) = or_right (eqb u n) (has s u) ((g u).1 (m, h.1))

  collected_past : (n : ℕ) (s : NodeSet) → (P n → ⊥) → Collected P n s → Collected P (suc n) s
  collected_past n s never g u = (λ h. let r = (g u).0 h in (omega (arith, r.0), r.1), back)
    where
      back : (u < suc n) × P u → has s u ≡ true
      back h = which (eq-or-lt_of_le (le_of_suc-le-suc h.0))
        where
          which : (u ≡ n) ⊎ (u < n) → has s u ≡ true
          which (inl e) = absurd (never (subst P e h.1))
          which (inr m) = (g u).1 (m, h.1)

  pub collected_next : (n : ℕ) (s : NodeSet) (b : Bool) → n < width → (b ≡ true) ↔ P n → Collected P n s → Collected P (n + 1) (insert_if b s n)
  collected_next n s b l here g = subst (λ (m : ℕ). Collected P m (insert_if b s n)) (sym (add-one n)) (go b here)
    where
      go : (t : Bool) → (t ≡ true) ↔ P n → Collected P (suc n) (insert_if t s n)
      go true e = collected_one n s l (e.0 refl) g
      go false e = collected_past n s (λ p. false≢true (e.1 p)) g
