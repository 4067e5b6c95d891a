-- The members of a set that pass a test, as they are picked from the lowest up.
-- Assumes nothing.
use Rattle.std.specs.Prelude.{◌≡◌, refl, Bool, true, false, ◌&&◌, ◌||◌, not, ℕ, eqb}
use Rattle.std.proofs.Common.{sym, ◌∙◌, ap, subst, eqb-true, eq-eqb}
use Rattle.std.proofs.Math.Bool.{and-false}
use Rattle.nodeset.specs.declared.NodeSet.{NodeSet}
use Rattle.nodeset.specs.Set.{has, lowest_of, is_empty, empty_set, insert_if, but_lowest, has_empty, has_insert, has_but_lowest}
use Rattle.nodeset.specs.Members.{still_there, lowest_gone, empty_none, lowest_member}

-- of the members of s that are no longer in the rest, those that pass the test are picked
pub record Picked (test : ℕ → Bool) (s rest picked : NodeSet) : Type 0 where
  pub part : (u : ℕ) → has rest u ≡ true → has s u ≡ true
  pub picked_is : (u : ℕ) → has picked u ≡ (has s u && not (has rest u)) && test u

-- ---- laws
module _ (test : ℕ → Bool) (s : NodeSet) where
  pub picked_none : Picked test s s empty_set
  picked_none = record { part = λ u h. h; picked_is = λ u. has_empty u ∙ none (has s u) (test u) }
    where
      none : (a t : Bool) → false ≡ (a && not a) && t
      none true t = refl
      none false t = refl

  -- the lowest of the rest
  pub picked_more : (rest picked : NodeSet) → is_empty rest ≡ false → Picked test s rest picked
      → Picked test s (but_lowest rest) (insert_if (test (lowest_of rest)) picked (lowest_of rest))
  picked_more rest picked some g = record { part = λ u m. g.part u (still_there rest u m); picked_is = each }
    where
      grown : Bool → NodeSet
      grown t = insert_if t picked (lowest_of rest)

      -- the lowest itself
      own : (t : Bool) → test (lowest_of rest) ≡ t → has (grown t) (lowest_of rest) ≡ t
      own true e =
          has_insert picked (lowest_of rest) (lowest_of rest) (lowest_member rest some).0
          ∙ ap (λ (b : Bool). b || has picked (lowest_of rest)) (eq-eqb (lowest_of rest) (lowest_of rest) refl)
      own false e =
          g.picked_is (lowest_of rest) ∙ ap (λ (b : Bool). (has s (lowest_of rest) && not (has rest (lowest_of rest))) && b) e
          ∙ and-false (has s (lowest_of rest) && not (has rest (lowest_of rest)))

      -- any other
      away : (t : Bool) (u : ℕ) → eqb u (lowest_of rest) ≡ false → has (grown t) u ≡ has picked u
      away true u e = has_insert picked (lowest_of rest) u (lowest_member rest some).0 ∙ ap (λ (b : Bool). b || has picked u) e
      away false u e = refl

      left : (u : ℕ) → eqb u (lowest_of rest) ≡ false → has (but_lowest rest) u ≡ has rest u
      left u e = has_but_lowest rest u ∙ rw e (whole (has rest u))
        where
          whole : (a : Bool) → a && true ≡ a
          whole true = refl
          whole false = refl

      each : (u : ℕ) → has (grown (test (lowest_of rest))) u ≡ (has s u && not (has (but_lowest rest) u)) && test u
      each u = go (eqb u (lowest_of rest)) refl
        where
          go : (b : Bool) → eqb u (lowest_of rest) ≡ b
              → has (grown (test (lowest_of rest))) u ≡ (has s u && not (has (but_lowest rest) u)) && test u
          go true e =
              subst (λ (v : ℕ). has (grown (test (lowest_of rest))) v ≡ (has s v && not (has (but_lowest rest) v)) && test v)
              (sym (eqb-true u (lowest_of rest) e))
              (own (test (lowest_of rest)) refl ∙ sym (rw (g.part (lowest_of rest) (lowest_member rest some).1, lowest_gone rest) refl))
          go false e = away (test (lowest_of rest)) u e ∙ g.picked_is u ∙ sym (rw (left u e) refl)

  pub picked_all : (rest picked : NodeSet) → is_empty rest ≡ true → Picked test s rest picked → (u : ℕ) → has picked u ≡ has s u && test u
  picked_all rest picked none g u = g.picked_is u ∙ rw (empty_none rest none u) (whole (has s u))
    where
      whole : (a : Bool) → (a && true) && test u ≡ a && test u
      whole true = refl
      whole false = refl
