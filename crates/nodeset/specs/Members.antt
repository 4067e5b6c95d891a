-- What the lowest node, the number of nodes and emptiness say of the nodes that a set has.
-- Assumes nothing.
use Rattle.std.specs.Prelude.{◌≡◌, refl, Bool, true, false, ◌&&◌, not, ◌⊎◌, ◌↔◌, ℕ, ◌≤◌, ◌<◌, eqb, ltb}
use Rattle.std.proofs.Common.{sym, ◌∙◌, inl, inr, eq-or-lt_of_le, eqb-true, eq-eqb, ltb-true, ltb-false}
use Rattle.std.proofs.lemmas.Bool.{false≢true, eqb-false}
use Rattle.std.proofs.Math.Bool.{and-false}
use Rattle.nodeset.specs.declared.NodeSet.{NodeSet}
use Rattle.nodeset.specs.Below.{lowest_le, lowest_holds, lowest_first, none_count, count_none, count_fewer}
use Rattle.nodeset.specs.Set.{width, has, lowest_of, size_of, is_empty, but_lowest, below, has_below, has_beyond, has_but_lowest}

-- a set has exactly the numbers with P
abbrev pub HasExactly : (ℕ → Type 0) → NodeSet → Type 0
HasExactly P s = (u : ℕ) → (has s u ≡ true) ↔ P u

-- ---- laws

pub and_left : (a b : Bool) → a && b ≡ true → a ≡ true
and_left true b h = refl
and_left false b h = h

-- a set that is empty has no node
pub empty_none : (s : NodeSet) → is_empty s ≡ true → (u : ℕ) → has s u ≡ false
empty_none s h u = go (ltb u width) refl
  where
    go : (b : Bool) → ltb u width ≡ b → has s u ≡ false
    go true e = count_none width (has s) (eqb-true (size_of s) 0 h) u (ltb-true u width e)
    go false e = has_beyond s u (ltb-false u width e)

-- one that is not has its lowest
pub lowest_member : (s : NodeSet) → is_empty s ≡ false → (lowest_of s < width) × (has s (lowest_of s) ≡ true)
lowest_member s h = go (eq-or-lt_of_le (lowest_le width (has s)))
  where
    go : (lowest_of s ≡ width) ⊎ (lowest_of s < width) → (lowest_of s < width) × (has s (lowest_of s) ≡ true)
    go (inl e) = absurd (eqb-false (size_of s) 0 h (none_count width (has s) (λ k l. lowest_first width (has s) k (rw e l))))
    go (inr l) = (l, lowest_holds width (has s) l)

-- one that is empty has the width in its place
pub empty_lowest : (s : NodeSet) → is_empty s ≡ true → lowest_of s ≡ width
empty_lowest s h = go (eq-or-lt_of_le (lowest_le width (has s)))
  where
    go : (lowest_of s ≡ width) ⊎ (lowest_of s < width) → lowest_of s ≡ width
    go (inl e) = e
    go (inr l) = absurd (false≢true (sym (empty_none s h (lowest_of s)) ∙ lowest_holds width (has s) l))

-- a set with a node is not empty
pub member_some : (s : NodeSet) (u : ℕ) → has s u ≡ true → is_empty s ≡ false
member_some s u h = go (is_empty s) refl
  where
    go : (b : Bool) → is_empty s ≡ b → is_empty s ≡ false
    go true e = absurd (false≢true (sym (empty_none s e u) ∙ h))
    go false e = e

-- a node of a set is below the width
pub member_below : (s : NodeSet) (u : ℕ) → has s u ≡ true → u < width
member_below s u h = go (ltb u width) refl
  where
    go : (b : Bool) → ltb u width ≡ b → u < width
    go true e = ltb-true u width e
    go false e = absurd (false≢true (sym (has_beyond s u (ltb-false u width e)) ∙ h))

-- and one of the nodes below n is below n
pub below_inside : (n u : ℕ) → n ≤ width → has (below n) u ≡ true → u < n
below_inside n u w h = ltb-true u n (sym (has_below n u w) ∙ h)

-- ---- a set without its lowest node

pub still_there : (s : NodeSet) (u : ℕ) → has (but_lowest s) u ≡ true → has s u ≡ true
still_there s u h = and_left (has s u) (not (eqb u (lowest_of s))) (sym (has_but_lowest s u) ∙ h)

pub lowest_gone : (s : NodeSet) → has (but_lowest s) (lowest_of s) ≡ false
lowest_gone s = rw (has_but_lowest s (lowest_of s), eq-eqb (lowest_of s) (lowest_of s) refl) (and-false (has s (lowest_of s)))

-- it has fewer nodes
pub fewer : (s : NodeSet) → is_empty s ≡ false → size_of (but_lowest s) < size_of s
fewer s h =
    let l = lowest_member s h in
    count_fewer width (has (but_lowest s)) (has s) (lowest_of s) l.0 (still_there s) (lowest_gone s) l.1
