-- The nodes of a set that pass a test, as they are kept from the lowest up. A test is what it may answer of each node.
-- Assumes nothing.
use Rattle.std.specs.Prelude.{◌≡◌, refl, Bool, true, false, not, ◌&&◌, ◌||◌, ◌↔◌, ℕ, ◌+◌, ◌≤◌, ◌<◌, eqb}
use Rattle.std.proofs.Common.{sym, ◌∙◌, ap, arith, not-suc-le-zero, eqb-true, eq-eqb, lt-ltb}
use Rattle.std.proofs.lemmas.Bool.{false≢true, eqb-false, ne_eqb}
use Rattle.std.proofs.Math.Bool.{and-false}
use Rattle.nodeset.specs.declared.NodeSet.{NodeSet}
use Rattle.nodeset.specs.Set.{width, has, below, only, lowest_of, is_empty, empty_set, insert_if, but_lowest, has_below, has_only, has_empty, has_insert, has_but_lowest}
use Rattle.nodeset.specs.Members.{HasExactly, and_left, below_inside, empty_none, lowest_member}

-- the kept are nodes of s, and a node of s is among them if the test says so
pub record Filtered (test : ℕ → Bool → Type 0) (s kept : NodeSet) : Type 0 where
  pub part : (u : ℕ) → has kept u ≡ true → has s u ≡ true
  pub tested : (u : ℕ) → has s u ≡ true → test u (has kept u)

-- so far, of the nodes that are no longer in the rest
pub record FilteredBut (test : ℕ → Bool → Type 0) (s rest kept : NodeSet) : Type 0 where
  pub part : (u : ℕ) → has rest u ≡ true → has s u ≡ true
  pub kept_part : (u : ℕ) → has kept u ≡ true → (has s u ≡ true) × (has rest u ≡ false)
  pub tested : (u : ℕ) → has s u ≡ true → has rest u ≡ false → test u (has kept u)

-- ---- laws
module _ (test : ℕ → Bool → Type 0) (s : NodeSet) where
  pub filtered_none : FilteredBut test s s empty_set
  filtered_none =
      record {
        part = λ u h. h;
        kept_part = λ u h. absurd (false≢true (sym (has_empty u) ∙ h));
        tested = λ u h g. absurd (false≢true (sym g ∙ h));
      }

  -- a node of the rest, which is asked next and is in the rest no longer
  pub filtered_with : (rest left kept : NodeSet) (u : ℕ) (b : Bool) → u < width → has rest u ≡ true
      → ((v : ℕ) → has left v ≡ has rest v && not (eqb v u)) → test u b → FilteredBut test s rest kept
      → FilteredBut test s left (insert_if b kept u)
  filtered_with rest left kept u b w there without asked g =
      record { part = λ v m. g.part v (and_left (has rest v) (not (eqb v u)) (sym (without v) ∙ m)); kept_part = inside; tested = each }
    where
      grown : Bool → NodeSet
      grown t = insert_if t kept u

      -- the node itself was not kept before
      fresh : (t : Bool) → has kept u ≡ t → t ≡ false
      fresh false e = refl
      fresh true e = absurd (false≢true (sym (g.kept_part u e).1 ∙ there))

      own : (t : Bool) → has (grown t) u ≡ t
      own true = has_insert kept u u w ∙ ap (λ (e : Bool). e || has kept u) (eq-eqb u u refl)
      own false = fresh (has kept u) refl

      -- any other
      away : (t : Bool) (v : ℕ) → eqb v u ≡ false → has (grown t) v ≡ has kept v
      away true v e = has_insert kept u v w ∙ ap (λ (c : Bool). c || has kept v) e
      away false v e = refl

      stays : (v : ℕ) → eqb v u ≡ false → has left v ≡ has rest v
      stays v e = without v ∙ rw e (whole (has rest v))
        where
          whole : (a : Bool) → a && true ≡ a
          whole true = refl
          whole false = refl

      gone : has left u ≡ false
      gone = without u ∙ rw (eq-eqb u u refl) (and-false (has rest u))

      inside : (v : ℕ) → has (grown b) v ≡ true → (has s v ≡ true) × (has left v ≡ false)
      inside v m = go (eqb v u) refl
        where
          go : (t : Bool) → eqb v u ≡ t → (has s v ≡ true) × (has left v ≡ false)
          go true e = rw (eqb-true v u e) (g.part u there, gone)
          go false e = let before = g.kept_part v (sym (away b v e) ∙ m) in (before.0, stays v e ∙ before.1)

      each : (v : ℕ) → has s v ≡ true → has left v ≡ false → test v (has (grown b) v)
      each v m out = go (eqb v u) refl
        where
          go : (t : Bool) → eqb v u ≡ t → test v (has (grown b) v)
          go true e = rw (eqb-true v u e, own b) asked
          go false e = rw (away b v e) (g.tested v m (sym (stays v e) ∙ out))

  -- the lowest of the rest
  pub filtered_more : (rest kept : NodeSet) (b : Bool) → is_empty rest ≡ false → test (lowest_of rest) b → FilteredBut test s rest kept
      → FilteredBut test s (but_lowest rest) (insert_if b kept (lowest_of rest))
  filtered_more rest kept b some asked g =
      let low = lowest_member rest some in
      filtered_with rest (but_lowest rest) kept (lowest_of rest) b low.0 low.1 (has_but_lowest rest) asked g

  pub filtered_all : (rest kept : NodeSet) → is_empty rest ≡ true → FilteredBut test s rest kept → Filtered test s kept
  filtered_all rest kept none g =
      record { part = λ u m. (g.kept_part u m).0; tested = λ u m. g.tested u m (empty_none rest none u) }

-- of no nodes
pub filtered_first : (test : ℕ → Bool → Type 0) → Filtered test (below 0) empty_set
filtered_first test = record { part = λ v m. absurd (false≢true (sym (has_empty v) ∙ m)); tested = λ v m. absurd (not-suc-le-zero (below_inside 0 v (omega arith) m)) }

-- of the nodes below u + 1: those of the nodes below u, and u if it passes
pub filtered_next : (test : ℕ → Bool → Type 0) (u : ℕ) (kept : NodeSet) (b : Bool) → u < width → test u b → Filtered test (below u) kept
    → Filtered test (below (u + 1)) (insert_if b kept u)
filtered_next test u kept b w asked f =
    let g = filtered_with test (below (u + 1)) (only u) empty_set kept u b w (has_only u u w ∙ eq-eqb u u refl) none asked begun in
    record { part = λ v m. (g.kept_part v m).0; tested = λ v m. g.tested v m (has_empty v) }
  where
    none : (v : ℕ) → has empty_set v ≡ has (only u) v && not (eqb v u)
    none v = has_empty v ∙ sym (rw (has_only u v w) (never (eqb v u)))
      where
        never : (t : Bool) → t && not t ≡ false
        never true = refl
        never false = refl

    begun : FilteredBut test (below (u + 1)) (only u) kept
    begun = record { part = own; kept_part = earlier; tested = others }
      where
        own : (v : ℕ) → has (only u) v ≡ true → has (below (u + 1)) v ≡ true
        own v m =
            let e = eqb-true v u (sym (has_only u v w) ∙ m) in
            has_below (u + 1) v (omega (arith, w)) ∙ lt-ltb v (u + 1) (omega (arith, e))

        earlier : (v : ℕ) → has kept v ≡ true → (has (below (u + 1)) v ≡ true) × (has (only u) v ≡ false)
        earlier v m =
            let l = below_inside u v (omega (arith, w)) (f.part v m) in
            (has_below (u + 1) v (omega (arith, w)) ∙ lt-ltb v (u + 1) (omega (arith, l)), has_only u v w ∙ apart v l)
          where
            apart : (v : ℕ) → v < u → eqb v u ≡ false
            apart v l = ne_eqb v u (λ e. omega (arith, l, e))

        others : (v : ℕ) → has (below (u + 1)) v ≡ true → has (only u) v ≡ false → test v (has kept v)
        others v m out =
            let l = below_inside (u + 1) v (omega (arith, w)) m in
            let d = eqb-false v u (sym (has_only u v w) ∙ out) in
            f.tested v (has_below u v (omega (arith, w)) ∙ lt-ltb v u (omega (arith, l, d)))

-- of the nodes below n those with P are kept, if the test says whether a node has P
pub filtered_below : (test : ℕ → Bool → Type 0) (P : ℕ → Type 0) (n : ℕ) (kept : NodeSet) → n ≤ width
    → ((u : ℕ) → u < n → (b : Bool) → test u b → (b ≡ true) ↔ P u) → Filtered test (below n) kept → HasExactly (λ u. (u < n) × P u) kept
filtered_below test P n kept w says f u = (λ h. let l = below_inside n u w (f.part u h) in (l, (there l).0 h), λ r. (there r.0).1 r.1)
  where
    there : u < n → (has kept u ≡ true) ↔ P u
    there l = says u l (has kept u) (f.tested u (has_below n u w ∙ lt-ltb u n l))

-- a set has those of another that pass, if the test answers as a function does
pub filtered_is : (test : ℕ → Bool → Type 0) (p : ℕ → Bool) (s kept : NodeSet) → ((u : ℕ) → has s u ≡ true → (b : Bool) → test u b → b ≡ p u)
    → Filtered test s kept → (u : ℕ) → has kept u ≡ has s u && p u
filtered_is test p s kept says f u = go (has s u) (has kept u) refl refl
  where
    go : (a b : Bool) → has s u ≡ a → has kept u ≡ b → has kept u ≡ a && p u
    go true b m e = says u m (has kept u) (f.tested u m)
    go false false m e = e
    go false true m e = absurd (false≢true (sym m ∙ f.part u e))
