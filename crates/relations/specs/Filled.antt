-- Rows of sets that are made one after the other.
-- Assumes nothing.
use Rattle.std.specs.Prelude.{◌≡◌, refl, ◌⊎◌, List, ℕ, zero, suc, ◌+◌, ◌≤◌, ◌<◌, length}
use Rattle.std.proofs.Common.{sym, ◌∙◌, subst, inl, inr, arith, add-one, not-suc-le-zero, eq-or-lt_of_le, eqb-true, eq-eqb}
use Rattle.std.specs.Fn.{Shared}
use denote.Ref.{Bor}
use Rattle.nodeset.specs.declared.NodeSet.{NodeSet}
use Rattle.nodeset.specs.Set.{width, only, has_only}
use Rattle.nodeset.specs.Members.{HasExactly}
use Rattle.nodeset.specs.Stored.{table_bytes, set_at, put, put_same, put_other, length_put}

-- rows that are set one after the other: row j has exactly the numbers with Q j, for each j below n, and the other rows stay
pub record Filled (row : ℕ → ℕ) (Q : ℕ → ℕ → Type 0) (n : ℕ) (xs ys : List ℕ) : Type 0 where
  pub rows : (j : ℕ) → j < n → HasExactly (Q j) (set_at ys (row j))
  pub rest : (i : ℕ) → ((j : ℕ) → j < n → i ≡ row j → ⊥) → set_at ys i ≡ set_at xs i

-- rows that a rule makes one after the other, the n from `at` on: what it may give for a node depends on the rows as they are by then
abbrev pub FilledBy : (List ℕ → ℕ → NodeSet → Type 0) → ℕ → ℕ → List ℕ → List ℕ → Type 0
FilledBy rule at zero xs ys = ys ≡ xs
FilledBy rule at (suc u) xs ys = (zs : List ℕ) × (s : NodeSet) × FilledBy rule at u xs zs × rule zs u s × (ys ≡ put zs (at + u) s)

-- what a closure may give for a node, at a reference to the rows
pub record RuleGives {F : Type 0} (g : Shared F (Bor (List ℕ) × (ℕ × Unit {0})) NodeSet) (f : F) (xs : List ℕ) (u : ℕ) (s : NodeSet) : Type 0 where
  pub shown : Bor (List ℕ)
  pub shows : shown.now ≡ xs
  pub says : g.post f (shown, (u, tt)) s

-- ---- laws
-- the set that a row holds is the one that was stored there
pub exactly_put : (Q : ℕ → Type 0) (xs : List ℕ) (i : ℕ) (s : NodeSet) → table_bytes (i + 1) ≤ length xs → HasExactly Q s
    → HasExactly Q (set_at (put xs i s) i)
exactly_put Q xs i s l h u = (λ e. (h u).0 (sym (put_same xs i s l u) ∙ e), λ q. put_same xs i s l u ∙ (h u).1 q)

-- the node u alone
pub exactly_only : (u : ℕ) → u < width → HasExactly (λ v. v ≡ u) (only u)
exactly_only u l v = (λ h. eqb-true v u (sym (has_only u v l) ∙ h), λ e. has_only u v l ∙ eq-eqb v u e)

module _ (row : ℕ → ℕ) (Q : ℕ → ℕ → Type 0) where
  pub filled_none : (xs : List ℕ) → Filled row Q 0 xs xs
  filled_none xs = record { rows = λ j l. absurd (not-suc-le-zero l); rest = λ i h. refl }

  pub filled_more : (n : ℕ) (xs ys : List ℕ) (s : NodeSet) → ((j : ℕ) → j < n → row j ≡ row n → ⊥) → table_bytes (row n + 1) ≤ length ys
      → HasExactly (Q n) s → Filled row Q n xs ys → Filled row Q (n + 1) xs (put ys (row n) s)
  filled_more n xs ys s apart l h f = record { rows = each; rest = other }
    where
      each : (j : ℕ) → j < n + 1 → HasExactly (Q j) (set_at (put ys (row n) s) (row j))
      each j b = which (eq-or-lt_of_le (omega arith))
        where
          which : (j ≡ n) ⊎ (j < n) → HasExactly (Q j) (set_at (put ys (row n) s) (row j))
          which (inl e) = subst (λ (k : ℕ). HasExactly (Q k) (set_at (put ys (row n) s) (row k))) (sym e) (exactly_put (Q n) ys (row n) s l h)
          which (inr g) = subst (HasExactly (Q j)) (sym (put_other ys (row n) (row j) s (apart j g))) (f.rows j g)

      other : (i : ℕ) → ((j : ℕ) → j < n + 1 → i ≡ row j → ⊥) → set_at (put ys (row n) s) i ≡ set_at xs i
      other i never = put_other ys (row n) i s (never n (omega arith)) ∙ f.rest i (λ j g. never j (omega arith))

-- what a rule makes
module _ (rule : List ℕ → ℕ → NodeSet → Type 0) (at : ℕ) (xs : List ℕ) where
  pub filled_by_next : (u : ℕ) (zs : List ℕ) (s : NodeSet) → FilledBy rule at u xs zs → rule zs u s → FilledBy rule at (u + 1) xs (put zs (at + u) s)
  filled_by_next u zs s f r = rw (add-one u) (zs, s, f, r, refl)

  pub filled_by_long : (u : ℕ) (ys : List ℕ) → FilledBy rule at u xs ys → length ys ≡ length xs
  filled_by_long zero ys e = rw e refl
  filled_by_long (suc u) ys (zs, s, f, r, e) = rw e (length_put zs (at + u) s ∙ filled_by_long u zs f)

  -- rows are filled with the numbers with Q if each set that the rule gives has those
  pub filled_by : (Q : ℕ → ℕ → Type 0) (n : ℕ) → table_bytes (at + n) ≤ length xs
      → ((u : ℕ) (zs : List ℕ) (s : NodeSet) → u < n → length zs ≡ length xs → Filled (λ j. at + j) Q u xs zs → rule zs u s → HasExactly (Q u) s)
      → (u : ℕ) → u ≤ n → (ys : List ℕ) → FilledBy rule at u xs ys → Filled (λ j. at + j) Q u xs ys
  filled_by Q n long gives zero l ys e = rw e (filled_none (λ j. at + j) Q xs)
  filled_by Q n long gives (suc u) l ys (zs, s, f, r, e) =
      let before = filled_by Q n long gives u (omega (arith, l)) zs f in
      let same = filled_by_long u zs f in
      rw (e, ← add-one u)
      (filled_more (λ j. at + j) Q u xs zs s (λ j b p. omega (arith, b, p)) (omega (arith, l, long, same)) (gives u zs s (omega (arith, l)) same before r) before)
