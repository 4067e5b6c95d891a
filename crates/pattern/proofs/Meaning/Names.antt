-- No name but those that a pattern uses bears on what its entries mean.
-- Assumes nothing.
use Rattle.std.specs.Prelude.{◌≡◌, refl, true, List, ℕ, ◌<◌}
use Rattle.std.proofs.Common.{sym, subst, inl, inr, lt_trans, eq-eqb}
use mathlib.Core.WellFounded.{induction}
use lib.WfN.{lt-wf_rel}
use Rattle.pattern.specs.declared.table.Kind.{Kind}
use Rattle.pattern.specs.Logic.Syntax.{NExp, PExp}
use Rattle.pattern.specs.Logic.Semantics.{Model, Naming, Leads, Holds}
use Rattle.pattern.specs.Logic.Coincidence.{OfNames, OfNamesP, same_holds, same_leads}
use Rattle.pattern.specs.Checks.Range.{some_at}
use Rattle.pattern.specs.File.Entries.{entry_at}
use Rattle.pattern.specs.File.Reading.{count_of}
use Rattle.pattern.specs.File.Fields.{OfReferences, map_references}
use Rattle.pattern.specs.File.Table.{end_of_path}
use Rattle.pattern.specs.File.Valid.{Valid, EarlierPath, refers_at}
use Rattle.pattern.specs.Meaning.Expression.{node_expression, path_expression, node_at, path_at, node_at_law, path_at_law, end_at}
use Rattle.pattern.specs.Meaning.Names.{has_name, entry_uses, uses_name, Reference}

module _ (Q : ℕ → Type 0) (N : ℕ → NExp) (P : ℕ → PExp) (x y z : ℕ) where
  -- the names of an entry's expression are its own and those of its references
  node_names : (κ : Kind) → ((i : ℕ) → has_name κ x i ≡ true → Q i)
      → OfReferences (λ v. OfNames Q (N v)) (λ v. OfNamesP Q (P v)) (record { kind = κ; x = x; y = y; z = z }) → OfNames Q (node_expression κ x y z N P)
  node_names Kind.Property own r = tt
  node_names Kind.Name own r = own x (eq-eqb x x refl)
  node_names Kind.Not own r = r.0
  node_names Kind.Both own r = (r.0, r.1)
  node_names Kind.After own r = r.1
  node_names Kind.Same own r = (r.1, r.2)
  node_names Kind.Differ own r = (r.1, r.2)
  node_names Kind.Step own r = (tt, tt)
  node_names Kind.Jump own r = (tt, tt)
  node_names Kind.Test own r = (tt, tt)
  node_names Kind.Fork own r = (tt, tt)
  node_names Kind.Either own r = (r.0, r.1)
  node_names Kind.Unknown own r = (tt, tt)

  path_names : (κ : Kind) → ((i : ℕ) → has_name κ x i ≡ true → Q i)
      → OfReferences (λ v. OfNames Q (N v)) (λ v. OfNamesP Q (P v)) (record { kind = κ; x = x; y = y; z = z }) → OfNamesP Q (path_expression κ x y z N P)
  path_names Kind.Property own r = (tt, tt)
  path_names Kind.Name own r = (tt, tt)
  path_names Kind.Not own r = (tt, tt)
  path_names Kind.Both own r = (tt, tt)
  path_names Kind.After own r = (tt, tt)
  path_names Kind.Same own r = (tt, tt)
  path_names Kind.Differ own r = (tt, tt)
  path_names Kind.Step own r = (tt, r.1)
  path_names Kind.Jump own r = (own x (eq-eqb x x refl), r.1)
  path_names Kind.Test own r = (r.0, r.1)
  path_names Kind.Fork own r = (r.0, r.1)
  path_names Kind.Either own r = (tt, tt)
  path_names Kind.Unknown own r = (tt, tt)

module _ {bs : List ℕ} {n : ℕ} (ok : Valid bs n) (i : ℕ) where
  uses_at : (k : ℕ) → k < n → entry_uses bs i k ≡ true → uses_name bs i ≡ true
  unfolding uses_name
  uses_at k l h = some_at (entry_uses bs i) (count_of bs) k (rw ok.count_is l) h

module _ {bs : List ℕ} {n : ℕ} (ok : Valid bs n) (Q : ℕ → Type 0) (used : (i : ℕ) → uses_name bs i ≡ true → Q i) where
  -- of the expressions of an entry
  abbrev OfEntry : ℕ → Type 0
  OfEntry k = OfNames Q (node_at bs k) × OfNamesP Q (path_at bs k)

  end_names : (v : ℕ) → v ≡ end_of_path → OfNamesP Q (path_at bs v)
  end_names v e = subst (λ (r : ℕ). OfNamesP Q (path_at bs r)) (sym e) (subst (OfNamesP Q) (sym (end_at bs)) (tt, tt))

  references : (k : ℕ) → k < n → ((v : ℕ) → v < k → OfEntry v)
      → OfReferences (λ v. OfNames Q (node_at bs v)) (λ v. OfNamesP Q (path_at bs v)) (entry_at bs k)
  references k l below = map_references (λ v g. (below v g.0).0) path (entry_at bs k) (refers_at ok k l)
    where
      path : (v : ℕ) → EarlierPath bs k v → OfNamesP Q (path_at bs v)
      path v (inl e) = end_names v e
      path v (inr g) = (below v g.0).1

  entry_names : (k : ℕ) → k < n → OfEntry k
  entry_names k = induction lt-wf_rel.wf {C = λ i. i < n → OfEntry i} k step
    where
      step : (k : ℕ) → ((v : ℕ) → v < k → v < n → OfEntry v) → k < n → OfEntry k
      step k below l =
          let e = entry_at bs k in
          let own : (i : ℕ) → entry_uses bs i k ≡ true → Q i = λ i h. used i (uses_at ok i k l h) in
          let r = references k l (λ v g. below v g (lt_trans g l)) in (
            subst (OfNames Q) (sym (node_at_law ok k l)) (node_names Q (node_at bs) (path_at bs) e.x e.y e.z e.kind own r),
            subst (OfNamesP Q) (sym (path_at_law ok k l)) (path_names Q (node_at bs) (path_at bs) e.x e.y e.z e.kind own r),
          )

  -- what holds of every name that the pattern uses holds of every name in the expression of a node entry, and of a path reference
  node_names_at : (k : ℕ) → k < n → OfNames Q (node_at bs k)
  node_names_at k l = (entry_names k l).0

  path_names_at : (v : ℕ) → Reference n v → OfNamesP Q (path_at bs v)
  path_names_at v (inl e) = end_names v e
  path_names_at v (inr l) = (entry_names v l).1

-- coincidence for a pattern: namings that agree on the names that it uses give its entries the same meaning
module _ {bs : List ℕ} {n : ℕ} (ok : Valid bs n) (M : Model) (g h : Naming M)
    (agree : (i : ℕ) → uses_name bs i ≡ true → g i ≡ h i) where
  pub node_coincides : (k : ℕ) → k < n → (u : M.Node) → Holds M g (node_at bs k) u ≡ Holds M h (node_at bs k) u
  node_coincides k l u = same_holds M g h (node_at bs k) (node_names_at ok (λ i. g i ≡ h i) agree k l) u

  pub path_coincides : (v : ℕ) → Reference n v → (u w : M.Node) → Leads M g (path_at bs v) u w ≡ Leads M h (path_at bs v) u w
  path_coincides v l u w = same_leads M g h (path_at bs v) (path_names_at ok (λ i. g i ≡ h i) agree v l) u w
