-- 01's reading of the entries of a pattern agrees with source 000's satisfaction of the expressions that they stand for, composition carried
-- by the rest of each path.
-- Assumes nothing.
use Rattle.std.specs.Prelude.{◌≡◌, refl, ◌↔◌, List, ℕ}
use Rattle.std.proofs.Common.{sym, subst}
use Rattle.std.proofs.Math.Logic.Iff
use Rattle.pattern.specs.declared.table.Kind.{Kind}
use Rattle.pattern.specs.declared.table.Sort.{Sort}
use Rattle.pattern.specs.Logic.Syntax.{NExp, PExp, truth}
use Rattle.pattern.specs.Logic.Semantics.{Model, Naming, Leads, Holds}
use Rattle.pattern.specs.File.Table.{sort_of, path_no_node, neither_no_node, neither_no_path}
use Rattle.pattern.specs.File.Entries.{entry_at}
use Rattle.pattern.specs.File.Valid.{Valid}
use Rattle.pattern.specs.Meaning.Expression.{end, node_expression, path_expression, node_at, path_at, node_at_law, path_at_law, end_at}
use Rattle.pattern.specs.Meaning.Clauses.{NodeMeans, PathMeans, Meaning}
use Rattle.pattern.specs.Meaning.Agreement.{HoldsAt, LeadsAt}

module _ (M : Model) (nom : Naming M) where
  truth_holds : (u : M.Node) → Holds M nom truth u
  truth_holds u t = t.1 t.0

  end_leads : (u v : M.Node) → Leads M nom end u v ↔ (u ≡ v)
  end_leads u v = (λ h. h.0, λ e. (e, truth_holds u))

  module _ (N : ℕ → NExp) (P : ℕ → PExp) (x y z : ℕ) where
    abbrev HoldsBy : ℕ → M.Node → Type 0
    HoldsBy k u = Holds M nom (N k) u

    abbrev LeadsBy : ℕ → M.Node → M.Node → Type 0
    LeadsBy k u v = Leads M nom (P k) u v

    node_agrees : (κ : Kind) → sort_of κ ≡ Sort.Node → (u : M.Node)
        → Holds M nom (node_expression κ x y z N P) u ↔ NodeMeans M nom HoldsBy LeadsBy κ x y z u
    node_agrees Kind.Property s u = Iff.rfl
    node_agrees Kind.Name s u = Iff.rfl
    node_agrees Kind.Not s u = Iff.rfl
    node_agrees Kind.Both s u = Iff.rfl
    node_agrees Kind.After s u = Iff.rfl
    node_agrees Kind.Same s u = Iff.rfl
    node_agrees Kind.Differ s u = Iff.rfl
    node_agrees Kind.Step s u = absurd (path_no_node s)
    node_agrees Kind.Jump s u = absurd (path_no_node s)
    node_agrees Kind.Test s u = absurd (path_no_node s)
    node_agrees Kind.Fork s u = absurd (path_no_node s)
    node_agrees Kind.Either s u = Iff.rfl
    node_agrees Kind.Unknown s u = absurd (neither_no_node s)

    path_agrees : (κ : Kind) → sort_of κ ≡ Sort.Path → (u v : M.Node)
        → Leads M nom (path_expression κ x y z N P) u v ↔ PathMeans M nom HoldsBy LeadsBy κ x y z u v
    path_agrees Kind.Property s u v = absurd (path_no_node (sym s))
    path_agrees Kind.Name s u v = absurd (path_no_node (sym s))
    path_agrees Kind.Not s u v = absurd (path_no_node (sym s))
    path_agrees Kind.Both s u v = absurd (path_no_node (sym s))
    path_agrees Kind.After s u v = absurd (path_no_node (sym s))
    path_agrees Kind.Same s u v = absurd (path_no_node (sym s))
    path_agrees Kind.Differ s u v = absurd (path_no_node (sym s))
    path_agrees Kind.Step s u v = Iff.rfl
    path_agrees Kind.Jump s u v = (λ h. subst (λ (w : M.Node). LeadsBy y w v) (sym h.1.0) h.1.1, λ l. (nom x, (refl, l)))
    path_agrees Kind.Test s u v =
        (λ h. (h.1.0.1, subst (λ (w : M.Node). LeadsBy y w v) (sym h.1.0.0) h.1.1), λ h. (u, ((refl, h.0), h.1)))
    path_agrees Kind.Fork s u v = Iff.rfl
    path_agrees Kind.Either s u v = absurd (path_no_node (sym s))
    path_agrees Kind.Unknown s u v = absurd (neither_no_path s)

  -- 01's reading of the entries of a pattern that was read is 000's satisfaction of their expressions
  pub published : {bs : List ℕ} {n : ℕ} → Valid bs n → Meaning M nom bs n (HoldsAt M nom bs) (LeadsAt M nom bs)
  published {bs} {n} ok =
      record {
        ends = λ u v. subst (λ (α : PExp). Leads M nom α u v ↔ (u ≡ v)) (sym (end_at bs)) (end_leads u v);
        nodes = λ k l s u.
            let e = entry_at bs k in
            subst (λ (φ : NExp). Holds M nom φ u ↔ NodeMeans M nom (HoldsAt M nom bs) (LeadsAt M nom bs) e.kind e.x e.y e.z u)
            (sym (node_at_law ok k l))
            (node_agrees (node_at bs) (path_at bs) e.x e.y e.z e.kind s u);
        paths = λ k l s u v.
            let e = entry_at bs k in
            subst (λ (α : PExp). Leads M nom α u v ↔ PathMeans M nom (HoldsAt M nom bs) (LeadsAt M nom bs) e.kind e.x e.y e.z u v)
            (sym (path_at_law ok k l))
            (path_agrees (node_at bs) (path_at bs) e.x e.y e.z e.kind s u v);
      }
