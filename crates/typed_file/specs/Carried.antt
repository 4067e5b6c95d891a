-- "Source 000's composition is carried by the rest of each path": a text as its entries carry it means what it means by source 000.
-- Assumes nothing.
use Rattle.std.specs.Prelude.{refl, ℕ}
use Rattle.std.proofs.Common.{sym, subst, inl, inr}
use Rattle.std.proofs.Math.Logic.{⊎_map}
use Rattle.pattern.specs.declared.types.Comparison.{Comparison}
use Rattle.pattern.specs.Logic.Syntax.{NExp, PExp, truth}
use Rattle.pattern.specs.Logic.Semantics.{Model, Naming, Leads, Holds}
use Rattle.pattern.specs.Meaning.Expression.{end}
use Rattle.typed_text.specs.Text.{NodeText, RowText}
use Rattle.typed_text.specs.Tokens.{value_of}
use Rattle.typed_text.specs.Means.{node_means, row_means}

-- a text as its entries carry it
abbrev mutual
  pub node_carried : NodeText → NExp
  node_carried (NodeText.property k) = NExp.property (value_of k)
  node_carried (NodeText.name k) = NExp.name (value_of k)
  node_carried (NodeText.not t) = NExp.not (node_carried t)
  node_carried (NodeText.both t u) = NExp.both (node_carried t) (node_carried u)
  node_carried (NodeText.either t u) = NExp.either (node_carried t) (node_carried u)
  node_carried (NodeText.after k t) = NExp.after (value_of k) (node_carried t)
  node_carried (NodeText.same r k q) = NExp.compare Comparison.Same (value_of k) (row_carried r end) (row_carried q end)
  node_carried (NodeText.differ r k q) = NExp.compare Comparison.Differ (value_of k) (row_carried r end) (row_carried q end)

  -- a row, with what follows it: "What follows a brace continues both of its paths."
  pub row_carried : RowText → PExp → PExp
  row_carried RowText.end rest = rest
  row_carried (RowText.step k r) rest = PExp.compose (PExp.down (value_of k)) (row_carried r rest)
  row_carried (RowText.jump k r) rest = PExp.compose (PExp.jump (value_of k)) (row_carried r rest)
  row_carried (RowText.test t r) rest = PExp.compose (PExp.test (node_carried t)) (row_carried r rest)
  row_carried (RowText.brace a b r) rest = PExp.union (row_carried a (row_carried r rest)) (row_carried b (row_carried r rest))

module _ (M : Model) (nom : Naming M) where
  -- expressions that hold at the same nodes, and paths that lead to the same nodes
  pub record SameNode (φ ψ : NExp) : Type 0 where
    pub there : (u : M.Node) → Holds M nom φ u → Holds M nom ψ u
    pub back : (u : M.Node) → Holds M nom ψ u → Holds M nom φ u

  record SamePath (α β : PExp) : Type 0 where
    there : (u v : M.Node) → Leads M nom α u v → Leads M nom β u v
    back : (u v : M.Node) → Leads M nom β u v → Leads M nom α u v

  infixr 20 ◌and_so◌
  ◌and_so◌ : {α β γ : PExp} → SamePath α β → SamePath β γ → SamePath α γ
  p and_so q = record { there = λ u v h. q.there u v (p.there u v h); back = λ u v h. p.back u v (q.back u v h) }

  -- ---- what is made of the same is the same
  not_same : {φ ψ : NExp} → SameNode φ ψ → SameNode (NExp.not φ) (NExp.not ψ)
  not_same p = record { there = λ u h k. h (p.back u k); back = λ u h k. h (p.there u k) }

  both_same : {φ ψ φ' ψ' : NExp} → SameNode φ φ' → SameNode ψ ψ' → SameNode (NExp.both φ ψ) (NExp.both φ' ψ')
  both_same p q = record { there = λ u h. (p.there u h.0, q.there u h.1); back = λ u h. (p.back u h.0, q.back u h.1) }

  either_same : {φ ψ φ' ψ' : NExp} → SameNode φ φ' → SameNode ψ ψ' → SameNode (NExp.either φ ψ) (NExp.either φ' ψ')
  either_same p q = record { there = λ u. ⊎_map (p.there u) (q.there u); back = λ u. ⊎_map (p.back u) (q.back u) }

  after_same : {φ ψ : NExp} (a : ℕ) → SameNode φ ψ → SameNode (NExp.after a φ) (NExp.after a ψ)
  after_same a p = record {
    there = λ u h. (h.0, (h.1.0, p.there h.0 h.1.1));
    back = λ u h. (h.0, (h.1.0, p.back h.0 h.1.1));
  }

  compare_same : {α β α' β' : PExp} (c : Comparison) (e : ℕ) → SamePath α α' → SamePath β β'
      → SameNode (NExp.compare c e α β) (NExp.compare c e α' β')
  compare_same c e p q = record {
    there = λ u h. (h.0, (h.1.0, (p.there u h.0 h.1.1.0, q.there u h.1.0 h.1.1.1, h.1.1.2)));
    back = λ u h. (h.0, (h.1.0, (p.back u h.0 h.1.1.0, q.back u h.1.0 h.1.1.1, h.1.1.2)));
  }

  test_same : {φ ψ : NExp} → SameNode φ ψ → SamePath (PExp.test φ) (PExp.test ψ)
  test_same p = record { there = λ u v h. (h.0, p.there u h.1); back = λ u v h. (h.0, p.back u h.1) }

  compose_same : {α β α' β' : PExp} → SamePath α α' → SamePath β β' → SamePath (PExp.compose α β) (PExp.compose α' β')
  compose_same p q = record {
    there = λ u v h. (h.0, (p.there u h.0 h.1.0, q.there h.0 v h.1.1));
    back = λ u v h. (h.0, (p.back u h.0 h.1.0, q.back h.0 v h.1.1));
  }

  union_same : {α β α' β' : PExp} → SamePath α α' → SamePath β β' → SamePath (PExp.union α β) (PExp.union α' β')
  union_same p q = record { there = λ u v. ⊎_map (p.there u v) (q.there u v); back = λ u v. ⊎_map (p.back u v) (q.back u v) }

  -- ---- laws of composition
  itself : {α : PExp} → SamePath α α
  itself = record { there = λ u v h. h; back = λ u v h. h }

  regrouped : {α β γ : PExp} → SamePath (PExp.compose α (PExp.compose β γ)) (PExp.compose (PExp.compose α β) γ)
  regrouped = record {
    there = λ u v h. (h.1.1.0, ((h.0, (h.1.0, h.1.1.1.0)), h.1.1.1.1));
    back = λ u v h. (h.1.0.0, (h.1.0.1.0, (h.0, (h.1.0.1.1, h.1.1))));
  }

  -- what follows a union continues both of its paths
  distributed : {α β γ : PExp} → SamePath (PExp.union (PExp.compose α γ) (PExp.compose β γ)) (PExp.compose (PExp.union α β) γ)
  distributed {α} {β} {γ} = record { there = together; back = apart }
    where
      together : (u v : M.Node) → Leads M nom (PExp.union (PExp.compose α γ) (PExp.compose β γ)) u v
          → Leads M nom (PExp.compose (PExp.union α β) γ) u v
      together u v (inl (w, (h, k))) = (w, (inl h, k))
      together u v (inr (w, (h, k))) = (w, (inr h, k))

      apart : (u v : M.Node) → Leads M nom (PExp.compose (PExp.union α β) γ) u v
          → Leads M nom (PExp.union (PExp.compose α γ) (PExp.compose β γ)) u v
      apart u v (w, (inl h, k)) = inl (w, (h, k))
      apart u v (w, (inr h, k)) = inr (w, (h, k))

  -- the end leads from each node to itself alone
  truly : (u : M.Node) → Holds M nom truth u
  truly u h = h.1 h.0

  end_first : {α : PExp} → SamePath α (PExp.compose end α)
  end_first {α} = record {
    there = λ u v h. (u, ((refl, truly u), h));
    back = λ u v h. subst (λ (w : M.Node). Leads M nom α w v) (sym h.1.0.0) h.1.1;
  }

  end_last : {α : PExp} → SamePath (PExp.compose α end) α
  end_last {α} = record {
    there = λ u v h. subst (Leads M nom α u) h.1.1.0 h.1.0;
    back = λ u v h. (v, (h, (refl, truly v)));
  }

  mutual
    pub node_same : (t : NodeText) → SameNode (node_carried t) (node_means t)
    node_same (NodeText.property k) = record { there = λ u h. h; back = λ u h. h }
    node_same (NodeText.name k) = record { there = λ u h. h; back = λ u h. h }
    node_same (NodeText.not t) = not_same (node_same t)
    node_same (NodeText.both t s) = both_same (node_same t) (node_same s)
    node_same (NodeText.either t s) = either_same (node_same t) (node_same s)
    node_same (NodeText.after k t) = after_same (value_of k) (node_same t)
    node_same (NodeText.same r k q) =
        compare_same Comparison.Same (value_of k) (row_same r end and_so end_last) (row_same q end and_so end_last)
    node_same (NodeText.differ r k q) =
        compare_same Comparison.Differ (value_of k) (row_same r end and_so end_last) (row_same q end and_so end_last)

    -- a row with what follows it is the row composed with it
    row_same : (r : RowText) (rest : PExp) → SamePath (row_carried r rest) (PExp.compose (row_means r) rest)
    row_same RowText.end rest = end_first
    row_same (RowText.step k r) rest = compose_same itself (row_same r rest) and_so regrouped
    row_same (RowText.jump k r) rest = compose_same itself (row_same r rest) and_so regrouped
    row_same (RowText.test t r) rest = compose_same (test_same (node_same t)) (row_same r rest) and_so regrouped
    row_same (RowText.brace a b r) rest =
        let carried = row_carried r rest in
        union_same (row_same a carried) (row_same b carried)
        and_so distributed
        and_so compose_same itself (row_same r rest)
        and_so regrouped
