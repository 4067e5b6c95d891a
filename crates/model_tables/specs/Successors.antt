-- The rows of the successors, as the edge records fill them: what the rows that are set have, and that the others stay.
-- Assumes nothing.
use Rattle.std.specs.Prelude.{◌≡◌, Bool, true, false, ◌&&◌, ◌||◌, List, ℕ, suc, ◌+◌, ◌≤◌, ◌<◌, length, eqb}
use Rattle.std.proofs.Math.Path.{refl, subst}
use Rattle.std.proofs.Common.{sym, ◌∙◌, ap, ap₂, arith, add-one, eqb-true, eq-eqb}
use Rattle.std.proofs.Math.Bool.{or-false}
use Rattle.std.proofs.lemmas.Bool.{eqb-false}
use Rattle.nodeset.specs.declared.NodeSet.{NodeSet}
use Rattle.nodeset.specs.Set.{width, has, insert, has_insert}
use Rattle.nodeset.specs.Stored.{table_bytes, set_at, put, put_same, put_other}
use Rattle.pattern.specs.File.Types.{max_axis}
use Rattle.pattern.specs.Checks.Tests.{and_is_true, turned}
use Rattle.pattern.specs.Checks.Range.{some_below}
use Rattle.relations.specs.Tables.{successors_row, successors_rows, property_row}
use Rattle.model_records.specs.Layout.{from_of, axis_of, to_of}
use Rattle.model_records.specs.Contents.{record_leads}

-- after k edge records the row of a node on an axis has the nodes to which one of them leads, and the rows behind stay
pub record Linked (ds : List ℕ) (k : ℕ) (xs ys : List ℕ) : Type 0 where
  pub rows : (a u : ℕ) → u < width → (v : ℕ) → has (set_at ys (successors_row a u)) v ≡ some_below k (record_leads ds a u v)
  pub rest : (i : ℕ) → property_row 0 ≤ i → set_at ys i ≡ set_at xs i

-- the row of edge record i, and what it becomes
abbrev pub edge_row : List ℕ → ℕ → ℕ
edge_row ds i = successors_row (axis_of ds i) (from_of ds i)

abbrev pub link_of : List ℕ → ℕ → List ℕ → List ℕ
link_of ds i xs = put xs (edge_row ds i) (insert (set_at xs (edge_row ds i)) (to_of ds i))

-- ---- laws
module _ (ds : List ℕ) where
  pub linked_none : (xs : List ℕ) → ((i u : ℕ) → has (set_at xs i) u ≡ false) → Linked ds 0 xs xs
  unfolding some_below
  linked_none xs empty = record { rows = λ a u l v. empty (successors_row a u) v; rest = λ i h. refl }

  -- a record leads from a node on an axis just where the node and the axis are its own
  leads_own : (a u v i : ℕ) → axis_of ds i ≡ a → from_of ds i ≡ u → record_leads ds a u v i ≡ eqb (to_of ds i) v
  leads_own a u v i p q = rw (eq-eqb _ _ p, eq-eqb _ _ q)

  leads_other : (a u v i : ℕ) → ((axis_of ds i ≡ a) × (from_of ds i ≡ u) → ⊥) → record_leads ds a u v i ≡ false
  leads_other a u v i never = go (record_leads ds a u v i) refl
    where
      go : (t : Bool) → record_leads ds a u v i ≡ t → record_leads ds a u v i ≡ false
      go true e =
          let b = and_is_true (eqb (from_of ds i) u) (eqb (axis_of ds i) a && eqb (to_of ds i) v) e in
          let c = and_is_true (eqb (axis_of ds i) a) (eqb (to_of ds i) v) b.1 in
          absurd (never (eqb-true _ _ c.0, eqb-true _ _ b.0))
      go false e = e

  -- the next record: its node is in the row of its axis and its first node
  pub linked_more : (k : ℕ) (xs ys : List ℕ) → from_of ds k < width → axis_of ds k ≤ max_axis → to_of ds k < width
      → table_bytes successors_rows ≤ length ys → Linked ds k xs ys → Linked ds (k + 1) xs (link_of ds k ys)
  unfolding some_below
  linked_more k xs ys from axis to l f =
      subst (λ (n : ℕ). Linked ds n xs (link_of ds k ys)) (sym (add-one k)) (record { rows = each; rest = other })
    where
      grown : NodeSet
      grown = insert (set_at ys (edge_row ds k)) (to_of ds k)

      own : (v : ℕ) → has (set_at (link_of ds k ys) (edge_row ds k)) v ≡ some_below (suc k) (record_leads ds (axis_of ds k) (from_of ds k) v)
      own v =
          put_same ys (edge_row ds k) grown (omega (arith, l, from, axis)) v
          ∙ has_insert (set_at ys (edge_row ds k)) (to_of ds k) v to
          ∙ turned v (to_of ds k) (has (set_at ys (edge_row ds k)) v)
          ∙ ap₂ (λ (a b : Bool). a || b) (f.rows (axis_of ds k) (from_of ds k) from v) (sym (leads_own (axis_of ds k) (from_of ds k) v k refl refl))

      away : (a u : ℕ) → u < width → ((axis_of ds k ≡ a) × (from_of ds k ≡ u) → ⊥) → (v : ℕ)
          → has (set_at (link_of ds k ys) (successors_row a u)) v ≡ some_below (suc k) (record_leads ds a u v)
      away a u b never v =
          ap (λ (s : NodeSet). has s v)
          (put_other ys (edge_row ds k) (successors_row a u) grown (λ e. never (omega (arith, b, from, e), omega (arith, b, from, e))))
          ∙ f.rows a u b v ∙ sym (rw (leads_other a u v k never) (or-false (some_below k (record_leads ds a u v))))

      each : (a u : ℕ) → u < width → (v : ℕ)
          → has (set_at (link_of ds k ys) (successors_row a u)) v ≡ some_below (suc k) (record_leads ds a u v)
      each a u b v = go (eqb (axis_of ds k) a) (eqb (from_of ds k) u) refl refl
        where
          go : (x y : Bool) → eqb (axis_of ds k) a ≡ x → eqb (from_of ds k) u ≡ y
              → has (set_at (link_of ds k ys) (successors_row a u)) v ≡ some_below (suc k) (record_leads ds a u v)
          go true true p q =
              subst (λ (w : ℕ). has (set_at (link_of ds k ys) (successors_row a w)) v ≡ some_below (suc k) (record_leads ds a w v)) (eqb-true _ _ q)
              (subst (λ (c : ℕ). has (set_at (link_of ds k ys) (successors_row c (from_of ds k))) v ≡ some_below (suc k) (record_leads ds c (from_of ds k) v))
              (eqb-true _ _ p) (own v))
          go false y p q = away a u b (λ h. eqb-false _ _ p h.0) v
          go true false p q = away a u b (λ h. eqb-false _ _ q h.1) v

      other : (i : ℕ) → property_row 0 ≤ i → set_at (link_of ds k ys) i ≡ set_at xs i
      other i h = put_other ys (edge_row ds k) i grown (λ e. omega (arith, from, axis, h, e)) ∙ f.rest i h
