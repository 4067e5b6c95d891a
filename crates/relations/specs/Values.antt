-- Comparing the values of nodes, by the table of a model's values.
-- Assumes nothing.
use Rattle.std.specs.Prelude.{◌≡◌, refl, Bool, true, false, ◌↔◌, List, ℕ, ◌<◌}
use Rattle.std.proofs.Common.{sym, ◌∙◌, subst}
use Rattle.nodeset.specs.declared.NodeSet.{NodeSet}
use Rattle.nodeset.specs.Set.{has}
use Rattle.nodeset.specs.Stored.{set_at}
use Rattle.pattern.specs.declared.types.Comparison.{Comparison}
use Rattle.pattern.specs.Checks.Tests.{same_tests}
use Rattle.pattern.specs.Logic.Finite.{Finite}
use Rattle.relations.specs.Tables.{AlikeOn, Inside, alike_row}

-- a node's value compares so with another's, by whether the other is in the first's set of equal values
abbrev pub Matches : Comparison → Bool → Type 0
Matches Comparison.Same alike = alike ≡ true
Matches Comparison.Differ alike = alike ≡ false

-- a set has a node that compares so with the node whose set of equal values is given
abbrev pub Partner : Comparison → NodeSet → NodeSet → Type 0
Partner c row t = (w : ℕ) × ((has t w ≡ true) × Matches c (has row w))

-- the two sets have a node in common, where a node compares so with itself
abbrev pub Common : Comparison → NodeSet → NodeSet → Type 0
Common Comparison.Same s t = (u : ℕ) × ((has s u ≡ true) × (has t u ≡ true))
Common Comparison.Differ s t = ⊥

-- a member of the first set has one in the second that compares so with it
abbrev pub Pair : List ℕ → ℕ → Comparison → NodeSet → NodeSet → Type 0
Pair alike e c s t = (v : ℕ) × ((has s v ≡ true) × Partner c (set_at alike (alike_row e v)) t)

-- whether there is such a pair, in each model for which the rows of the channel stand
pub record PairFound (alike : List ℕ) (e : ℕ) (c : Comparison) (s t : NodeSet) (b : Bool) : Type 0 where
  pub found : (F : Finite) → AlikeOn F alike e → Inside F s → (b ≡ true) ↔ Pair alike e c s t

-- ---- laws
-- nodes of one value have the same partners
pub same_partners : (F : Finite) (alike : List ℕ) (e : ℕ) → AlikeOn F alike e → (c : Comparison) (t : NodeSet) (u v : ℕ) → u < F.size
    → has (set_at alike (alike_row e u)) v ≡ true → Partner c (set_at alike (alike_row e v)) t → Partner c (set_at alike (alike_row e u)) t
same_partners F alike e rows c t u v l h (w, (m, q)) = (w, (m, subst (Matches c) (sym same) q))
  where
    near : (k : v < F.size) × (F.value e u ≡ F.value e v)
    near = (rows u l v).0 h

    same : has (set_at alike (alike_row e u)) w ≡ has (set_at alike (alike_row e v)) w
    same =
        same_tests (has (set_at alike (alike_row e u)) w) (has (set_at alike (alike_row e v)) w) (
          λ a. let r = (rows u l w).0 a in (rows v near.0 w).1 (r.0, sym near.1 ∙ r.1),
          λ a. let r = (rows v near.0 w).0 a in (rows u l w).1 (r.0, near.1 ∙ r.1),
        )

-- a node has its own value, so that a common node is a pair
pub common_pair : (F : Finite) (alike : List ℕ) (e : ℕ) → AlikeOn F alike e → (c : Comparison) (s t : NodeSet) → Inside F s
    → Common c s t → Pair alike e c s t
common_pair F alike e rows Comparison.Same s t inside (u, (m, k)) =
    let l = inside u m in
    (u, (m, (u, (k, (rows u l u).1 (l, refl)))))
common_pair F alike e rows Comparison.Differ s t inside h = absurd h
