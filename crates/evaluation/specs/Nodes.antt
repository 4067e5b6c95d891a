-- Node evaluation, kind by kind: from the sets of the entries that an entry refers to, the set of the nodes at which it holds.
-- Assumes nothing.
use Rattle.std.specs.Prelude.{◌≡◌, refl, Bool, true, false, ◌&&◌, not, ◌↔◌, ◌⊎◌, List, ℕ, ◌<◌}
use Rattle.std.proofs.Common.{sym, ◌∙◌, ap, subst, inl, inr}
use Rattle.std.proofs.lemmas.Bool.{false≢true, not-true}
use Rattle.std.proofs.Math.Logic.Iff
use Rattle.nodeset.specs.declared.NodeSet.{NodeSet}
use Rattle.nodeset.specs.Members.{HasExactly}
use Rattle.nodeset.specs.Set.{has, union, meet, minus, has_meet, has_minus}
use Rattle.nodeset.specs.Stored.{set_at}
use Rattle.pattern.specs.declared.types.Comparison.{Comparison}
use Rattle.pattern.specs.declared.table.Kind.{Kind}
use Rattle.pattern.specs.Checks.Tests.{and_is_true}
use Rattle.pattern.specs.File.Entries.{entry_at}
use Rattle.pattern.specs.File.Reading.{count_of}
use Rattle.pattern.specs.File.Valid.{Valid}
use Rattle.pattern.specs.Logic.Semantics.{Compared}
use Rattle.pattern.specs.Logic.Finite.{Finite, Named, NodeOf, node_same, model_of}
use Rattle.relations.specs.Tables.{IsSet, Inside, Tabled, AlikeOn, Before, successors_row, property_row, name_row, nodes_row, alike_row}
use Rattle.relations.specs.Members.{exactly_union}
use Rattle.relations.specs.Values.{Matches, Pair}
use Rattle.evaluation.specs.Standing.{Holding, Leading, Standing, Ends}
use Rattle.evaluation.specs.Entries.{within_as, uses_first, uses_its_name, node_clause}
use Rattle.relations.specs.Kinds.{comparison_kind}

-- the nodes from which some end of each path compare so
abbrev pub Comparing : (F : Finite) → Named F → List ℕ → Comparison → ℕ → ℕ → ℕ → NodeOf F → Type 0
Comparing F ok bs c e α β u =
    (v : NodeOf F) × ((w : NodeOf F) × (Leading F ok bs α u v × Leading F ok bs β u w × Compared (model_of F) c e v w))

-- a number that is a node and compares so, in a model that the tables stand for
abbrev pub ComparesIn : {bs table alike : List ℕ} {n : ℕ} → Standing bs table alike n → ℕ → Comparison → ℕ → Type 0
ComparesIn {bs} w k c u =
    (l : u < w.model.size) × Comparing w.model w.named bs c (entry_at bs k).x (entry_at bs k).y (entry_at bs k).z (u, l)

-- ---- laws
module _ (F : Finite) where
  -- a set by another description
  set_as : (P Q : NodeOf F → Type 0) (s : NodeSet) → ((u : NodeOf F) → P u ↔ Q u) → IsSet F Q s → IsSet F P s
  set_as P Q s same set u = (λ h. let r = (set u).0 h in (r.0, (same (u, r.0)).1 r.1), λ h. (set u).1 (h.0, (same (u, h.0)).0 h.1))

  -- a node by its number
  pub again : (P : NodeOf F → Type 0) (u : ℕ) (l l' : u < F.size) → P (u, l) → P (u, l')
  again P u l l' h = subst P (node_same F refl) h

  set_meet : (P Q : NodeOf F → Type 0) (s t : NodeSet) → IsSet F P s → IsSet F Q t → IsSet F (λ u. P u × Q u) (meet s t)
  set_meet P Q s t p q u = (
    λ h.
        let r = and_is_true (has s u) (has t u) (sym (has_meet s t u) ∙ h) in
        let a = (p u).0 r.0 in
        let b = (q u).0 r.1 in
        (a.0, (a.1, again Q u b.0 a.0 b.1)),
    λ h. rw (has_meet s t u, (p u).1 (h.0, h.1.0), (q u).1 (h.0, h.1.1)),
  )

  set_union : (P Q : NodeOf F → Type 0) (s t : NodeSet) → IsSet F P s → IsSet F Q t → IsSet F (λ u. P u ⊎ Q u) (union s t)
  set_union P Q s t p q u = (λ h. there ((exactly_union s t u).0 h), λ h. (exactly_union s t u).1 (back h.0 h.1))
    where
      there : (has s u ≡ true) ⊎ (has t u ≡ true) → (l : u < F.size) × (P (u, l) ⊎ Q (u, l))
      there (inl m) = let r = (p u).0 m in (r.0, inl r.1)
      there (inr m) = let r = (q u).0 m in (r.0, inr r.1)

      back : (l : u < F.size) → P (u, l) ⊎ Q (u, l) → (has s u ≡ true) ⊎ (has t u ≡ true)
      back l (inl x) = inl ((p u).1 (l, x))
      back l (inr y) = inr ((q u).1 (l, y))

  set_minus : (P : NodeOf F → Type 0) (all s : NodeSet) → IsSet F (λ u. Unit {0}) all → IsSet F P s → IsSet F (λ u. P u → ⊥) (minus all s)
  set_minus P all s a p u = (there, back)
    where
      there : has (minus all s) u ≡ true → (l : u < F.size) × (P (u, l) → ⊥)
      there h =
          let r = and_is_true (has all u) (not (has s u)) (sym (has_minus all s u) ∙ h) in
          let l = ((a u).0 r.0).0 in
          (l, λ held. false≢true (sym (not-true _ r.1) ∙ (p u).1 (l, held)))

      back : (l : u < F.size) × (P (u, l) → ⊥) → has (minus all s) u ≡ true
      back h = has_minus all s u ∙ go (has s u) refl
        where
          go : (b : Bool) → has s u ≡ b → has all u && not (has s u) ≡ true
          go true e = absurd (let r = (p u).0 e in h.1 (again P u r.0 h.0 r.1))
          go false e = rw (e, (a u).1 (h.0, tt))

  -- a pair that compares so, by the table of values
  module _ (alike : List ℕ) (e : ℕ) (values : AlikeOn F alike e) where
    matches : (c : Comparison) (v w : NodeOf F) → Matches c (has (set_at alike (alike_row e v.0)) w.0) ↔ Compared (model_of F) c e v w
    matches Comparison.Same v w =
        let row = values v.0 v.1 w.0 in
        (λ h. (row.0 h).1, λ h. row.1 (w.1, h))
    matches Comparison.Differ v w =
        let row = values v.0 v.1 w.0 in
        (λ h same. false≢true (sym h ∙ row.1 (w.1, same)), λ never. differs row never (has (set_at alike (alike_row e v.0)) w.0) refl)
      where
        differs : (has (set_at alike (alike_row e v.0)) w.0 ≡ true) ↔ ((l : w.0 < F.size) × (F.value e v.0 ≡ F.value e w.0))
            → (F.value e v.0 ≡ F.value e w.0 → ⊥) → (b : Bool) → has (set_at alike (alike_row e v.0)) w.0 ≡ b
            → has (set_at alike (alike_row e v.0)) w.0 ≡ false
        differs row never true h = absurd (never (row.0 h).1)
        differs row never false h = h

    pair_compares : (P Q : NodeOf F → Type 0) (s t : NodeSet) (c : Comparison) → IsSet F P s → IsSet F Q t
        → Pair alike e c s t ↔ ((v : NodeOf F) × ((w : NodeOf F) × (P v × Q w × Compared (model_of F) c e v w)))
    pair_compares P Q s t c p q = (there, back)
      where
        there : Pair alike e c s t → (v : NodeOf F) × ((w : NodeOf F) × (P v × Q w × Compared (model_of F) c e v w))
        there (v, (m, (w, (k, r)))) =
            let a = (p v).0 m in
            let b = (q w).0 k in
            ((v, a.0), ((w, b.0), (a.1, b.1, (matches c (v, a.0) (w, b.0)).0 r)))

        back : (v : NodeOf F) × ((w : NodeOf F) × (P v × Q w × Compared (model_of F) c e v w)) → Pair alike e c s t
        back (v, (w, (a, b, r))) = (v.0, ((p v.0).1 (v.1, a), (w.0, ((q w.0).1 (w.1, b), (matches c v w).1 r))))

module _ (F : Finite) (ok : Named F) {bs : List ℕ} {n : ℕ} (valid : Valid bs n) (k : ℕ) (l : k < n) (table : List ℕ) (tabled : Tabled F bs table) where
  pub nodes_property : (entry_at bs k).kind ≡ Kind.Property → IsSet F (Holding F ok bs k) (set_at table (property_row (entry_at bs k).x))
  nodes_property kind =
      set_as F (Holding F ok bs k) (λ u. F.label (entry_at bs k).x u.0 ≡ true) (set_at table (property_row (entry_at bs k).x))
      (λ u. node_clause valid k l Kind.Property kind F ok refl u)
      (tabled.properties (entry_at bs k).x (uses_first valid k l Kind.Property kind))

  pub nodes_name : (entry_at bs k).kind ≡ Kind.Name → IsSet F (Holding F ok bs k) (set_at table (name_row (entry_at bs k).x))
  nodes_name kind =
      set_as F (Holding F ok bs k) (λ u. F.named (entry_at bs k).x ≡ u.0) (set_at table (name_row (entry_at bs k).x))
      (λ u. Iff.trans (node_clause valid k l Kind.Name kind F ok refl u) (λ e. ap (λ (w : NodeOf F). w.0) e, λ e. node_same F e))
      (tabled.names (entry_at bs k).x (uses_its_name valid k l Kind.Name kind refl))

  pub nodes_not : (s : NodeSet) → (entry_at bs k).kind ≡ Kind.Not → IsSet F (Holding F ok bs (entry_at bs k).x) s
      → IsSet F (Holding F ok bs k) (minus (set_at table nodes_row) s)
  nodes_not s kind set =
      set_as F (Holding F ok bs k) (λ u. Holding F ok bs (entry_at bs k).x u → ⊥) (minus (set_at table nodes_row) s)
      (λ u. node_clause valid k l Kind.Not kind F ok refl u)
      (set_minus F (Holding F ok bs (entry_at bs k).x) (set_at table nodes_row) s tabled.nodes set)

  pub nodes_both : (s t : NodeSet) → (entry_at bs k).kind ≡ Kind.Both → IsSet F (Holding F ok bs (entry_at bs k).x) s
      → IsSet F (Holding F ok bs (entry_at bs k).y) t → IsSet F (Holding F ok bs k) (meet s t)
  nodes_both s t kind p q =
      set_as F (Holding F ok bs k) (λ u. Holding F ok bs (entry_at bs k).x u × Holding F ok bs (entry_at bs k).y u) (meet s t)
      (λ u. node_clause valid k l Kind.Both kind F ok refl u)
      (set_meet F (Holding F ok bs (entry_at bs k).x) (Holding F ok bs (entry_at bs k).y) s t p q)

  -- "it holds where at least one part holds"
  pub nodes_either : (s t : NodeSet) → (entry_at bs k).kind ≡ Kind.Either → IsSet F (Holding F ok bs (entry_at bs k).x) s
      → IsSet F (Holding F ok bs (entry_at bs k).y) t → IsSet F (Holding F ok bs k) (union s t)
  nodes_either s t kind p q =
      set_as F (Holding F ok bs k) (λ u. Holding F ok bs (entry_at bs k).x u ⊎ Holding F ok bs (entry_at bs k).y u) (union s t)
      (λ u. node_clause valid k l Kind.Either kind F ok refl u)
      (set_union F (Holding F ok bs (entry_at bs k).x) (Holding F ok bs (entry_at bs k).y) s t p q)

  -- "After holds where some successor has φ."
  pub nodes_after : (s r : NodeSet) → (entry_at bs k).kind ≡ Kind.After → IsSet F (Holding F ok bs (entry_at bs k).y) s
      → HasExactly (Before table F.size (entry_at bs k).x s) r → IsSet F (Holding F ok bs k) r
  nodes_after s r kind set before u = Iff.trans (before u) (there, back)
    where
      clause : (u : NodeOf F)
          → Holding F ok bs k u ↔ ((v : NodeOf F) × ((F.edge (entry_at bs k).x u.0 v.0 ≡ true) × Holding F ok bs (entry_at bs k).y v))
      clause u = node_clause valid k l Kind.After kind F ok refl u

      row : (m : u < F.size) → IsSet F (λ v. F.edge (entry_at bs k).x u v.0 ≡ true) (set_at table (successors_row (entry_at bs k).x u))
      row m = tabled.successors (entry_at bs k).x u (within_as valid k l Kind.After kind).0 m

      there : Before table F.size (entry_at bs k).x s u → (m : u < F.size) × Holding F ok bs k (u, m)
      there (m, (v, (edge, held))) = let h = (set v).0 held in (m, (clause (u, m)).1 ((v, h.0), (((row m v).0 edge).1, h.1)))

      back : (m : u < F.size) × Holding F ok bs k (u, m) → Before table F.size (entry_at bs k).x s u
      back (m, held) =
          let c = (clause (u, m)).0 held in
          (m, (c.0.0, ((row m c.0.0).1 (c.0.1, c.1.0), (set c.0.0).1 (c.0.1, c.1.1))))

module _ (F : Finite) (ok : Named F) {bs : List ℕ} {n : ℕ} (valid : Valid bs n) (k : ℕ) (l : k < n) where
  -- "Same (differ) holds at u if some end of α and some end of β from u have equal (unequal) values on the channel."
  compare_clause : (c : Comparison) → (entry_at bs k).kind ≡ comparison_kind c → (u : NodeOf F)
      → Holding F ok bs k u ↔ Comparing F ok bs c (entry_at bs k).x (entry_at bs k).y (entry_at bs k).z u
  compare_clause Comparison.Same kind u = node_clause valid k l Kind.Same kind F ok refl u
  compare_clause Comparison.Differ kind u = node_clause valid k l Kind.Differ kind F ok refl u

  pub nodes_compare : (s : NodeSet) (c : Comparison) → (entry_at bs k).kind ≡ comparison_kind c
      → IsSet F (Comparing F ok bs c (entry_at bs k).x (entry_at bs k).y (entry_at bs k).z) s → IsSet F (Holding F ok bs k) s
  nodes_compare s c kind set =
      set_as F (Holding F ok bs k) (Comparing F ok bs c (entry_at bs k).x (entry_at bs k).y (entry_at bs k).z) s (λ u. compare_clause c kind u) set

-- a comparison at one node, by the ends of both paths from it
module _ {bs table alike : List ℕ} {n : ℕ} (valid : Valid bs (count_of bs)) (k : ℕ) (l : k < count_of bs) (c : Comparison)
    (kind : (entry_at bs k).kind ≡ comparison_kind c) (w : Standing bs table alike n) where
  -- the rows of its channel stand for the model's values
  pub channel_rows : AlikeOn w.model alike (entry_at bs k).x
  channel_rows = w.alike_is c (entry_at bs k).x (uses_first valid k l (comparison_kind c) kind)

  pub pair_compares_in : (u : ℕ) → u < n → (s t : NodeSet) → Ends bs table alike n (entry_at bs k).y u s
      → Ends bs table alike n (entry_at bs k).z u t → Pair alike (entry_at bs k).x c s t ↔ ComparesIn w k c u
  pair_compares_in u l' s t α β =
      let F = w.model in
      let m : u < F.size = rw w.size_is l' in
      let r = pair_compares F alike (entry_at bs k).x channel_rows (Leading F w.named bs (entry_at bs k).y (u, m)) (Leading F w.named bs (entry_at bs k).z (u, m)) s t c (α w m) (β w m) in (
        λ h. (m, r.0 h),
        λ h. r.1 (again F (Comparing F w.named bs c (entry_at bs k).x (entry_at bs k).y (entry_at bs k).z) u h.0 m h.1),
      )

-- a set of ends has nodes of the model only
pub ends_inside : {bs table alike : List ℕ} {n : ℕ} (w : Standing bs table alike n) (path u : ℕ) → u < n → (s : NodeSet)
    → Ends bs table alike n path u s → Inside w.model s
ends_inside w path u l s ends v h = ((ends w (rw w.size_is l) v).0 h).0
