-- What node evaluation asks and answers at each kind of entry, in every model that the tables stand for.
-- Assumes nothing.
use Rattle.std.specs.Prelude.{Option, Some, None, ◌≡◌, Bool, true, ◌↔◌, List, ℕ, ◌+◌, ◌≤◌, ◌<◌}
use Rattle.std.proofs.Common.{◌∙◌, ap, subst, arith, lt_of_lt_of_le}
use Rattle.std.proofs.Math.Logic.Iff
use Rattle.nodeset.specs.declared.NodeSet.{NodeSet}
use Rattle.nodeset.specs.Members.{HasExactly}
use Rattle.nodeset.specs.Set.{has, empty_set, insert_if, union, meet, minus}
use Rattle.nodeset.specs.Stored.{set_at}
use Rattle.pattern.specs.declared.types.Comparison.{Comparison}
use Rattle.pattern.specs.declared.table.Sort.{Sort}
use Rattle.pattern.specs.declared.table.Kind.{Kind}
use Rattle.pattern.specs.declared.entry.Entry.{Entry}
use Rattle.pattern.specs.File.Types.{max_axis, max_property, max_name, max_channel}
use Rattle.pattern.specs.File.Entries.{HasEntry, entry_at}
use Rattle.pattern.specs.File.Reading.{count_of, sort_at}
use Rattle.pattern.specs.File.Valid.{Valid, EarlierNode, EarlierPath}
use Rattle.pattern.proofs.File.Valid.{valid}
use Rattle.relations.specs.declared.kinds.NodeKind.{NodeKind}
use Rattle.relations.specs.Kinds.{node_kind_of, comparison_kind, IsNodeKind, node_kind_is}
use Rattle.relations.specs.Tables.{Before, property_row, name_row, nodes_row}
use Rattle.relations.specs.Members.{Collected, collected_none, collected_next}
use Rattle.relations.specs.Values.{Pair, PairFound}
use Rattle.path_rows.specs.Paths.{RowsCompared}
use Rattle.evaluation.specs.Standing.{Lent, Standing, Evaluates, Ends}
use Rattle.evaluation.specs.Entries.{refers_as, within_as}
use Rattle.evaluation.specs.Nodes.{ComparesIn, channel_rows, pair_compares_in, ends_inside, nodes_property, nodes_name, nodes_not, nodes_both, nodes_either, nodes_after, nodes_compare}

-- node entry k, read as e, of this kind
pub record NodeEntry (bs table alike : List ℕ) (n k : ℕ) (e : Entry) (kind : Option NodeKind) : Type 0 where
  pub lent : Lent bs table alike n
  pub within : k < count_of bs
  pub node : sort_at bs k ≡ Sort.Node
  pub same : e ≡ entry_at bs k
  pub by : kind ≡ node_kind_of e.kind

-- the nodes of a comparison collected so far, in each model
abbrev pub CollectedAt : (bs table alike : List ℕ) → ℕ → ℕ → Comparison → ℕ → NodeSet → Type 0
CollectedAt bs table alike n k c u s = (w : Standing bs table alike n) → Collected (ComparesIn w k c) u s

-- ---- laws
pub lent_valid : {bs table alike : List ℕ} {n : ℕ} → Lent bs table alike n → Valid bs (count_of bs)
lent_valid {bs} lent = valid bs (count_of bs) lent.read

-- an entry stands within the file
pub entry_long : {bs table alike : List ℕ} {n : ℕ} → Lent bs table alike n → (k : ℕ) → k < count_of bs → HasEntry bs k
entry_long lent k l = omega (arith, l, (lent_valid lent).header.length_is)

module _ {bs table alike : List ℕ} {n k : ℕ} {e : Entry} {kind : Option NodeKind} (q : NodeEntry bs table alike n k e kind) where
  kind_is : (t : Option NodeKind) → kind ≡ t → IsNodeKind t (entry_at bs k).kind
  kind_is t is =
      subst (λ (t' : Option NodeKind). IsNodeKind t' (entry_at bs k).kind) is
      (node_kind_is (entry_at bs k).kind kind (q.by ∙ ap (λ (e' : Entry). node_kind_of e'.kind) q.same))

  ok : Valid bs (count_of bs)
  ok = lent_valid q.lent

  pub property_within : kind ≡ Some NodeKind.Property → e.x ≤ max_property
  property_within is = rw q.same (within_as ok k q.within Kind.Property (kind_is (Some NodeKind.Property) is)).0

  pub name_within : kind ≡ Some NodeKind.Name → e.x ≤ max_name
  name_within is = rw q.same (within_as ok k q.within Kind.Name (kind_is (Some NodeKind.Name) is)).0

  pub axis_within : kind ≡ Some NodeKind.After → e.x ≤ max_axis
  axis_within is = rw q.same (within_as ok k q.within Kind.After (kind_is (Some NodeKind.After) is)).0

  pub not_refers : kind ≡ Some NodeKind.Not → EarlierNode bs k e.x
  not_refers is = rw q.same (refers_as ok k q.within Kind.Not (kind_is (Some NodeKind.Not) is)).0

  pub both_refers : kind ≡ Some NodeKind.Both → EarlierNode bs k e.x × EarlierNode bs k e.y
  both_refers is = let r = refers_as ok k q.within Kind.Both (kind_is (Some NodeKind.Both) is) in rw q.same (r.0, r.1)

  pub either_refers : kind ≡ Some NodeKind.Either → EarlierNode bs k e.x × EarlierNode bs k e.y
  either_refers is = let r = refers_as ok k q.within Kind.Either (kind_is (Some NodeKind.Either) is) in rw q.same (r.0, r.1)

  pub after_refers : kind ≡ Some NodeKind.After → EarlierNode bs k e.y
  after_refers is = rw q.same (refers_as ok k q.within Kind.After (kind_is (Some NodeKind.After) is)).1

  pub compares : (c : Comparison) → kind ≡ Some (NodeKind.Compare c) → (entry_at bs k).kind ≡ comparison_kind c
  compares c is = kind_is (Some (NodeKind.Compare c)) is

  pub evaluates_property : kind ≡ Some NodeKind.Property → Evaluates bs table alike n k (set_at table (property_row e.x))
  evaluates_property is =
      rw q.same (λ w. nodes_property w.model w.named ok k q.within table w.tabled (kind_is (Some NodeKind.Property) is))

  pub evaluates_name : kind ≡ Some NodeKind.Name → Evaluates bs table alike n k (set_at table (name_row e.x))
  evaluates_name is = rw q.same (λ w. nodes_name w.model w.named ok k q.within table w.tabled (kind_is (Some NodeKind.Name) is))

  pub evaluates_not : (s : NodeSet) → kind ≡ Some NodeKind.Not → Evaluates bs table alike n e.x s
      → Evaluates bs table alike n k (minus (set_at table nodes_row) s)
  evaluates_not s is h w =
      nodes_not w.model w.named ok k q.within table w.tabled s (kind_is (Some NodeKind.Not) is) ((rw q.same at h) w)

  pub evaluates_both : (s t : NodeSet) → kind ≡ Some NodeKind.Both → Evaluates bs table alike n e.x s
      → Evaluates bs table alike n e.y t → Evaluates bs table alike n k (meet s t)
  evaluates_both s t is h g w =
      nodes_both w.model w.named ok k q.within table w.tabled s t (kind_is (Some NodeKind.Both) is) ((rw q.same at h) w) ((rw q.same at g) w)

  pub evaluates_either : (s t : NodeSet) → kind ≡ Some NodeKind.Either → Evaluates bs table alike n e.x s
      → Evaluates bs table alike n e.y t → Evaluates bs table alike n k (union s t)
  evaluates_either s t is h g w =
      nodes_either w.model w.named ok k q.within table w.tabled s t (kind_is (Some NodeKind.Either) is) ((rw q.same at h) w) ((rw q.same at g) w)

  pub evaluates_after : (s r : NodeSet) → kind ≡ Some NodeKind.After → Evaluates bs table alike n e.y s
      → HasExactly (Before table n e.x s) r → Evaluates bs table alike n k r
  evaluates_after s r is h before w =
      nodes_after w.model w.named ok k q.within table w.tabled s r (kind_is (Some NodeKind.After) is) ((rw q.same at h) w) (rw w.size_is (rw q.same at before))

  pub evaluates_none : (s : NodeSet) → kind ≡ None → Evaluates bs table alike n k s
  evaluates_none s is w = absurd (kind_is None is q.node)

-- a comparison
module _ {bs table alike : List ℕ} {n : ℕ} (lent : Lent bs table alike n) (k : ℕ) (l : k < count_of bs) (c : Comparison)
    (kind : (entry_at bs k).kind ≡ comparison_kind c) where
  fields : (d : Comparison) → (entry_at bs k).kind ≡ comparison_kind d
      → ((entry_at bs k).x ≤ max_channel) × EarlierPath bs k (entry_at bs k).y × EarlierPath bs k (entry_at bs k).z
  fields Comparison.Same h =
      let r = refers_as (lent_valid lent) k l Kind.Same h in ((within_as (lent_valid lent) k l Kind.Same h).0, r.1, r.2)
  fields Comparison.Differ h =
      let r = refers_as (lent_valid lent) k l Kind.Differ h in ((within_as (lent_valid lent) k l Kind.Differ h).0, r.1, r.2)

  pub compare_fields : (e : Entry) → e ≡ entry_at bs k → (e.x ≤ max_channel) × EarlierPath bs k e.y × EarlierPath bs k e.z
  compare_fields e same = rw same (fields c kind)

  pub collects_none : CollectedAt bs table alike n k c 0 empty_set
  collects_none w = collected_none (ComparesIn w k c)

  pub collects_next : (u : ℕ) (found : NodeSet) (e : Entry) (s t : NodeSet) (b : Bool) → u < n → e ≡ entry_at bs k
      → Ends bs table alike n e.y u s → Ends bs table alike n e.z u t → PairFound alike e.x c s t b
      → CollectedAt bs table alike n k c u found → CollectedAt bs table alike n k c (u + 1) (insert_if b found u)
  collects_next u found e s t b m same α β pair so_far w =
      let α' : Ends bs table alike n (entry_at bs k).y u s = rw same at α in
      let pair' : PairFound alike (entry_at bs k).x c s t b = rw same at pair in
      collected_next (ComparesIn w k c) u found b (lt_of_lt_of_le m lent.narrow)
      (Iff.trans (pair'.found w.model (channel_rows (lent_valid lent) k l c kind w) (ends_inside w (entry_at bs k).y u m s α'))
      (pair_compares_in (lent_valid lent) k l c kind w u m s t α' (rw same at β)))
      (so_far w)

  -- the rows of both paths, compared node by node
  pub collects_rows : (rows : List ℕ) (first second : ℕ) (e : Entry) (s : NodeSet) → e ≡ entry_at bs k
      → ((u : ℕ) → u < n → Ends bs table alike n e.y u (set_at rows (first + u)))
      → ((u : ℕ) → u < n → Ends bs table alike n e.z u (set_at rows (second + u)))
      → RowsCompared alike rows n e.x c first second s → CollectedAt bs table alike n k c n s
  collects_rows rows first second e s same α β rows_compared w u = (there, back)
    where
      α' : (v : ℕ) → v < n → Ends bs table alike n (entry_at bs k).y v (set_at rows (first + v))
      α' = rw same at α

      β' : (v : ℕ) → v < n → Ends bs table alike n (entry_at bs k).z v (set_at rows (second + v))
      β' = rw same at β

      rows_compared' : RowsCompared alike rows n (entry_at bs k).x c first second s
      rows_compared' = rw same at rows_compared

      compared : (has s u ≡ true) ↔ ((u < n) × Pair alike (entry_at bs k).x c (set_at rows (first + u)) (set_at rows (second + u)))
      compared =
          rows_compared' w.model (channel_rows (lent_valid lent) k l c kind w)
          (λ v m. ends_inside w (entry_at bs k).y v m (set_at rows (first + v)) (α' v m)) u

      same_pair : (m : u < n) → Pair alike (entry_at bs k).x c (set_at rows (first + u)) (set_at rows (second + u)) ↔ ComparesIn w k c u
      same_pair m = pair_compares_in (lent_valid lent) k l c kind w u m (set_at rows (first + u)) (set_at rows (second + u)) (α' u m) (β' u m)

      there : has s u ≡ true → (u < n) × ComparesIn w k c u
      there h = let r = compared.0 h in (r.0, (same_pair r.0).0 r.1)

      back : (u < n) × ComparesIn w k c u → has s u ≡ true
      back h = compared.1 (h.0, (same_pair h.0).1 h.1)

  pub evaluates_compare : (s : NodeSet) → CollectedAt bs table alike n k c n s → Evaluates bs table alike n k s
  evaluates_compare s all w =
      nodes_compare w.model w.named (lent_valid lent) k l s c kind
      (λ u. (λ h. ((all w u).0 h).1, λ h. (all w u).1 (subst (λ (m : ℕ). u < m) w.size_is h.0, h)))
