-- The values of a channel in buckets, which are sets of nodes, so that a node is compared with few others.
-- Assumes nothing.
use Rattle.std.specs.Prelude.{◌≡◌, refl, Bool, true, false, List, ℕ, ◌+◌, ◌%◌, ◌≤◌, ◌<◌, length, eqb}
use Rattle.std.proofs.Common.{sym, ◌∙◌, ap, subst, arith, not-suc-le-zero, eqb-true}
use Rattle.std.proofs.lemmas.Bool.{false≢true, eqb-false}
use Rattle.nodeset.specs.declared.NodeSet.{NodeSet}
use Rattle.nodeset.specs.Set.{width, has, insert}
use Rattle.nodeset.specs.Stored.{table_bytes, set_at, put, put_other}
use Rattle.relations.specs.Members.{Collected, collected_next}
use Rattle.relations.specs.Filled.{exactly_put}
use Rattle.model_records.specs.Layout.{node_count, value_on}

-- the number of the buckets
abbrev pub bucket_count : ℕ
bucket_count = 61

-- the bucket of a value, and that of node u on channel e
abbrev pub bucket_of : ℕ → ℕ
bucket_of value = value % bucket_count

abbrev pub bucket_at : List ℕ → ℕ → ℕ → ℕ
bucket_at ds e u = bucket_of (value_on ds e u)

-- each bucket has the nodes below n whose bucket it is
abbrev pub InBuckets : List ℕ → ℕ → ℕ → List ℕ → Type 0
InBuckets ds e n ys = (i : ℕ) → i < bucket_count → Collected (λ u. bucket_at ds e u ≡ i) n (set_at ys i)

-- a set has nodes of the model only, and all whose value on channel e is that of node u
pub record Near (ds : List ℕ) (e u : ℕ) (near : NodeSet) : Type 0 where
  pub inside : (v : ℕ) → has near v ≡ true → v < node_count ds
  pub alike_in : (v : ℕ) → v < node_count ds → value_on ds e u ≡ value_on ds e v → has near v ≡ true

-- ---- laws
module _ (ds : List ℕ) (e : ℕ) where
  pub buckets_none : (xs : List ℕ) → ((i u : ℕ) → has (set_at xs i) u ≡ false) → InBuckets ds e 0 xs
  buckets_none xs empty i l u = (λ h. absurd (false≢true (sym (empty i u) ∙ h)), λ h. absurd (not-suc-le-zero h.0))

  -- the next node: it is in its bucket
  pub buckets_more : (n : ℕ) (ys : List ℕ) → n < width → table_bytes bucket_count ≤ length ys → InBuckets ds e n ys
      → InBuckets ds e (n + 1) (put ys (bucket_at ds e n) (insert (set_at ys (bucket_at ds e n)) n))
  buckets_more n ys l long before i b = go (eqb (bucket_at ds e n) i) refl
    where
      own : ℕ
      own = bucket_at ds e n

      In : ℕ → ℕ → Type 0
      In i u = bucket_at ds e u ≡ i

      go : (t : Bool) → eqb (bucket_at ds e n) i ≡ t → Collected (In i) (n + 1) (set_at (put ys own (insert (set_at ys own) n)) i)
      go true p =
          subst (λ (k : ℕ). Collected (In k) (n + 1) (set_at (put ys own (insert (set_at ys own) n)) k)) (eqb-true (bucket_at ds e n) i p)
          (exactly_put (λ u. (u < n + 1) × In own u) ys own (insert (set_at ys own) n) (omega (arith, long))
          (collected_next (In own) n (set_at ys own) true l (λ h. refl, λ h. refl) (before own (omega arith))))
      go false p =
          subst (Collected (In i) (n + 1)) (sym (put_other ys own i (insert (set_at ys own) n) (λ q. eqb-false (bucket_at ds e n) i p (sym q))))
          (collected_next (In i) n (set_at ys i) false l (λ h. absurd (false≢true h), λ h. absurd (eqb-false (bucket_at ds e n) i p h)) (before i b))

  -- nodes of one value are in one bucket
  pub bucket_near : (ys : List ℕ) (u : ℕ) → InBuckets ds e (node_count ds) ys → Near ds e u (set_at ys (bucket_at ds e u))
  bucket_near ys u all =
      let in_own = all (bucket_at ds e u) (omega arith) in
      record { inside = λ v h. ((in_own v).0 h).0; alike_in = λ v l same. (in_own v).1 (l, ap bucket_of (sym same)) }
