-- The table of the values of a model that a file gives, as it is made for a pattern, channel by channel.
-- Assumes nothing.
use Rattle.std.specs.Prelude.{◌≡◌, refl, Bool, true, false, ◌&&◌, ◌||◌, ◌⊎◌, List, ℕ, ◌≤◌, ◌<◌, eqb}
use Rattle.std.proofs.Common.{sym, ◌∙◌, ap, subst, inl, inr, arith, eqb-true, eq-eqb, le-leb}
use Rattle.std.proofs.lemmas.Bool.{false≢true, eqb-false}
use Rattle.nodeset.specs.declared.NodeSet.{NodeSet}
use Rattle.nodeset.specs.Set.{width, has, is_empty}
use Rattle.nodeset.specs.Members.{HasExactly, lowest_member}
use Rattle.nodeset.specs.Stored.{set_at}
use Rattle.pattern.specs.declared.table.Kind.{Kind}
use Rattle.pattern.specs.declared.types.Comparison.{Comparison}
use Rattle.pattern.specs.File.Types.{max_channel}
use Rattle.pattern.specs.File.Table.{same_kind, same_kind_law}
use Rattle.pattern.specs.File.Entries.{entry_at}
use Rattle.pattern.specs.File.Reading.{count_of}
use Rattle.pattern.specs.File.Valid.{Valid}
use Rattle.pattern.specs.Checks.Tests.{or_is_true, and_is_true}
use Rattle.relations.specs.Kinds.{comparison_kind}
use Rattle.relations.specs.Tables.{Uses, alike_row, Alike}
use Rattle.relations.specs.Filled.{Filled}
use Rattle.model_records.specs.Layout.{node_count, value_on}
use Rattle.model_records.specs.Contents.{model_from}
use Rattle.model_tables.specs.Entries.{Grown, MadeBelow, made_used, first_within, used_within}
use Rattle.model_tables.specs.Buckets.{Near}

-- 01, "four data values per node": the nodes whose value on channel e is that of node u
abbrev pub AlikeTo : List ℕ → ℕ → ℕ → ℕ → Type 0
AlikeTo ds e u v = (v < node_count ds) × (value_on ds e u ≡ value_on ds e v)

-- the rows of the nodes below n on channel e are made
abbrev pub AlikeBelow : List ℕ → ℕ → ℕ → List ℕ → Type 0
AlikeBelow ds e n ys = (u : ℕ) → u < n → HasExactly (AlikeTo ds e u) (set_at ys (alike_row e u))

-- the rows of channel e are made
abbrev pub ChannelMade : List ℕ → ℕ → List ℕ → Type 0
ChannelMade ds e ys = AlikeBelow ds e (node_count ds) ys

-- the rows of a channel are made where that of node 0 has a node
abbrev pub MadeWhole : List ℕ → List ℕ → Type 0
MadeWhole ds ys = (e : ℕ) → is_empty (set_at ys (alike_row e 0)) ≡ false → ChannelMade ds e ys

-- an entry of the kind compares values
abbrev pub is_comparison : Kind → Bool
is_comparison κ = same_kind κ Kind.Same || same_kind κ Kind.Differ

-- ---- laws
-- the kinds that compare
pub compares : (κ : Kind) → is_comparison κ ≡ true → (c : Comparison) × (κ ≡ comparison_kind c)
compares κ h = which (or_is_true (same_kind κ Kind.Same) (same_kind κ Kind.Differ) h)
  where
    which : (same_kind κ Kind.Same ≡ true) ⊎ (same_kind κ Kind.Differ ≡ true) → (c : Comparison) × (κ ≡ comparison_kind c)
    which (inl e) = (Comparison.Same, same_kind_law κ Kind.Same e)
    which (inr e) = (Comparison.Differ, same_kind_law κ Kind.Differ e)

comparison_is : (c : Comparison) → is_comparison (comparison_kind c) ≡ true
comparison_is Comparison.Same = refl
comparison_is Comparison.Differ = refl

-- the channel of an entry that compares is in range
pub channel_within : {bs : List ℕ} → Valid bs (count_of bs) → (k : ℕ) → k < count_of bs → is_comparison (entry_at bs k).kind ≡ true
    → (entry_at bs k).x ≤ max_channel
channel_within {bs} valid k l h = let r = compares (entry_at bs k).kind h in which r.0 r.1
  where
    which : (c : Comparison) → (entry_at bs k).kind ≡ comparison_kind c → (entry_at bs k).x ≤ max_channel
    which Comparison.Same e = first_within valid k l Kind.Same e
    which Comparison.Differ e = first_within valid k l Kind.Differ e

module _ (ds : List ℕ) where
  -- nodes of one value have one row
  pub same_row : (e u v : ℕ) (s : NodeSet) → value_on ds e v ≡ value_on ds e u → HasExactly (AlikeTo ds e v) s → HasExactly (AlikeTo ds e u) s
  same_row e u v s same h = subst (λ (x : ℕ). HasExactly (λ w. (w < node_count ds) × (x ≡ value_on ds e w)) s) same h

  -- the row of a node, picked from those near it
  pub near_row : (e u : ℕ) (near s : NodeSet) → Near ds e u near → ((v : ℕ) → has s v ≡ has near v && eqb (value_on ds e u) (value_on ds e v))
      → HasExactly (AlikeTo ds e u) s
  near_row e u near s n picked v = (there, back)
    where
      there : has s v ≡ true → AlikeTo ds e u v
      there h =
          let r = and_is_true (has near v) (eqb (value_on ds e u) (value_on ds e v)) (sym (picked v) ∙ h) in
          (n.inside v r.0, eqb-true _ _ r.1)

      back : AlikeTo ds e u v → has s v ≡ true
      back h = picked v ∙ rw (n.alike_in v h.0 h.1, eq-eqb _ _ h.1) refl

  pub none_made : (xs : List ℕ) → ((i u : ℕ) → has (set_at xs i) u ≡ false) → MadeWhole ds xs
  none_made xs empty e h = absurd (false≢true (sym (empty (alike_row e 0) _) ∙ (lowest_member (set_at xs (alike_row e 0)) h).1))

  -- the rows of a channel are made, and those of the others stay
  module _ (narrow : node_count ds ≤ width) (e : ℕ) (xs ys : List ℕ) (f : Filled (alike_row e) (AlikeTo ds e) (node_count ds) xs ys) where
    stays : (c u : ℕ) → (c ≡ e → ⊥) → u < width → set_at ys (alike_row c u) ≡ set_at xs (alike_row c u)
    stays c u other l = f.rest (alike_row c u) (λ v g q. other (omega (arith, l, narrow, g, q)))

    others_kept : (c : ℕ) → (c ≡ e → ⊥) → ChannelMade ds c xs → ChannelMade ds c ys
    others_kept c other made u l = subst (HasExactly (AlikeTo ds c u)) (sym (stays c u other (omega (arith, l, narrow)))) (made u l)

    own_made : (c : ℕ) → c ≡ e → ChannelMade ds c ys
    own_made c p = subst (λ (k : ℕ). ChannelMade ds k ys) (sym p) f.rows

    pub channel_grown : (wanted : Bool) → Grown (ChannelMade ds) wanted e xs ys
    channel_grown wanted = record { made = λ w. f.rows; kept = λ c made. go c made (eqb c e) refl }
      where
        go : (c : ℕ) → ChannelMade ds c xs → (t : Bool) → eqb c e ≡ t → ChannelMade ds c ys
        go c made true p = own_made c (eqb-true c e p)
        go c made false p = others_kept c (eqb-false c e p) made

    pub still_whole : MadeWhole ds xs → MadeWhole ds ys
    still_whole whole c some = go (eqb c e) refl
      where
        go : (t : Bool) → eqb c e ≡ t → ChannelMade ds c ys
        go true p = own_made c (eqb-true c e p)
        go false p =
            let other = eqb-false c e p in
            others_kept c other (whole c (ap is_empty (sym (stays c 0 other (omega arith))) ∙ some))

  -- the table is whole: on the channels on which the pattern compares the model's values are those of the records
  pub alike_made : (bs ys : List ℕ) → Valid bs (count_of bs) → MadeBelow (ChannelMade ds) is_comparison bs (count_of bs) ys → Alike (model_from ds) bs ys
  alike_made bs ys valid all c e used u l =
      rw (le-leb e max_channel (within c used)) (made_used (ChannelMade ds) is_comparison bs ys all (comparison_kind c) (comparison_is c) e used u l)
    where
      within : (c : Comparison) → Uses bs (comparison_kind c) e → e ≤ max_channel
      within Comparison.Same h = used_within valid Kind.Same e h
      within Comparison.Differ h = used_within valid Kind.Differ e h
