-- One sweep down the entries of a pattern, with a pending set for each reference: where the pending sets still lead stays the same, from
-- the one node that the sweep begins with to the set at the end of path.
-- Assumes nothing.
use Rattle.std.specs.Prelude.{◌≡◌, refl, Bool, true, false, ◌||◌, ◌⊎◌, ◌↔◌, List, ℕ, suc, ◌+◌, ◌-◌, ◌≤◌, ◌<◌, length, replicate, eqb}
use Rattle.std.proofs.Common.{sym, ◌∙◌, ap, subst, inl, inr, arith, eq-or-lt_of_le, le_of_suc-le-suc, lt_trans, lt-suc_self, not-suc-le-zero, lt_of_lt_of_le, le_trans, le_of_lt, eqb-true, eq-eqb, ne_eqb}
use Rattle.std.proofs.lemmas.Bool.{false≢true, eqb-false}
use Rattle.std.proofs.Math.Logic.Iff
use Rattle.std.proofs.lemmas.List.{length-replicate}
use Rattle.nodeset.specs.declared.NodeSet.{NodeSet}
use Rattle.nodeset.specs.Set.{width, has, is_empty, lowest_of, only, union, meet, has_only, has_union, has_meet}
use Rattle.nodeset.specs.Stored.{table_bytes, set_at, put, length_put, put_same, put_other, has_zeros}
use Rattle.wire.specs.Choice.{pick}
use Rattle.nodeset.specs.Members.{HasExactly, empty_none, lowest_member}
use Rattle.pattern.specs.declared.table.Kind.{Kind}
use Rattle.pattern.specs.declared.table.Sort.{Sort}
use Rattle.pattern.specs.Checks.Tests.{or_is_true, and_is_true, or_left, or_right}
use Rattle.pattern.specs.File.Table.{end_of_path, sort_of}
use Rattle.pattern.specs.File.Entries.{entry_at}
use Rattle.pattern.specs.File.Reading.{sort_at}
use Rattle.pattern.specs.File.Valid.{Valid, EarlierPath}
use Rattle.pattern.specs.Logic.Finite.{Finite, Named, NodeOf, node_same, naming_of}
use Rattle.relations.specs.Tables.{IsSet, Inside, Tabled, successors_row, name_row}
use Rattle.relations.specs.Members.{Image}
use Rattle.evaluation.specs.Standing.{pending_bytes, Holding, Leading}
use Rattle.evaluation.specs.Entries.{reference_fits, refers_as, within_as, uses_its_name, path_clause, end_leads, earlier_path}

-- a set added to the pending set of a reference
abbrev pub add_to : List ℕ → ℕ → NodeSet → List ℕ
add_to pending r s = put pending r (union (set_at pending r) s)

-- the entries that a sweep from reference r goes through: it and those below it, none from the end of path
abbrev pub entries_swept : ℕ → ℕ
entries_swept r = pick (eqb r end_of_path) 0 (suc r)

-- a sweep begins with one node, pending at its reference
abbrev pub begun : ℕ → ℕ → List ℕ
begun r u = put (replicate pending_bytes 0) r (only u)

module _ (F : Finite) (ok : Named F) (bs : List ℕ) where
  -- node v is reached from the set by way of reference k
  abbrev pub By : NodeSet → ℕ → NodeOf F → Type 0
  By s k v = (u : NodeOf F) × ((has s u.0 ≡ true) × Leading F ok bs k u v)

  -- node v is an end already, or is still reached from the pending set of a path entry below j
  abbrev pub Reached : List ℕ → ℕ → NodeOf F → Type 0
  Reached pending j v =
      (has (set_at pending end_of_path) v.0 ≡ true) ⊎ ((i : ℕ) × ((i < j) × (sort_at bs i ≡ Sort.Path) × By (set_at pending i) i v))

  -- the sets have nodes of the model only
  abbrev pub AllInside : List ℕ → Type 0
  AllInside pending = (i : ℕ) → Inside F (set_at pending i)

  -- one entry of the sweep: nothing is lost and nothing is gained
  pub record KeepsEnds (i : ℕ) (before after : List ℕ) : Type 0 where
    pub inside : AllInside before → AllInside after
    pub same_ends : AllInside before → (v : NodeOf F) → Reached before (suc i) v ↔ Reached after i v

  -- what a sweep from reference r and node u has before entries below j still leads to the same ends
  pub record Swept (r : ℕ) (u : NodeOf F) (pending : List ℕ) (j : ℕ) : Type 0 where
    pub all_inside : AllInside pending
    pub ends_are : (v : NodeOf F) → Leading F ok bs r u v ↔ Reached pending j v

  -- ---- laws
  pub swept_one : (r : ℕ) (u : NodeOf F) (j : ℕ) (before after : List ℕ) → 0 < j → Swept r u before j → KeepsEnds (j - 1) before after
      → Swept r u after (j - 1)
  swept_one r u j before after pos s p =
      let whole : j ≡ suc (j - 1) = omega arith in
      record {
        all_inside = p.inside s.all_inside;
        ends_are = λ v.
            Iff.trans (subst (λ (i : ℕ). Leading F ok bs r u v ↔ Reached before i v) whole (s.ends_are v)) (p.same_ends s.all_inside v);
      }

  -- at the end of a sweep the ends are the set at the end of path
  pub swept_all : (r : ℕ) (u : NodeOf F) (pending : List ℕ) → Swept r u pending 0 → IsSet F (Leading F ok bs r u) (set_at pending end_of_path)
  swept_all r u pending s v =
      (λ h. let l = s.all_inside end_of_path v h in (l, (s.ends_are (v, l)).1 (inl h)), λ h. last h.0 ((s.ends_are (v, h.0)).0 h.1))
    where
      last : (l : v < F.size) → Reached pending 0 (v, l) → has (set_at pending end_of_path) v ≡ true
      last l (inl h) = h
      last l (inr (i, (below, p, b))) = absurd (not-suc-le-zero below)

  -- adding to a pending set
  module _ (pending : List ℕ) (r : ℕ) (s : NodeSet) (long : table_bytes (r + 1) ≤ length pending) where
    -- who is in a pending set now: who was there, and at the reference the set that was added
    added : (j u : ℕ) → (has (set_at (add_to pending r s) j) u ≡ true) ↔ ((has (set_at pending j) u ≡ true) ⊎ ((j ≡ r) × (has s u ≡ true)))
    added j u = go (eqb j r) refl
      where
        sum : has (set_at (add_to pending r s) r) u ≡ has (set_at pending r) u || has s u
        sum = put_same pending r (union (set_at pending r) s) long u ∙ has_union (set_at pending r) s u

        at_r : j ≡ r → (has (set_at (add_to pending r s) r) u ≡ true) ↔ ((has (set_at pending r) u ≡ true) ⊎ ((j ≡ r) × (has s u ≡ true)))
        at_r e = (λ h. which (or_is_true (has (set_at pending r) u) (has s u) (sym sum ∙ h)), back)
          where
            which : (has (set_at pending r) u ≡ true) ⊎ (has s u ≡ true) → (has (set_at pending r) u ≡ true) ⊎ ((j ≡ r) × (has s u ≡ true))
            which (inl a) = inl a
            which (inr a) = inr (e, a)

            back : (has (set_at pending r) u ≡ true) ⊎ ((j ≡ r) × (has s u ≡ true)) → has (set_at (add_to pending r s) r) u ≡ true
            back (inl a) = sum ∙ or_left (has (set_at pending r) u) (has s u) a
            back (inr a) = sum ∙ or_right (has (set_at pending r) u) (has s u) a.1

        go : (b : Bool) → eqb j r ≡ b
            → (has (set_at (add_to pending r s) j) u ≡ true) ↔ ((has (set_at pending j) u ≡ true) ⊎ ((j ≡ r) × (has s u ≡ true)))
        go true h =
            let e = eqb-true j r h in
            subst (λ (i : ℕ). (has (set_at (add_to pending r s) i) u ≡ true) ↔ ((has (set_at pending i) u ≡ true) ⊎ ((j ≡ r) × (has s u ≡ true)))) (sym e)
            (at_r e)
        go false h =
            let ne = eqb-false j r h in
            let same = put_other pending r j (union (set_at pending r) s) ne in
            (λ m. inl (subst (λ (t : NodeSet). has t u ≡ true) same m), back ne same)
          where
            back : (j ≡ r → ⊥) → set_at (add_to pending r s) j ≡ set_at pending j
                → (has (set_at pending j) u ≡ true) ⊎ ((j ≡ r) × (has s u ≡ true)) → has (set_at (add_to pending r s) j) u ≡ true
            back ne same (inl a) = subst (λ (t : NodeSet). has t u ≡ true) (sym same) a
            back ne same (inr a) = absurd (ne a.0)

    add_inside : Inside F s → AllInside pending → AllInside (add_to pending r s)
    add_inside new old j u h = which ((added j u).0 h)
      where
        which : (has (set_at pending j) u ≡ true) ⊎ ((j ≡ r) × (has s u ≡ true)) → u < F.size
        which (inl a) = old j u a
        which (inr a) = new u a.1

  module _ {n : ℕ} (valid : Valid bs n) where
    -- adding a set to an earlier reference adds what is reached from it
    reached_added : (pending : List ℕ) (r : ℕ) (s : NodeSet) → table_bytes (r + 1) ≤ length pending → (i : ℕ) → EarlierPath bs i r → (v : NodeOf F)
        → Reached (add_to pending r s) i v ↔ (Reached pending i v ⊎ By s r v)
    reached_added pending r s long i earlier v = (there, back)
      where
        new : (j u : ℕ) → (has (set_at (add_to pending r s) j) u ≡ true) ↔ ((has (set_at pending j) u ≡ true) ⊎ ((j ≡ r) × (has s u ≡ true)))
        new j u = added pending r s long j u

        there : Reached (add_to pending r s) i v → Reached pending i v ⊎ By s r v
        there (inl m) = which ((new end_of_path v.0).0 m)
          where
            which : (has (set_at pending end_of_path) v.0 ≡ true) ⊎ ((end_of_path ≡ r) × (has s v.0 ≡ true)) → Reached pending i v ⊎ By s r v
            which (inl a) = inl (inl a)
            which (inr a) = inr (v, (a.1, subst (λ (k : ℕ). Leading F ok bs k v v) a.0 ((end_leads valid F ok v v).1 refl)))
        there (inr (j, (l, p, (u, (h, lead))))) = which ((new j u.0).0 h)
          where
            which : (has (set_at pending j) u.0 ≡ true) ⊎ ((j ≡ r) × (has s u.0 ≡ true)) → Reached pending i v ⊎ By s r v
            which (inl a) = inl (inr (j, (l, p, (u, (a, lead)))))
            which (inr a) = inr (u, (a.1, subst (λ (k : ℕ). Leading F ok bs k u v) a.0 lead))

        from_new : EarlierPath bs i r → By s r v → Reached (add_to pending r s) i v
        from_new (inl e) (u, (h, lead)) =
            let same = (end_leads valid F ok u v).0 (subst (λ (k : ℕ). Leading F ok bs k u v) e lead) in
            inl ((new end_of_path v.0).1 (inr (sym e, subst (λ (w : NodeOf F). has s w.0 ≡ true) same h)))
        from_new (inr (l, p)) (u, (h, lead)) = inr (r, (l, p, (u, ((new r u.0).1 (inr (refl, h)), lead))))

        back : Reached pending i v ⊎ By s r v → Reached (add_to pending r s) i v
        back (inl (inl m)) = inl ((new end_of_path v.0).1 (inl m))
        back (inl (inr (j, (l, p, (u, (h, lead)))))) = inr (j, (l, p, (u, ((new j u.0).1 (inl h), lead))))
        back (inr b) = from_new earlier b

    -- ---- what one entry of the sweep does
    -- the ends from one entry more are those from the entries below and those from its own pending set
    reached_split : (pending : List ℕ) (i : ℕ) (v : NodeOf F)
        → Reached pending (suc i) v ↔ (Reached pending i v ⊎ ((sort_at bs i ≡ Sort.Path) × By (set_at pending i) i v))
    reached_split pending i v = (there, back)
      where
        there : Reached pending (suc i) v → Reached pending i v ⊎ ((sort_at bs i ≡ Sort.Path) × By (set_at pending i) i v)
        there (inl m) = inl (inl m)
        there (inr (j, (l, p, b))) = which (eq-or-lt_of_le (le_of_suc-le-suc l))
          where
            which : (j ≡ i) ⊎ (j < i) → Reached pending i v ⊎ ((sort_at bs i ≡ Sort.Path) × By (set_at pending i) i v)
            which (inl e) = inr (subst (λ (k : ℕ). (sort_at bs k ≡ Sort.Path) × By (set_at pending k) k v) e (p, b))
            which (inr m) = inl (inr (j, (m, p, b)))

        back : Reached pending i v ⊎ ((sort_at bs i ≡ Sort.Path) × By (set_at pending i) i v) → Reached pending (suc i) v
        back (inl (inl m)) = inl m
        back (inl (inr (j, (l, p, b)))) = inr (j, (lt_trans l (lt-suc_self i), p, b))
        back (inr (p, b)) = inr (i, (lt-suc_self i, p, b))

    -- an entry from whose pending set nothing is reached
    keeps_nothing : (pending : List ℕ) (i : ℕ) → ((v : NodeOf F) → sort_at bs i ≡ Sort.Path → By (set_at pending i) i v → ⊥) → KeepsEnds i pending pending
    keeps_nothing pending i none =
        record { inside = λ h. h; same_ends = λ h v. Iff.trans (reached_split pending i v) (drop v, λ r. inl r) }
      where
        drop : (v : NodeOf F) → Reached pending i v ⊎ ((sort_at bs i ≡ Sort.Path) × By (set_at pending i) i v) → Reached pending i v
        drop v (inl r) = r
        drop v (inr b) = absurd (none v b.0 b.1)

    pub keeps_empty : (pending : List ℕ) (i : ℕ) → is_empty (set_at pending i) ≡ true → KeepsEnds i pending pending
    keeps_empty pending i h = keeps_nothing pending i (λ v p b. false≢true (sym (empty_none (set_at pending i) h b.0.0) ∙ b.1.0))

    pub keeps_no_path : (pending : List ℕ) (i : ℕ) → (sort_at bs i ≡ Sort.Path → ⊥) → KeepsEnds i pending pending
    keeps_no_path pending i never = keeps_nothing pending i (λ v p b. never p)

    -- an entry from whose pending set the same is reached as from a set at one earlier reference
    keeps_on : (pending : List ℕ) (i r : ℕ) (s : NodeSet) → table_bytes (r + 1) ≤ length pending → EarlierPath bs i r → sort_at bs i ≡ Sort.Path
        → (Inside F (set_at pending i) → Inside F s) → (Inside F (set_at pending i) → (v : NodeOf F) → By (set_at pending i) i v ↔ By s r v)
        → KeepsEnds i pending (add_to pending r s)
    keeps_on pending i r s long earlier path in_s same =
        record {
          inside = λ h. add_inside pending r s long (in_s (h i)) h;
          same_ends = λ h v.
              Iff.trans (reached_split pending i v) (Iff.trans (swap h v) (Iff.symm (reached_added pending r s long i earlier v)));
        }
      where
        swap : AllInside pending → (v : NodeOf F)
            → (Reached pending i v ⊎ ((sort_at bs i ≡ Sort.Path) × By (set_at pending i) i v)) ↔ (Reached pending i v ⊎ By s r v)
        swap h v = (there, back)
          where
            there : Reached pending i v ⊎ ((sort_at bs i ≡ Sort.Path) × By (set_at pending i) i v) → Reached pending i v ⊎ By s r v
            there (inl a) = inl a
            there (inr b) = inr ((same (h i) v).0 b.1)

            back : Reached pending i v ⊎ By s r v → Reached pending i v ⊎ ((sort_at bs i ≡ Sort.Path) × By (set_at pending i) i v)
            back (inl a) = inl a
            back (inr b) = inr (path, (same (h i) v).1 b)

    module _ (pending : List ℕ) (i : ℕ) (l : i < n) (long : pending_bytes ≤ length pending) where
      abbrev mine : NodeSet
      mine = set_at pending i

      reference_long : (r : ℕ) → EarlierPath bs i r → table_bytes (r + 1) ≤ length pending
      reference_long r h = le_trans (reference_fits valid r (earlier_path bs i n r (le_of_lt l) h)) long

      -- "step to wherever α leads from a successor on that axis"
      pub keeps_step : (table : List ℕ) (s : NodeSet) → Tabled F bs table → (entry_at bs i).kind ≡ Kind.Step
          → HasExactly (Image (λ u. set_at table (successors_row (entry_at bs i).x u)) mine) s
          → KeepsEnds i pending (add_to pending (entry_at bs i).y s)
      keeps_step table s tabled step image =
          keeps_on pending i y s (reference_long y earlier) earlier (ap sort_of step) in_s same
        where
          y : ℕ
          y = (entry_at bs i).y

          earlier : EarlierPath bs i y
          earlier = (refers_as valid i l Kind.Step step).1

          row : (u : ℕ) → u < F.size → IsSet F (λ v. F.edge (entry_at bs i).x u v.0 ≡ true) (set_at table (successors_row (entry_at bs i).x u))
          row u m = tabled.successors (entry_at bs i).x u (within_as valid i l Kind.Step step).0 m

          clause : (u v : NodeOf F)
              → Leading F ok bs i u v ↔ ((w : NodeOf F) × ((F.edge (entry_at bs i).x u.0 w.0 ≡ true) × Leading F ok bs (entry_at bs i).y w v))
          clause u v = path_clause valid i l Kind.Step step F ok refl u v

          in_s : Inside F mine → Inside F s
          in_s h v m = let r = (image v).0 m in ((row r.0 (h r.0 r.1.0) v).0 r.1.1).0

          same : Inside F mine → (v : NodeOf F) → By mine i v ↔ By s (entry_at bs i).y v
          same h v = (there, back)
            where
              there : By mine i v → By s (entry_at bs i).y v
              there (u, (m, lead)) =
                  let c = (clause u v).0 lead in
                  (c.0, ((image c.0.0).1 (u.0, (m, (row u.0 u.1 c.0.0).1 (c.0.1, c.1.0))), c.1.1))

              back : By s (entry_at bs i).y v → By mine i v
              back (w, (m, lead)) =
                  let r = (image w.0).0 m in
                  let u : NodeOf F = (r.0, h r.0 r.1.0) in
                  (u, (r.1.0, (clause u v).1 (w, (((row r.0 (h r.0 r.1.0) w.0).0 r.1.1).1, lead))))

      -- "jump to wherever α leads from the named node"
      pub keeps_jump : (table : List ℕ) → Tabled F bs table → (entry_at bs i).kind ≡ Kind.Jump → is_empty mine ≡ false
          → KeepsEnds i pending (add_to pending (entry_at bs i).y (set_at table (name_row (entry_at bs i).x)))
      keeps_jump table tabled jump some =
          keeps_on pending i (entry_at bs i).y named (reference_long (entry_at bs i).y earlier) earlier (ap sort_of jump) (λ h v m. ((row v).0 m).0) same
        where
          named : NodeSet
          named = set_at table (name_row (entry_at bs i).x)

          earlier : EarlierPath bs i (entry_at bs i).y
          earlier = (refers_as valid i l Kind.Jump jump).1

          row : IsSet F (λ u. F.named (entry_at bs i).x ≡ u.0) (set_at table (name_row (entry_at bs i).x))
          row = tabled.names (entry_at bs i).x (uses_its_name valid i l Kind.Jump jump refl)

          clause : (u v : NodeOf F) → Leading F ok bs i u v ↔ Leading F ok bs (entry_at bs i).y (naming_of F ok (entry_at bs i).x) v
          clause u v = path_clause valid i l Kind.Jump jump F ok refl u v

          same : Inside F mine → (v : NodeOf F) → By mine i v ↔ By (set_at table (name_row (entry_at bs i).x)) (entry_at bs i).y v
          same h v = (there, back)
            where
              there : By mine i v → By (set_at table (name_row (entry_at bs i).x)) (entry_at bs i).y v
              there (u, (m, lead)) =
                  (naming_of F ok (entry_at bs i).x, ((row (F.named (entry_at bs i).x)).1 (ok (entry_at bs i).x, refl), (clause u v).0 lead))

              back : By (set_at table (name_row (entry_at bs i).x)) (entry_at bs i).y v → By mine i v
              back (w, (m, lead)) =
                  let first = (lowest_member mine some).1 in
                  let u : NodeOf F = (lowest_of mine, h (lowest_of mine) first) in
                  let here : naming_of F ok (entry_at bs i).x ≡ w = node_same F ((row w.0).0 m).1 in
                  (u, (first, (clause u v).1 (subst (λ (t : NodeOf F). Leading F ok bs (entry_at bs i).y t v) (sym here) lead)))

      -- "test to wherever α leads from u if φ holds at u"
      pub keeps_test : (s : NodeSet) → (entry_at bs i).kind ≡ Kind.Test → IsSet F (Holding F ok bs (entry_at bs i).x) s
          → KeepsEnds i pending (add_to pending (entry_at bs i).y (meet mine s))
      keeps_test s test set =
          keeps_on pending i (entry_at bs i).y (meet mine s) (reference_long (entry_at bs i).y earlier) earlier (ap sort_of test)
          (λ h v m. h v (both v m).0)
          same
        where
          earlier : EarlierPath bs i (entry_at bs i).y
          earlier = (refers_as valid i l Kind.Test test).1

          both : (v : ℕ) → has (meet mine s) v ≡ true → (has mine v ≡ true) × (has s v ≡ true)
          both v m = and_is_true (has mine v) (has s v) (sym (has_meet mine s v) ∙ m)

          clause : (u v : NodeOf F) → Leading F ok bs i u v ↔ (Holding F ok bs (entry_at bs i).x u × Leading F ok bs (entry_at bs i).y u v)
          clause u v = path_clause valid i l Kind.Test test F ok refl u v

          same : Inside F mine → (v : NodeOf F) → By mine i v ↔ By (meet mine s) (entry_at bs i).y v
          same h v = (there, back)
            where
              there : By mine i v → By (meet mine s) (entry_at bs i).y v
              there (u, (m, lead)) =
                  let c = (clause u v).0 lead in
                  (u, (rw (has_meet mine s u.0, m, (set u.0).1 (u.1, c.0)), c.1))

              back : By (meet mine s) (entry_at bs i).y v → By mine i v
              back (u, (m, lead)) =
                  let r = both u.0 m in
                  let held = (set u.0).0 r.1 in
                  (u, (r.0, (clause u v).1 (subst (λ (w : NodeOf F). Holding F ok bs (entry_at bs i).x w) (node_same F refl) held.1, lead)))

      -- "fork to the ends of either path"
      pub keeps_fork : (entry_at bs i).kind ≡ Kind.Fork → KeepsEnds i pending (add_to (add_to pending (entry_at bs i).x mine) (entry_at bs i).y mine)
      keeps_fork fork =
          record {
            inside = λ h. add_inside one (entry_at bs i).y mine long_y (h i) (add_inside pending (entry_at bs i).x mine long_x (h i) h);
            same_ends = λ h v.
                Iff.trans (reached_split pending i v)
                (Iff.trans (parts v) (Iff.symm (Iff.trans (reached_added one (entry_at bs i).y mine long_y i refs.1 v) (inner v))));
          }
        where
          one : List ℕ
          one = add_to pending (entry_at bs i).x mine

          refs : EarlierPath bs i (entry_at bs i).x × EarlierPath bs i (entry_at bs i).y
          refs = (let r = refers_as valid i l Kind.Fork fork in (r.0, r.1))

          long_x : table_bytes ((entry_at bs i).x + 1) ≤ length pending
          long_x = reference_long (entry_at bs i).x refs.0

          long_y : table_bytes ((entry_at bs i).y + 1) ≤ length (add_to pending (entry_at bs i).x mine)
          long_y = rw (length_put pending (entry_at bs i).x (union (set_at pending (entry_at bs i).x) mine)) (reference_long (entry_at bs i).y refs.1)

          clause : (u v : NodeOf F) → Leading F ok bs i u v ↔ (Leading F ok bs (entry_at bs i).x u v ⊎ Leading F ok bs (entry_at bs i).y u v)
          clause u v = path_clause valid i l Kind.Fork fork F ok refl u v

          inner : (v : NodeOf F) → (Reached one i v ⊎ By mine (entry_at bs i).y v)
              ↔ ((Reached pending i v ⊎ By mine (entry_at bs i).x v) ⊎ By mine (entry_at bs i).y v)
          inner v = (there, back)
            where
              first : Reached one i v ↔ (Reached pending i v ⊎ By mine (entry_at bs i).x v)
              first = reached_added pending (entry_at bs i).x mine long_x i refs.0 v

              there : Reached one i v ⊎ By mine (entry_at bs i).y v → (Reached pending i v ⊎ By mine (entry_at bs i).x v) ⊎ By mine (entry_at bs i).y v
              there (inl a) = inl (first.0 a)
              there (inr b) = inr b

              back : (Reached pending i v ⊎ By mine (entry_at bs i).x v) ⊎ By mine (entry_at bs i).y v → Reached one i v ⊎ By mine (entry_at bs i).y v
              back (inl a) = inl (first.1 a)
              back (inr b) = inr b

          parts : (v : NodeOf F) → (Reached pending i v ⊎ ((sort_at bs i ≡ Sort.Path) × By mine i v))
              ↔ ((Reached pending i v ⊎ By mine (entry_at bs i).x v) ⊎ By mine (entry_at bs i).y v)
          parts v = (there, back)
            where
              either : (u : NodeOf F) → has mine u.0 ≡ true → Leading F ok bs (entry_at bs i).x u v ⊎ Leading F ok bs (entry_at bs i).y u v
                  → (Reached pending i v ⊎ By mine (entry_at bs i).x v) ⊎ By mine (entry_at bs i).y v
              either u m (inl a) = inl (inr (u, (m, a)))
              either u m (inr a) = inr (u, (m, a))

              there : Reached pending i v ⊎ ((sort_at bs i ≡ Sort.Path) × By mine i v)
                  → (Reached pending i v ⊎ By mine (entry_at bs i).x v) ⊎ By mine (entry_at bs i).y v
              there (inl a) = inl (inl a)
              there (inr (p, (u, (m, lead)))) = either u m ((clause u v).0 lead)

              back : (Reached pending i v ⊎ By mine (entry_at bs i).x v) ⊎ By mine (entry_at bs i).y v
                  → Reached pending i v ⊎ ((sort_at bs i ≡ Sort.Path) × By mine i v)
              back (inl (inl a)) = inl a
              back (inl (inr (u, (m, lead)))) = inr (ap sort_of fork, (u, (m, (clause u v).1 (inl lead))))
              back (inr (u, (m, lead))) = inr (ap sort_of fork, (u, (m, (clause u v).1 (inr lead))))

    -- the sweep as a whole
    module _ (r : ℕ) (u : NodeOf F) (narrow : F.size ≤ width) where
      begun_has : table_bytes (r + 1) ≤ pending_bytes → (i w : ℕ) → (has (set_at (begun r u.0) i) w ≡ true) ↔ ((i ≡ r) × (w ≡ u.0))
      begun_has long i w = go (eqb i r) refl
        where
          fits : u.0 < width
          fits = lt_of_lt_of_le u.1 narrow

          enough : table_bytes (r + 1) ≤ length {A = ℕ} (replicate pending_bytes 0)
          enough = rw (length-replicate {A = ℕ} pending_bytes 0) long

          at_r : has (set_at (begun r u.0) r) w ≡ eqb w u.0
          at_r = put_same (replicate pending_bytes 0) r (only u.0) enough w ∙ has_only u.0 w fits

          go : (b : Bool) → eqb i r ≡ b → (has (set_at (begun r u.0) i) w ≡ true) ↔ ((i ≡ r) × (w ≡ u.0))
          go true h =
              let e = eqb-true i r h in (
                λ m. (e, eqb-true w u.0 (sym at_r ∙ subst (λ (k : ℕ). has (set_at (begun r u.0) k) w ≡ true) e m)),
                λ p. subst (λ (k : ℕ). has (set_at (begun r u.0) k) w ≡ true) (sym e) (at_r ∙ eq-eqb w u.0 p.1),
              )
          go false h =
              let ne = eqb-false i r h in
              let none : has (set_at (begun r u.0) i) w ≡ false =
              subst (λ (t : NodeSet). has t w ≡ false) (sym (put_other (replicate pending_bytes 0) r i (only u.0) ne)) (has_zeros pending_bytes i w) in
              (λ m. absurd (false≢true (sym none ∙ m)), λ p. absurd (ne p.0))

      pub swept_none : EarlierPath bs n r → Swept r u (begun r u.0) (entries_swept r)
      swept_none earlier =
          record {
            all_inside = λ i w h. subst (λ (x : ℕ). x < F.size) (sym ((new i w).0 h).1) u.1;
            ends_are = λ v. (start earlier v, λ h. back v earlier h);
          }
        where
          new : (i w : ℕ) → (has (set_at (begun r u.0) i) w ≡ true) ↔ ((i ≡ r) × (w ≡ u.0))
          new i w = begun_has (reference_fits valid r earlier) i w

          start : EarlierPath bs n r → (v : NodeOf F) → Leading F ok bs r u v → Reached (begun r u.0) (entries_swept r) v
          start (inl e) v lead =
              let same = (end_leads valid F ok u v).0 (subst (λ (k : ℕ). Leading F ok bs k u v) e lead) in
              inl ((new end_of_path v.0).1 (sym e, ap (λ (w : NodeOf F). w.0) (sym same)))
          start (inr (l, p)) v lead =
              let no_end : r ≡ end_of_path → ⊥ = λ e. omega (arith, l, valid.header.one_byte, valid.count_is) in
              inr (r, (rw (ne_eqb r end_of_path no_end) (lt-suc_self r), p, (u, ((new r u.0).1 (refl, refl), lead))))

          back : (v : NodeOf F) → EarlierPath bs n r → Reached (begun r u.0) (entries_swept r) v → Leading F ok bs r u v
          back v earlier (inl h) =
              let m = (new end_of_path v.0).0 h in
              subst (λ (k : ℕ). Leading F ok bs k u v) m.0 ((end_leads valid F ok u v).1 (node_same F (sym m.1)))
          back v earlier (inr (i, (l, p, (w, (h, lead))))) =
              let m = (new i w.0).0 h in
              subst (λ (x : NodeOf F). Leading F ok bs r x v) (node_same F m.1) (subst (λ (k : ℕ). Leading F ok bs k w v) m.0 lead)
