-- What was learned: of a node entry its set, in the area, and of a path its rows, in a slot. What the marks say stays so when a slot is taken
-- from its path, when its rows change, and when an entry is marked.
-- Assumes nothing.
use Rattle.std.specs.Prelude.{◌≡◌, refl, Bool, true, false, not, ◌⊎◌, ◌↔◌, List, ℕ, ◌+◌, ◌-◌, ◌≤◌, ◌<◌, eqb, length, get_or, set, replicate}
use Rattle.std.proofs.Common.{sym, ◌∙◌, ap, subst, inl, inr, mul-zero, zero-add, arith, length-set, get_or-set_same, get_or-set_other, eqb-true, eq-eqb}
use Rattle.std.proofs.lemmas.Bool.{false≢true, eqb-false}
use Rattle.std.proofs.lemmas.List.{length-replicate, get_or-replicate}
use Rattle.nodeset.specs.declared.NodeSet.{NodeSet}
use Rattle.nodeset.specs.Set.{has}
use Rattle.nodeset.specs.Stored.{set_at, put, length_put, put_other}
use Rattle.pattern.specs.declared.table.Sort.{Sort}
use Rattle.pattern.specs.File.Table.{end_of_path, is_node, path_no_node, sort_no_node}
use Rattle.pattern.specs.File.Reading.{count_of, sort_at}
use Rattle.pattern.specs.Logic.Finite.{NodeOf, node_same}
use Rattle.decision.proofs.Root.{root_holds_law}
use Rattle.relations.specs.Filled.{exactly_put}
use Rattle.relations.specs.Covered.{RowsFit}
use Rattle.evaluation.specs.Standing.{Leading, Lent, Standing, Evaluates, Ends, RootNodes}
use Rattle.slots.specs.Area.{place_of, area_bytes, set_room, places_differ}
use Rattle.slots.specs.declared.marks.Marks.{Marks}
use Rattle.slots.specs.Marks.{mark_of, tag_of, tag_for, unmarked, marked, tagged, is_known, is_held, first_row, PathOf, IsFree, MayHold, slots_apart}
use Rattle.evaluation.specs.Entries.{end_leads}
use Rattle.evaluation.specs.Evaluated.{lent_valid}

-- the set of a node entry in the area: its mark tells the place
pub record Stored (bs table alike : List ℕ) (n : ℕ) (area : List ℕ) (k mark : ℕ) : Type 0 where
  pub place_is : mark ≡ place_of bs k + 1
  pub set_is : Evaluates bs table alike n k (set_at area (place_of bs k))

-- the rows of a path in a slot: there is room for them, and each has the ends from its node
pub record Rowed (bs table alike : List ℕ) (n : ℕ) (rows : List ℕ) (path slot : ℕ) : Type 0 where
  pub fits : RowsFit rows n (first_row n slot)
  pub ends : (u : ℕ) → u < n → Ends bs table alike n path u (set_at rows (first_row n slot + u))

-- what the marks say is so; slot 0 is that of the end of path
pub record Learned (bs table alike : List ℕ) (n : ℕ) (area rows : List ℕ) (marks : Marks) : Type 0 where
  pub area_long : area_bytes bs ≤ length area
  pub sets : (k : ℕ) → k < count_of bs → sort_at bs k ≡ Sort.Node → is_known marks k ≡ true → Stored bs table alike n area k (mark_of marks k)
  pub marks_long : end_of_path < length marks.marks
  pub tags_long : end_of_path < length marks.tags
  pub end_slot : mark_of marks end_of_path ≡ 0
  pub held : (path : ℕ) → PathOf bs path → is_held marks path ≡ true → Rowed bs table alike n rows path (mark_of marks path)

-- ---- laws
module _ {bs table alike : List ℕ} {n : ℕ} (lent : Lent bs table alike n) where
  -- an entry that is no node is a path
  pub not_node_path : (k : ℕ) → k < count_of bs → is_node (sort_at bs k) ≡ false → sort_at bs k ≡ Sort.Path
  not_node_path k l never = which ((lent_valid lent).entries k l).sorted
    where
      which : (sort_at bs k ≡ Sort.Node) ⊎ (sort_at bs k ≡ Sort.Path) → sort_at bs k ≡ Sort.Path
      which (inl e) = absurd (sort_no_node (sort_at bs k) never e)
      which (inr e) = e

  -- a reference to a path is a byte
  path_small : (path : ℕ) → PathOf bs path → path ≤ end_of_path
  path_small path (inl e) = omega (arith, e)
  path_small path (inr h) = omega (arith, h.0, (lent_valid lent).header.one_byte)

  -- a path is no node
  path_not_node : (path k : ℕ) → k < count_of bs → PathOf bs path → sort_at bs k ≡ Sort.Node → path ≡ k → ⊥
  path_not_node path k l (inl e) node same = omega (arith, e, same, l, (lent_valid lent).header.one_byte)
  path_not_node path k l (inr h) node same =
      path_no_node (sym (subst (λ (j : ℕ). sort_at bs j ≡ Sort.Path) same h.1) ∙ node)

  -- the root is the last entry: where it holds is what its set has
  pub root_known : (s : NodeSet) → Evaluates bs table alike n (count_of bs - 1) s → RootNodes bs table alike n s
  root_known s set w u = root_holds_law bs w.model w.named u (has s u) (set w u)

  -- rows that are the same in a slot are those of the same path
  rowed_kept : (rows rows' : List ℕ) (path slot : ℕ) → length rows' ≡ length rows
      → ((u : ℕ) → u < n → set_at rows' (first_row n slot + u) ≡ set_at rows (first_row n slot + u)) → Rowed bs table alike n rows path slot
      → Rowed bs table alike n rows' path slot
  rowed_kept rows rows' path slot long same r =
      record {
        fits = rw long r.fits;
        ends = λ u l. subst (Ends bs table alike n path u) (sym (same u l)) (r.ends u l);
      }

  -- nothing is learned at first but the ends of the end of path, in slot 0
  pub learned_first : (area rows : List ℕ) (m : ℕ) → end_of_path < m → area_bytes bs ≤ length area → RowsFit rows n 0
      → ((u : ℕ) → u < n → (v : ℕ) → (has (set_at rows u) v ≡ true) ↔ (v ≡ u)) → Learned bs table alike n area rows (unmarked m)
  learned_first area rows m long area_long fits selves =
      record {
        area_long = area_long;
        marks_long = rw (length-replicate {A = ℕ} m 0) long;
        tags_long = rw (length-replicate {A = ℕ} m 0) long;
        sets = λ k l node known. absurd (not_first k l known);
        end_slot = zero end_of_path (omega (arith, long));
        held = λ path is_path_law h. subst (Rowed bs table alike n rows path) (sym (zero path (omega (arith, path_small path is_path_law, long)))) (end path is_path_law h);
      }
    where
      zero : (i : ℕ) → i < m → ◌≡◌ {A = ℕ} (get_or (replicate m 0) i 0) 0
      zero i l = get_or-replicate m i 0 0 l

      not_first : (k : ℕ) → k < count_of bs → is_known (unmarked m) k ≡ true → ⊥
      not_first k l known = false≢true (sym (ap not (eq-eqb _ _ (zero k (omega (arith, l, (lent_valid lent).header.one_byte, long))))) ∙ known)

      from_self : (w : Standing bs table alike n) (u : ℕ) (l : u < w.model.size) (v : ℕ)
          → (has (set_at rows u) v ≡ true) ↔ ((k : v < w.model.size) × Leading w.model w.named bs end_of_path (u, l) (v, k))
      from_self w u l v =
          let own = selves u (subst (λ (s : ℕ). u < s) w.size_is l) v in (
            λ h.
                let e = own.0 h in
                let k : v < w.model.size = subst (λ (x : ℕ). x < w.model.size) (sym e) l in
                (k, (end_leads (lent_valid lent) w.model w.named (u, l) (v, k)).1 (node_same w.model (sym e))),
            λ h. own.1 (sym (ap (λ (x : NodeOf w.model). x.0) ((end_leads (lent_valid lent) w.model w.named (u, l) (v, h.0)).0 h.1))),
          )

      in_first : Rowed bs table alike n rows end_of_path 0
      in_first =
          record {
            fits = rw (mul-zero n) fits;
            ends = λ u b w l v. subst (λ (i : ℕ). (has (set_at rows i) v ≡ true) ↔ ((k : v < w.model.size) × Leading w.model w.named bs end_of_path (u, l) (v, k))) (sym (ap (λ (i : ℕ). i + u) (mul-zero n) ∙ zero-add u)) (from_self w u l v);
          }

      end : (path : ℕ) → PathOf bs path → is_held (unmarked m) path ≡ true → Rowed bs table alike n rows path 0
      end path is_path_law h =
          let small = path_small path is_path_law in
          let first = zero path (omega (arith, small, long)) in
          let tag : tag_of (unmarked m) (mark_of (unmarked m) path) ≡ tag_for path = eqb-true _ _ h in
          let none : tag_of (unmarked m) (mark_of (unmarked m) path) ≡ 0 = zero _ (omega (arith, first, long)) in
          let same : end_of_path ≡ path = omega (arith, tag, none, small) in
          subst (λ (p : ℕ). Rowed bs table alike n rows p 0) same in_first

  module _ {area rows : List ℕ} {marks : Marks} (known : Learned bs table alike n area rows marks) where
    -- a node entry whose mark stays has its set as before
    stored_kept : {mark : ℕ} (k : ℕ) → k < count_of bs → sort_at bs k ≡ Sort.Node → mark ≡ mark_of marks k → not (eqb mark 0) ≡ true
        → Stored bs table alike n area k mark
    stored_kept k l node same is_marked =
        subst (Stored bs table alike n area k) (sym same) (known.sets k l node (subst (λ (x : ℕ). not (eqb x 0) ≡ true) same is_marked))

    -- ---- a slot that is taken from its path
    module _ (slot : ℕ) (may : MayHold slot) where
      taken_mark : (i : ℕ) → mark_of (tagged marks slot end_of_path) i ≡ mark_of marks i
      taken_mark i = refl

      -- whoever is held then was held before, in another slot
      held_before : (path : ℕ) → PathOf bs path → is_held (tagged marks slot end_of_path) path ≡ true
          → (is_held marks path ≡ true) × (mark_of marks path ≡ slot → ⊥)
      held_before path is_path_law h = go (eqb (mark_of marks path) slot) refl
        where
          small : path ≤ end_of_path
          small = path_small path is_path_law

          tag : tag_of (tagged marks slot end_of_path) (mark_of marks path) ≡ tag_for path
          tag = eqb-true _ _ h

          go : (b : Bool) → eqb (mark_of marks path) slot ≡ b → (is_held marks path ≡ true) × (mark_of marks path ≡ slot → ⊥)
          go true e =
              let here = eqb-true (mark_of marks path) slot e in
              let none : tag_of (tagged marks slot end_of_path) (mark_of marks path) ≡ 0 =
              rw here (get_or-set_same marks.tags slot 0 0 (omega (arith, may.1, known.tags_long))) in
              let end : path ≡ end_of_path = omega (arith, tag, none, small) in
              let zero : mark_of marks path ≡ 0 = ap (mark_of marks) end ∙ known.end_slot in
              absurd (omega (arith, here, zero, may.0))
          go false e =
              let other = eqb-false (mark_of marks path) slot e in
              let same : tag_of (tagged marks slot end_of_path) (mark_of marks path) ≡ tag_of marks (mark_of marks path) =
              get_or-set_other marks.tags slot (mark_of marks path) 0 0 (λ q. other (omega (arith, q))) in
              (eq-eqb _ _ (sym same ∙ tag), other)

      pub learned_taken : Learned bs table alike n area rows (tagged marks slot end_of_path)
      learned_taken =
          record {
            area_long = known.area_long;
            marks_long = known.marks_long;
            tags_long = rw (length-set marks.tags slot 0) known.tags_long;
            sets = known.sets;
            end_slot = known.end_slot;
            held = λ path is_path_law h. known.held path is_path_law (held_before path is_path_law h).0;
          }

      pub taken_free : IsFree bs (tagged marks slot end_of_path) slot
      taken_free path is_path_law h e = (held_before path is_path_law h).1 e

    -- ---- other rows in a slot that no path has
    learned_rows : (slot : ℕ) → IsFree bs marks slot → (rows' : List ℕ) → length rows' ≡ length rows
        → ((i : ℕ) → ((u : ℕ) → u < n → i ≡ first_row n slot + u → ⊥) → set_at rows' i ≡ set_at rows i) → Learned bs table alike n area rows' marks
    learned_rows slot free rows' long rest =
        record {
          area_long = known.area_long;
          marks_long = known.marks_long;
          tags_long = known.tags_long;
          sets = known.sets;
          end_slot = known.end_slot;
          held = λ path is_path_law h.
              rowed_kept rows rows' path (mark_of marks path) long
              (λ u l. rest (first_row n (mark_of marks path) + u) (λ v m. slots_apart n (mark_of marks path) slot (free path is_path_law h) u v l m))
              (known.held path is_path_law h);
        }

    -- ---- a path whose rows are in a slot that no path has
    learned_path : (k slot : ℕ) → k < count_of bs → sort_at bs k ≡ Sort.Path → MayHold slot → IsFree bs marks slot
        → Rowed bs table alike n rows k slot → Learned bs table alike n area rows (tagged (marked marks k slot) slot k)
    learned_path k slot l is_path_k may free rowed =
        record {
          area_long = known.area_long;
          marks_long = rw (length-set marks.marks k slot) known.marks_long;
          tags_long = rw (length-set marks.tags slot (tag_for k)) known.tags_long;
          sets = λ j m node is_marked.
              stored_kept j m node (mark_other j (λ e. path_no_node (sym (subst (λ (i : ℕ). sort_at bs i ≡ Sort.Path) (sym e) is_path_k) ∙ node))) is_marked;
          end_slot = mark_other end_of_path (λ e. omega (arith, e, l, few)) ∙ known.end_slot;
          held = λ path is_path_law h. which path is_path_law h (eqb path k) refl;
        }
      where
        few : count_of bs ≤ end_of_path
        few = (lent_valid lent).header.one_byte

        -- the marks are as they were but for that of k, which is the slot
        mark_other : (i : ℕ) → (i ≡ k → ⊥) → mark_of (tagged (marked marks k slot) slot k) i ≡ mark_of marks i
        mark_other i differ = get_or-set_other marks.marks k i slot 0 differ

        mark_own : mark_of (tagged (marked marks k slot) slot k) k ≡ slot
        mark_own = get_or-set_same marks.marks k slot 0 (omega (arith, l, few, known.marks_long))

        tag_own : tag_of (tagged (marked marks k slot) slot k) slot ≡ tag_for k
        tag_own = get_or-set_same marks.tags slot (tag_for k) 0 (omega (arith, may.1, known.tags_long))

        which : (path : ℕ) → PathOf bs path → is_held (tagged (marked marks k slot) slot k) path ≡ true → (b : Bool) → eqb path k ≡ b
            → Rowed bs table alike n rows path (mark_of (tagged (marked marks k slot) slot k) path)
        which path is_path_law h true e =
            subst (λ (p : ℕ). Rowed bs table alike n rows p (mark_of (tagged (marked marks k slot) slot k) p)) (sym (eqb-true path k e))
            (subst (Rowed bs table alike n rows k) (sym mark_own) rowed)
        which path is_path_law h false e =
            subst (Rowed bs table alike n rows path) (sym mark)
            (known.held path is_path_law (go (eqb (mark_of marks path) slot) refl))
          where
            small : path ≤ end_of_path
            small = path_small path is_path_law

            mark : mark_of (tagged (marked marks k slot) slot k) path ≡ mark_of marks path
            mark = mark_other path (eqb-false path k e)

            tag : tag_of (tagged (marked marks k slot) slot k) (mark_of marks path) ≡ tag_for path
            tag = subst (λ (s : ℕ). tag_of (tagged (marked marks k slot) slot k) s ≡ tag_for path) mark (eqb-true _ _ h)

            go : (b : Bool) → eqb (mark_of marks path) slot ≡ b → is_held marks path ≡ true
            go true q =
                let here = eqb-true (mark_of marks path) slot q in
                let both : tag_for k ≡ tag_for path =
                sym tag_own ∙ subst (λ (s : ℕ). tag_of (tagged (marked marks k slot) slot k) s ≡ tag_for path) here tag in
                absurd (eqb-false path k e (omega (arith, both, small, l, few)))
            go false q =
                let other = eqb-false (mark_of marks path) slot q in
                let same : tag_of (tagged (marked marks k slot) slot k) (mark_of marks path) ≡ tag_of marks (mark_of marks path) =
                get_or-set_other marks.tags slot (mark_of marks path) (tag_for k) 0 (λ z. other (omega (arith, z))) in
                eq-eqb _ _ (sym same ∙ tag)

    -- ---- a node entry whose set is in the area
    pub learned_node : (k : ℕ) (s : NodeSet) → k < count_of bs → sort_at bs k ≡ Sort.Node → Evaluates bs table alike n k s
        → Learned bs table alike n (put area (place_of bs k) s) rows (marked marks k (place_of bs k + 1))
    learned_node k s l node set_of_k =
        record {
          area_long = rw (length_put area (place_of bs k) s) known.area_long;
          marks_long = rw (length-set marks.marks k (place_of bs k + 1)) known.marks_long;
          tags_long = known.tags_long;
          sets = λ j m is_node_law is_marked. which j m is_node_law is_marked (eqb j k) refl;
          end_slot = mark_other end_of_path (λ e. omega (arith, e, l, (lent_valid lent).header.one_byte)) ∙ known.end_slot;
          held = λ path is_path_law h.
              subst (Rowed bs table alike n rows path) (sym (mark_other path (path_not_node path k l is_path_law node)))
              (known.held path is_path_law (still path is_path_law h));
        }
      where
        after : Marks
        after = marked marks k (place_of bs k + 1)

        mark_other : (i : ℕ) → (i ≡ k → ⊥) → mark_of after i ≡ mark_of marks i
        mark_other i differ = get_or-set_other marks.marks k i (place_of bs k + 1) 0 differ

        still : (path : ℕ) → PathOf bs path → is_held after path ≡ true → is_held marks path ≡ true
        still path is_path_law h =
            let tag : tag_of after (mark_of after path) ≡ tag_for path = eqb-true _ _ h in
            eq-eqb _ _
            (subst (λ (x : ℕ). tag_of after x ≡ tag_for path) (mark_other path (path_not_node path k l is_path_law node)) tag)

        own : Stored bs table alike n (put area (place_of bs k) s) k (mark_of after k)
        own =
            record {
              place_is = get_or-set_same marks.marks k (place_of bs k + 1) 0 (omega (arith, l, (lent_valid lent).header.one_byte, known.marks_long));
              set_is = λ w. exactly_put _ area (place_of bs k) s (set_room bs area known.area_long k l node) (set_of_k w);
            }

        which : (j : ℕ) → j < count_of bs → sort_at bs j ≡ Sort.Node → is_known after j ≡ true → (b : Bool) → eqb j k ≡ b
            → Stored bs table alike n (put area (place_of bs k) s) j (mark_of after j)
        which j m is_node_law is_marked true e =
            subst (λ (i : ℕ). Stored bs table alike n (put area (place_of bs k) s) i (mark_of after i)) (sym (eqb-true j k e)) own
        which j m is_node_law is_marked false e =
            let other = eqb-false j k e in
            let before = stored_kept j m is_node_law (mark_other j other) is_marked in
            record {
              place_is = before.place_is;
              set_is = subst (Evaluates bs table alike n j) (sym (put_other area (place_of bs k) (place_of bs j) s (places_differ bs j k is_node_law node other))) before.set_is;
            }

  -- ---- a slot that is taken from its path and has other rows, which may be those of path k
  module _ {area rows : List ℕ} {marks : Marks} (known : Learned bs table alike n area rows marks) (slot : ℕ) (may : MayHold slot) (rows' : List ℕ)
      (long : length rows' ≡ length rows) (rest : (i : ℕ) → ((u : ℕ) → u < n → i ≡ first_row n slot + u → ⊥) → set_at rows' i ≡ set_at rows i) where
    pub learned_lost : Learned bs table alike n area rows' (tagged marks slot end_of_path)
    learned_lost = learned_rows (learned_taken known slot may) slot (taken_free known slot may) rows' long rest

    pub learned_filled : (k : ℕ) → k < count_of bs → sort_at bs k ≡ Sort.Path → RowsFit rows n (first_row n slot)
        → ((u : ℕ) → u < n → Ends bs table alike n k u (set_at rows' (first_row n slot + u)))
        → Learned bs table alike n area rows' (tagged (marked (tagged marks slot end_of_path) k slot) slot k)
    learned_filled k l path fits ends =
        learned_path learned_lost k slot l path may (taken_free known slot may) (record { fits = rw long fits; ends = ends })
