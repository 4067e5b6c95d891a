-- Entries that meet 01's checks of kind, fields and references, among the entries before them: completing a tree that is formed by the
-- table keeps them so.
-- Assumes nothing.
use Rattle.std.specs.Prelude.{◌≡◌, refl, ◌⊎◌, List, [], ◌∷◌, ◌++◌, ℕ, zero, suc, ◌<◌, length}
use Rattle.std.proofs.Common.{sym, subst, inl, inr, arith}
use Rattle.pattern.specs.declared.table.Sort.{Sort}
use Rattle.pattern.specs.declared.table.Field.{Field}
use Rattle.pattern.specs.declared.entry.Entry as pattern
use Rattle.pattern.specs.File.Table.{end_of_path, kind_of, sort_of, form_of}
use Rattle.pattern.specs.File.Fields.{OfFields, OfReference, map_references}
use Rattle.pattern.specs.File.Valid.{Within}
use Rattle.typed_file.specs.Trees.{Tree, tree, Part, number, entry}
use Rattle.typed_file.specs.Entries.{Entry, Found, at, nowhere, find_from, placed, place, complete, complete_part}
use Rattle.typed_file.specs.Completion.{At, PartIs, at_more, at_split, parts_stand}
use Rattle.typed_file.specs.Formed.{Refers, Formed, PartOk}

-- the entry as a pattern is read: its kind by the table, and its fields
abbrev pub as_read : Entry → pattern.Entry
as_read e = record { kind = kind_of e.kind; x = e.x; y = e.y; z = e.z }

abbrev pub Known : Sort → Type 0
Known s = (s ≡ Sort.Node) ⊎ (s ≡ Sort.Path)

-- entry v is of this sort and stands before entry i
abbrev pub Earlier : List Entry → ℕ → Sort → ℕ → Type 0
Earlier es i s v = (v < i) × ((e : Entry) × (At es v e × (sort_of (kind_of e.kind) ≡ s)))

abbrev pub EarlierOrEnd : List Entry → ℕ → ℕ → Type 0
EarlierOrEnd es i v = (v ≡ end_of_path) ⊎ Earlier es i Sort.Path v

-- a field of entry i, if it is a reference, is an earlier entry of the wanted sort, or the end of path
abbrev pub RefersBack : List Entry → ℕ → Field → ℕ → Type 0
RefersBack es i = OfReference (Earlier es i Sort.Node) (EarlierOrEnd es i)

-- e, as entry i, meets the checks 4 to 6
pub record ValidAt (es : List Entry) (i : ℕ) (e : Entry) : Type 0 where
  pub sorted : Known (sort_of (kind_of e.kind))
  pub within : OfFields Within (as_read e)
  pub refers : OfFields (RefersBack es i) (as_read e)

abbrev pub ValidEntries : List Entry → Type 0
ValidEntries es = (i : ℕ) (e : Entry) → At es i e → ValidAt es i e

-- ---- laws
pub at_below : (es : List Entry) (i : ℕ) (e : Entry) → At es i e → i < length es
at_below [] i e h = absurd h
at_below (f ∷ es) zero e h = omega arith
at_below (f ∷ es) (suc i) e h = let l = at_below es i e h in omega arith

-- what a field refers to is of a known sort
pub known : (F : Field) (P : Sort → Type 0) → Refers F P → (s : Sort) × (Known s × P s)
known Field.Unused P h = absurd h
known Field.Property P h = absurd h
known Field.Name P h = absurd h
known Field.Axis P h = absurd h
known Field.Channel P h = absurd h
known Field.Node P h = (Sort.Node, (inl refl, h))
known Field.Path P h = (Sort.Path, (inr refl, h))

valid_more : (es fs : List Entry) (i : ℕ) (e : Entry) → ValidAt es i e → ValidAt (es ++ fs) i e
valid_more es fs i e h =
    record { sorted = h.sorted; within = h.within; refers = map_references (earlier Sort.Node) or_the_end (as_read e) h.refers }
  where
    earlier : (s : Sort) (v : ℕ) → Earlier es i s v → Earlier (es ++ fs) i s v
    earlier s v h = (h.0, (h.1.0, (at_more es fs v h.1.0 h.1.1.0, h.1.1.1)))

    or_the_end : (v : ℕ) → EarlierOrEnd es i v → EarlierOrEnd (es ++ fs) i v
    or_the_end v (inl h) = inl h
    or_the_end v (inr h) = inr (earlier Sort.Path v h)

placed_valid : (e : Entry) (es : List Entry) → ValidEntries es → ValidAt es (length es) e → ValidEntries (place e es).entries
placed_valid e es old new = go (find_from es e 0)
  where
    go : (g : Found) → ValidEntries (placed g e es).entries
    go (at i) = old
    go nowhere = λ i f h. either i f (at_split es e f i h)
      where
        either : (i : ℕ) (f : Entry) → At es i f ⊎ ((i ≡ length es) × (e ≡ f)) → ValidAt (es ++ (e ∷ [])) i f
        either i f (inl h) = valid_more es (e ∷ []) i f (old i f h)
        either i f (inr (p, q)) = rw (p, ← q) (valid_more es (e ∷ []) (length es) e new)

-- what a field holds is in its range and refers to what stands
module _ (es : List Entry) where
  stands_sorted : (s : Sort) (t : Tree) (v : ℕ) → Formed s t → PartIs es (entry t) v → Earlier es (length es) s v
  stands_sorted s (tree k a b c) v ok (x, (y, (z, (p, q, r, h)))) = (at_below es v _ h, (_, (h, ok.0)))

  part_holds : (F : Field) (a : Part) (v : ℕ) → PartOk F a → PartIs es a v → Within F v × RefersBack es (length es) F v
  part_holds F (number n) v ok h = rw h (holds F ok)
    where
      holds : (F : Field) → PartOk F (number n) → Within F n × RefersBack es (length es) F n
      holds Field.Unused ok = (ok.0, tt)
      holds Field.Property ok = (ok.0, tt)
      holds Field.Name ok = (ok.0, tt)
      holds Field.Axis ok = (ok.0, tt)
      holds Field.Channel ok = (ok.0, tt)
      holds Field.Node ok = absurd ok.1
      holds Field.Path ok = (tt, inl ok.1)
  part_holds Field.Unused (entry t) v ok h = absurd ok
  part_holds Field.Property (entry t) v ok h = absurd ok
  part_holds Field.Name (entry t) v ok h = absurd ok
  part_holds Field.Axis (entry t) v ok h = absurd ok
  part_holds Field.Channel (entry t) v ok h = absurd ok
  part_holds Field.Node (entry t) v ok h = (tt, stands_sorted Sort.Node t v ok h)
  part_holds Field.Path (entry t) v ok h = (tt, inr (stands_sorted Sort.Path t v ok h))

mutual
  pub complete_valid : {s : Sort} (t : Tree) (es : List Entry) → Known s → Formed s t → ValidEntries es
      → ValidEntries (complete t es).entries
  complete_valid (tree k a b c) es of ok valid =
      let p = complete_part a es in
      let q = complete_part b p.entries in
      let r = complete_part c q.entries in
      let form = form_of (kind_of k) in
      let stand = parts_stand a b c es in
      let x = part_holds r.entries form.x a p.at ok.1 stand.0 in
      let y = part_holds r.entries form.y b q.at ok.2 stand.1 in
      let z = part_holds r.entries form.z c r.at ok.3 stand.2 in
      placed_valid (record { kind = k; x = p.at; y = q.at; z = r.at }) r.entries
      (part_valid form.z c q.entries ok.3 (part_valid form.y b p.entries ok.2 (part_valid form.x a es ok.1 valid)))
      (record { sorted = subst Known (sym ok.0) of; within = (x.0, y.0, z.0); refers = (x.1, y.1, z.1) })

  pub part_valid : (F : Field) (a : Part) (es : List Entry) → PartOk F a → ValidEntries es → ValidEntries (complete_part a es).entries
  part_valid F (number n) es ok valid = valid
  part_valid F (entry t) es ok valid =
      let h = known F (λ s. Formed s t) ok in
      complete_valid t es h.1.0 h.1.1 valid
