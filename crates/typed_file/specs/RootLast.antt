-- "the root is last": where completing a tree adds entries, the last of them is its own.
-- Assumes nothing.
use Rattle.std.specs.Prelude.{◌≡◌, refl, ◌⊎◌, List, [], ◌∷◌, ℕ, suc, ◌≤◌, ◌<◌, length}
use Rattle.std.proofs.Common.{sym, ◌∙◌, ap, inl, inr, arith, length-append}
use Rattle.pattern.specs.declared.table.Sort.{Sort}
use Rattle.pattern.specs.declared.table.Field.{Field}
use Rattle.pattern.specs.declared.table.Form.{Form}
use Rattle.pattern.specs.File.Table.{kind_of, form_of}
use Rattle.pattern.specs.File.Entries.{max_entries}
use Rattle.typed_file.specs.Trees.{Tree, tree, Part, number, entry}
use Rattle.typed_file.specs.Entries.{Entry, Found, at, nowhere, find_from, placed, complete, complete_part, entries_of}
use Rattle.typed_file.specs.Completion.{Stands, FoundSays, found_says, completes, part_grows, placed_grows}
use Rattle.typed_file.specs.Formed.{Refers, Formed, PartOk}
use Rattle.typed_file.specs.ValidEntries.{Known, RefersBack, ValidEntries, at_below, known, part_valid}

-- completing from es to fs added nothing, or what was completed is the last, at v
abbrev Last : List Entry → List Entry → ℕ → Type 0
Last es fs v = (fs ≡ es) ⊎ (suc v ≡ length fs)

-- the same of a part in a field: each entry that refers to it stands behind all
abbrev LastPart : List Entry → List Entry → Field → ℕ → Type 0
LastPart es fs F v =
    (fs ≡ es) ⊎ ((gs : List Entry) (i : ℕ) → RefersBack gs i F v → length fs ≤ i)

-- a reference to an entry that a file can have leads back
leads_back : (F : Field) (P : Sort → Type 0) (gs : List Entry) (i v : ℕ) → Refers F P → v < max_entries → RefersBack gs i F v → v < i
leads_back Field.Unused P gs i v ok l h = absurd ok
leads_back Field.Property P gs i v ok l h = absurd ok
leads_back Field.Name P gs i v ok l h = absurd ok
leads_back Field.Axis P gs i v ok l h = absurd ok
leads_back Field.Channel P gs i v ok l h = absurd ok
leads_back Field.Node P gs i v ok l h = h.0
leads_back Field.Path P gs i v ok l (inl e) = omega arith
leads_back Field.Path P gs i v ok l (inr h) = h.0

part_last : (F : Field) (t : Tree) (es : List Entry) → PartOk F (entry t) → length (complete t es).entries ≤ max_entries
    → Last es (complete t es).entries (complete t es).at → LastPart es (complete t es).entries F (complete t es).at
part_last F t es ok few (inl e) = inl e
part_last F t es ok few (inr e) =
    inr (λ gs i h. let l = leads_back F (λ s. Formed s t) gs i (complete t es).at ok (omega arith) h in omega arith)

-- an entry that is found among hs stands before the last, so no part of it added anything
module _ (es fs gs hs : List Entry) (k x y z : ℕ) (valid : ValidEntries hs) where
  abbrev e : Entry
  e = record { kind = k; x = x; y = y; z = z }

  abbrev form : Form
  form = form_of (kind_of k)

  own_last : LastPart es fs form.x x → LastPart fs gs form.y y → LastPart gs hs form.z z
      → (g : Found) → FoundSays hs e 0 g → Last es (placed g e hs).entries (placed g e hs).at
  own_last p q r (at i) (j, (same, h)) = inl (none r q p)
    where
      below : j < length hs
      below = at_below hs j e h

      none : LastPart gs hs form.z z → LastPart fs gs form.y y → LastPart es fs form.x x → hs ≡ es
      none (inr behind) q p = absurd (omega (arith, below, behind hs j (valid j e h).refers.2))
      none (inl c) (inr behind) p = absurd (omega (arith, below, behind hs j (valid j e h).refers.1, ap length c))
      none (inl c) (inl b) (inr behind) = absurd (omega (arith, below, behind hs j (valid j e h).refers.0, ap length c, ap length b))
      none (inl c) (inl b) (inl a) = c ∙ (b ∙ a)
  own_last p q r nowhere s = inr (sym (length-append hs (e ∷ []) ∙ omega arith))

mutual
  complete_last : {s : Sort} (t : Tree) (es : List Entry) → Known s → Formed s t → ValidEntries es
      → length (complete t es).entries ≤ max_entries → Last es (complete t es).entries (complete t es).at
  complete_last (tree k a b c) es of ok valid few =
      let p = complete_part a es in
      let q = complete_part b p.entries in
      let r = complete_part c q.entries in
      let e : Entry = record { kind = k; x = p.at; y = q.at; z = r.at } in
      let form = form_of (kind_of k) in
      let valid_p = part_valid form.x a es ok.1 valid in
      let valid_q = part_valid form.y b p.entries ok.2 valid_p in
      let valid_r = part_valid form.z c q.entries ok.3 valid_q in
      let few_r : length r.entries ≤ max_entries = omega (arith, placed_grows e r.entries) in
      let few_q : length q.entries ≤ max_entries = omega (arith, part_grows c q.entries) in
      let few_p : length p.entries ≤ max_entries = omega (arith, part_grows b p.entries) in
      own_last es p.entries q.entries r.entries k p.at q.at r.at valid_r (field_last form.x a es ok.1 valid few_p)
      (field_last form.y b p.entries ok.2 valid_p few_q) (field_last form.z c q.entries ok.3 valid_q few_r)
      (find_from r.entries e 0) (found_says r.entries e 0)

  field_last : (F : Field) (a : Part) (es : List Entry) → PartOk F a → ValidEntries es
      → length (complete_part a es).entries ≤ max_entries → LastPart es (complete_part a es).entries F (complete_part a es).at
  field_last F (number n) es ok valid few = inl refl
  field_last F (entry t) es ok valid few =
      let h = known F (λ s. Formed s t) ok in
      part_last F t es ok few (complete_last t es h.1.0 h.1.1 valid few)

none_stands : (t : Tree) (i : ℕ) → Stands [] t i → ⊥
none_stands (tree k a b c) i h = h.1.1.1.3

-- the root's number is the last, which is one less than there are entries
pub root_last : {s : Sort} (t : Tree) → Known s → Formed s t → length (entries_of t) ≤ max_entries
    → suc (complete t []).at ≡ length (entries_of t)
root_last t of ok few = go (complete_last t [] of ok (λ i e h. absurd h) few)
  where
    go : Last [] (entries_of t) (complete t []).at → suc (complete t []).at ≡ length (entries_of t)
    go (inl e) = absurd (none_stands t (complete t []).at (rw e at (completes t []).0))
    go (inr e) = e
