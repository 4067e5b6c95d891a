-- The file of a text is a valid pattern file.
-- Assumes nothing.
use Rattle.std.specs.Prelude.{◌≡◌, refl, Bool, false, List, [], ◌∷◌, ℕ, zero, suc, ◌+◌, ◌-◌, ◌*◌, ◌≤◌, ◌<◌, length}
use Rattle.std.proofs.Math.Path.{sym}
use Rattle.std.proofs.Common.{◌∙◌, ap, subst, inl, inr, not-suc-le-zero, arith, eqb-true}
use Rattle.std.proofs.Math.Bool.{true}
use Rattle.std.proofs.Math.Dec.{eqb}
use Rattle.std.proofs.Math.ListN.{get_or, get_or-append}
use Rattle.pattern.specs.declared.table.Sort.{Sort}
use Rattle.pattern.specs.declared.entry.Entry as pattern
use Rattle.pattern.specs.Checks.Tests.{and_is_true}
use Rattle.pattern.specs.Checks.Finding.{passes}
use Rattle.pattern.specs.File.Table.{kind_of, sort_of}
use Rattle.pattern.specs.File.Entries.{max_entries, offset, entry_at, same_bytes}
use Rattle.pattern.specs.File.Reading.{in_range, sort_at, refers_back}
use Rattle.pattern.specs.File.Fields.{OfFields, OfReference, OfReferences, map_references, each_field_law}
use Rattle.pattern.specs.File.Valid.{ValidEntry, Valid, Within, EarlierNode, EarlierPath, field_within, field_refers}
use Rattle.typed_text.specs.Text.{NodeText}
use Rattle.typed_text.specs.Tokens.{tokens_of, range_check}
use Rattle.typed_file.specs.Trees.{Tree, tree, node_tree}
use Rattle.typed_file.specs.Entries.{Entry, complete, entries_of, entry_bytes, file_of}
use Rattle.typed_file.specs.Completion.{At, Distinct, completes, complete_distinct}
use Rattle.typed_file.specs.Formed.{Formed, formed}
use Rattle.typed_file.specs.ValidEntries.{as_read, Known, Earlier, EarlierOrEnd, ValidEntries, complete_valid}
use Rattle.typed_file.specs.RootLast.{root_last}

-- ---- the bytes of a file
pub file_length : (es : List Entry) → length (file_of es) ≡ 6 + 4 * length es
file_length [] = refl
file_length (e ∷ es) = let l = file_length es in omega arith

-- byte j of entry i
byte_at : (es : List Entry) (i : ℕ) (e : Entry) → At es i e → (j : ℕ) → j < 4
    → get_or (entry_bytes es) (4 * i + j) 0 ≡ get_or (entry_bytes (e ∷ [])) j 0
byte_at [] i e h j l = absurd h
byte_at (f ∷ es) zero e h j l =
    let first : 4 * 0 + j ≡ j = omega arith in
    ap (λ (n : ℕ). get_or (entry_bytes (f ∷ es)) n 0) first
    ∙ (get_or-append (entry_bytes (f ∷ [])) (entry_bytes es) 0 j l ∙ ap (λ (g : Entry). get_or (entry_bytes (g ∷ [])) j 0) h)
byte_at (f ∷ es) (suc i) e h j l =
    let on : 4 * suc i + j ≡ suc (suc (suc (suc (4 * i + j)))) = omega arith in
    ap (λ (n : ℕ). get_or (entry_bytes (f ∷ es)) n 0) on ∙ byte_at es i e h j l

module _ (es : List Entry) where
  file_byte : (i : ℕ) (e : Entry) → At es i e → (j n : ℕ) → j < 4 → n ≡ offset i + j
      → get_or (file_of es) n 0 ≡ get_or (entry_bytes (e ∷ [])) j 0
  file_byte i e h j n l p =
      let on : n ≡ suc (suc (suc (suc (suc (suc (4 * i + j)))))) = omega arith in
      ap (λ (m : ℕ). get_or (file_of es) m 0) on ∙ byte_at es i e h j l

  -- entry i of the file is entry i
  pub entry_stands : (i : ℕ) (e : Entry) → At es i e → entry_at (file_of es) i ≡ as_read e
  entry_stands i e h = λ k. record {
    kind = kind_of (file_byte i e h 0 (offset i) (omega arith) (omega arith) k);
    x = file_byte i e h 1 (offset i + 1) (omega arith) (omega arith) k;
    y = file_byte i e h 2 (offset i + 2) (omega arith) (omega arith) k;
    z = file_byte i e h 3 (offset i + 3) (omega arith) (omega arith) k;
  }

  sort_at_law : (i : ℕ) (e : Entry) → At es i e → sort_at (file_of es) i ≡ sort_of (kind_of e.kind)
  sort_at_law i e h = ap (λ (r : pattern.Entry). sort_of r.kind) (entry_stands i e h)

  -- entries with the same bytes are the same
  same_entries : (i j : ℕ) (e f : Entry) → At es i e → At es j f → same_bytes (file_of es) i j ≡ true → e ≡ f
  unfolding same_bytes
  same_entries i j e f h g s =
      let kxy_z = and_is_true _ (eqb (get_or (file_of es) (offset i + 3) 0) (get_or (file_of es) (offset j + 3) 0)) s in
      let kx_y = and_is_true _ (eqb (get_or (file_of es) (offset i + 2) 0) (get_or (file_of es) (offset j + 2) 0)) kxy_z.0 in
      let k_x = and_is_true _ (eqb (get_or (file_of es) (offset i + 1) 0) (get_or (file_of es) (offset j + 1) 0)) kx_y.0 in
      let kind = same 0 (offset i) (offset j) (omega arith) (omega arith) (omega arith) k_x.0 in
      let x = same 1 (offset i + 1) (offset j + 1) (omega arith) (omega arith) (omega arith) k_x.1 in
      let y = same 2 (offset i + 2) (offset j + 2) (omega arith) (omega arith) (omega arith) kx_y.1 in
      let z = same 3 (offset i + 3) (offset j + 3) (omega arith) (omega arith) (omega arith) kxy_z.1 in
      λ k. record { kind = kind k; x = x k; y = y k; z = z k }
    where
      same : (b m n : ℕ) → b < 4 → m ≡ offset i + b → n ≡ offset j + b → eqb (get_or (file_of es) m 0) (get_or (file_of es) n 0) ≡ true
          → get_or (entry_bytes (e ∷ [])) b 0 ≡ get_or (entry_bytes (f ∷ [])) b 0
      same b m n l p q t = sym (file_byte i e h b m l p) ∙ (eqb-true _ _ t ∙ file_byte j f g b n l q)

-- there is an entry at each place
some_at : (es : List Entry) (i : ℕ) → i < length es → (e : Entry) × At es i e
some_at [] i l = absurd (not-suc-le-zero l)
some_at (e ∷ es) zero l = (e, refl)
some_at (e ∷ es) (suc i) l = some_at es i (omega arith)

module _ (es : List Entry) (valid : ValidEntries es) (distinct : Distinct es) where
  entry_valid : (i : ℕ) → i < length es → ValidEntry (file_of es) i
  entry_valid i l =
      let f = file_of es in
      let s = some_at es i l in
      let e = s.0 in
      let v = valid i e s.1 in
      let read = sym (entry_stands es i e s.1) in
      let refers = map_references (earlier Sort.Node) or_the_end (as_read e) v.refers in
      record {
        sorted = subst Known (sym (sort_at_law es i e s.1)) v.sorted;
        within_ranges = (each_field_law in_range Within field_within (entry_at f i)).1 (subst (OfFields Within) read v.within);
        refers_back_law =
            (each_field_law (refers_back f i) (OfReference (EarlierNode f i) (EarlierPath f i)) (field_refers f i) (entry_at f i)).1
            (subst (OfReferences (EarlierNode f i) (EarlierPath f i)) read refers);
        different = λ j m. differs j (some_at es j (omega arith)) m (same_bytes f j i) refl;
      }
    where
      earlier : (s : Sort) (v : ℕ) → Earlier es i s v → (v < i) × (sort_at (file_of es) v ≡ s)
      earlier s v h = (h.0, sort_at_law es v h.1.0 h.1.1.0 ∙ h.1.1.1)

      or_the_end : (v : ℕ) → EarlierOrEnd es i v → EarlierPath (file_of es) i v
      or_the_end v (inl h) = inl h
      or_the_end v (inr h) = inr (earlier Sort.Path v h)

      differs : (j : ℕ) → (e : Entry) × At es j e → j < i → (t : Bool) → same_bytes (file_of es) j i ≡ t → same_bytes (file_of es) j i ≡ false
      differs j (e, h) m true s =
          let other = some_at es i l in
          let same = same_entries es j i e other.0 h other.1 s in
          let equal : j ≡ i = distinct j i other.0 (subst (At es j) same h) other.1 in
          absurd (omega arith)
      differs j (e, h) m false s = s

  entries_valid : length es ≤ max_entries → (i : ℕ) (e : Entry) → suc i ≡ length es → At es i e → sort_of (kind_of e.kind) ≡ Sort.Node
      → Valid (file_of es) (length es)
  entries_valid few i e last h node =
      let place : length es - 1 ≡ i = omega arith in
      record {
        header = record {
          marked = refl;
          version_one = refl;
          some_entry = omega arith;
          one_byte = few;
          length_is = file_length es;
        };
        count_is = refl;
        entries = entry_valid;
        root_node = ap (sort_at (file_of es)) place ∙ (sort_at_law es i e h ∙ node);
      }

pub tree_valid : (t : Tree) → Formed Sort.Node t → length (entries_of t) ≤ max_entries → Valid (file_of (entries_of t)) (length (entries_of t))
tree_valid (tree k a b c) ok few =
    let t = tree k a b c in
    let stands = (completes t []).0 in
    entries_valid (entries_of t) (complete_valid t [] (inl refl) ok (λ i e h. absurd h)) (complete_distinct t [] (λ i j e h g. absurd h)) few
    (complete t []).at _ (root_last t (inl refl) ok few) stands.1.1.1.3 ok.0

pub file_valid : (t : NodeText) → range_check (tokens_of t) ≡ passes → length (entries_of (node_tree t)) ≤ max_entries
    → Valid (file_of (entries_of (node_tree t))) (length (entries_of (node_tree t)))
file_valid t h few = tree_valid (node_tree t) (formed t h) few
