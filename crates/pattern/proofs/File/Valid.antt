-- Reading passes a file exactly where it is a valid pattern.
-- Assumes nothing.
use Rattle.std.specs.Prelude.{◌≡◌, refl, true, false, ◌⊎◌, List, ℕ, ◌-◌, ◌<◌}
use Rattle.std.proofs.Common.{sym, ◌∙◌, ap, subst, inl, inr, arith}
use borrow.Author.Tests.{not-false}
use Rattle.pattern.specs.declared.table.Sort.{Sort}
use Rattle.pattern.specs.Checks.Finding.{found, passes, ◌then◌, then_passes, refuses_if_passes}
use Rattle.pattern.specs.Checks.Range.{each_below, each_at, each_below_law, none_at, none_below}
use Rattle.pattern.specs.File.Table.{is_path, is_neither}
use Rattle.pattern.specs.File.Entries.{same_bytes}
use Rattle.pattern.specs.File.Reading.{count_of, sort_at, repeats_at, header_check, kind_check, field_check, reference_check, repeat_check, entry_check, root_check, pattern_check, reading_of}
use Rattle.pattern.specs.File.Valid.{ValidHeader, ValidEntry, Valid, header_passes, header_accepted, read_passes}

sort_known : (s : Sort) → is_neither s ≡ false → (s ≡ Sort.Node) ⊎ (s ≡ Sort.Path)
sort_known Sort.Node h = inl refl
sort_known Sort.Path h = inr refl
sort_known Sort.Neither h = inl cc

known_sort : (s : Sort) → (s ≡ Sort.Node) ⊎ (s ≡ Sort.Path) → is_neither s ≡ false
known_sort s (inl e) = ap is_neither e
known_sort s (inr e) = ap is_neither e

not_path : (s : Sort) → (s ≡ Sort.Node) ⊎ (s ≡ Sort.Path) → is_path s ≡ false → s ≡ Sort.Node
not_path s (inl e) h = e
not_path s (inr e) h = let z : true ≡ false = ap is_path (sym e) ∙ h in cc

module _ (bs : List ℕ) (k : ℕ) where
  entry_passes : entry_check bs k ≡ passes → ValidEntry bs k
  unfolding entry_check
  entry_passes h =
      let a = then_passes (kind_check bs k) (field_check bs k then reference_check bs k then repeat_check bs k) h in
      let b = then_passes (field_check bs k) (reference_check bs k then repeat_check bs k) a.1 in
      let c = then_passes (reference_check bs k) (repeat_check bs k) b.1 in
      record {
        sorted = sort_known (sort_at bs k) (refuses_if_passes _ 4 k a.0);
        within_ranges = not-false _ (refuses_if_passes _ 5 k b.0);
        refers_back_law = not-false _ (refuses_if_passes _ 6 k c.0);
        different = λ j l. none_at (λ i. same_bytes bs i k) k j (refuses_if_passes (repeats_at bs k) 7 k c.1) l;
      }

  entry_accepted : ValidEntry bs k → entry_check bs k ≡ passes
  unfolding entry_check
  entry_accepted h =
      rw (
        known_sort (sort_at bs k) h.sorted,
        h.within_ranges,
        h.refers_back_law,
        none_below (λ i. same_bytes bs i k) k h.different,
      )

-- a pattern that was read is valid
pub valid : (bs : List ℕ) (n : ℕ) → reading_of bs ≡ found n → Valid bs n
unfolding pattern_check root_check
valid bs n h =
    let r = read_passes bs n h in
    let a = then_passes (header_check bs) (each_below (count_of bs) (entry_check bs) then root_check bs) r.0 in
    let b = then_passes (each_below (count_of bs) (entry_check bs)) (root_check bs) a.1 in
    subst (λ (m : ℕ). Valid bs m) r.1 (from_checks (header_passes bs a.0) b.0 b.1)
  where
    from_checks : ValidHeader bs → each_below (count_of bs) (entry_check bs) ≡ passes → root_check bs ≡ passes → Valid bs (count_of bs)
    from_checks header each root =
        let entries : (k : ℕ) → k < count_of bs → ValidEntry bs k = λ k l. entry_passes bs k (each_at (entry_check bs) (count_of bs) k each l) in
        record {
          header = header;
          count_is = refl;
          entries = entries;
          root_node = not_path _ (entries (count_of bs - 1) (omega (arith, header.some_entry))).sorted (refuses_if_passes _ 8 (count_of bs - 1) root);
        }

-- a valid pattern is read
pub valid_read : (bs : List ℕ) (n : ℕ) → Valid bs n → reading_of bs ≡ found n
unfolding reading_of pattern_check root_check
valid_read bs n h =
    let count = h.count_is in
    rw
    (header_accepted bs h.header, count, each_below_law (entry_check bs) n (λ k l. entry_accepted bs k (h.entries k l)), h.root_node)

-- the checks 1 to 8 pass exactly where the pattern is valid
pub passes_valid : (bs : List ℕ) → pattern_check bs ≡ passes → Valid bs (count_of bs)
unfolding reading_of
passes_valid bs h = valid bs (count_of bs) (rw h)

pub valid_passes : (bs : List ℕ) (n : ℕ) → Valid bs n → pattern_check bs ≡ passes
valid_passes bs n ok = (read_passes bs n (valid_read bs n ok)).0
