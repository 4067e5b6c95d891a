-- A valid pattern file: header and root as facts, ranges and references by reading's own tests, which `within_at` and `refers_at` say as facts.
-- Assumes nothing.
use Rattle.std.specs.Prelude.{◌≡◌, refl, Bool, true, false, not, ◌||◌, ◌⊎◌, ◌↔◌, List, ℕ, ◌+◌, ◌-◌, ◌*◌, ◌≤◌, ◌<◌, length, ltb, eqb}
use Rattle.std.proofs.Common.{inl, inr, arith}
use Rattle.std.proofs.Math.Bool.{or-true}
use borrow.Author.Tests.{eqb-false, ltb-false, ne_eqb, le-ltb, ltb-true, leb-true, eqb-true, not-false, lt-ltb, le-leb, eq-eqb}
use Rattle.wire.specs.Choice.{pick}
use Rattle.wire.specs.Fields.{begins_with, word_at}
use Rattle.pattern.specs.declared.table.Sort.{Sort}
use Rattle.pattern.specs.declared.table.Field.{Field}
use Rattle.pattern.specs.Checks.Tests.{or_is_false, or_is_true}
use Rattle.pattern.specs.File.Types.{max_name, max_property, max_axis, max_channel}
use Rattle.pattern.specs.Checks.Finding.{found, refused, passes, refuses, ◌then◌, then_passes, refuses_if_passes, found_passes, refused_refuses}
use Rattle.pattern.specs.File.Table.{end_of_path, is_node, is_path}
use Rattle.pattern.specs.File.Entries.{max_entries, entry_at, same_bytes}
use Rattle.pattern.specs.File.Reading.{mark, count_of, in_range, sort_at, earlier_sort, refers_back, header_check, pattern_check, reading_of, mark_check, version_check, count_check}
use Rattle.pattern.specs.File.Fields.{each_field, OfFields, OfReference, OfReferences, each_field_law}

-- a header that meets the checks 1 to 3
pub record ValidHeader (bs : List ℕ) : Type 0 where
  pub marked : begins_with mark bs ≡ true
  pub version_one : word_at bs 3 ≡ 1
  pub some_entry : 0 < count_of bs
  pub one_byte : count_of bs ≤ max_entries
  pub length_is : length bs ≡ 6 + 4 * count_of bs

-- an entry that meets the checks 4 to 7
pub record ValidEntry (bs : List ℕ) (k : ℕ) : Type 0 where
  pub sorted : (sort_at bs k ≡ Sort.Node) ⊎ (sort_at bs k ≡ Sort.Path)
  pub within_ranges : each_field in_range (entry_at bs k) ≡ true
  pub refers_back_law : each_field (refers_back bs k) (entry_at bs k) ≡ true
  pub different : (j : ℕ) → j < k → same_bytes bs j k ≡ false

-- a file of n entries that meets every check
pub record Valid (bs : List ℕ) (n : ℕ) : Type 0 where
  pub header : ValidHeader bs
  pub count_is : count_of bs ≡ n
  pub entries : (k : ℕ) → k < n → ValidEntry bs k
  pub root_node : sort_at bs (n - 1) ≡ Sort.Node

-- ---- laws

-- ---- each test of reading, and what it says
pub header_passes : (bs : List ℕ) → header_check bs ≡ passes → ValidHeader bs
unfolding header_check
header_passes bs h =
    let a = then_passes (mark_check bs) (version_check bs then count_check bs) h in
    let b = then_passes (version_check bs) (count_check bs) a.1 in
    let marks = or_is_false (ltb (length bs) 6) (not (begins_with mark bs)) (refuses_if_passes _ 1 0 a.0) in
    let n = count_of bs in
    let long = not (eqb (length bs) (6 + 4 * n)) in
    let counts = or_is_false (eqb n 0) (ltb max_entries n || long) (refuses_if_passes _ 3 0 b.1) in
    let sizes = or_is_false (ltb max_entries n) long counts.1 in
    record {
      marked = not-false _ marks.1;
      version_one = eqb-true _ _ (not-false _ (refuses_if_passes _ 2 0 b.0));
      some_entry = let not_zero = eqb-false n 0 counts.0 in omega arith;
      one_byte = ltb-false max_entries n sizes.0;
      length_is = eqb-true _ _ (not-false _ sizes.1);
    }

pub header_accepted : (bs : List ℕ) → ValidHeader bs → header_check bs ≡ passes
unfolding header_check
header_accepted bs h =
    let long : 6 ≤ length bs = omega (arith, h.length_is) in
    rw (
      le-ltb (length bs) 6 long,
      h.marked,
      eq-eqb _ _ h.version_one,
      ne_eqb (count_of bs) 0 (λ e. omega (arith, h.some_entry)),
      le-ltb max_entries (count_of bs) h.one_byte,
      eq-eqb _ _ h.length_is,
    )

-- ---- what a finding of reading says of the checks 1 to 8, which every judgement begins with
pub read_passes : (bs : List ℕ) (n : ℕ) → reading_of bs ≡ found n → (pattern_check bs ≡ passes) × (count_of bs ≡ n)
unfolding reading_of
read_passes bs n h = found_passes (pattern_check bs) (count_of bs) n h

pub read_refuses : (bs : List ℕ) (number place : ℕ) → reading_of bs ≡ refused number place → pattern_check bs ≡ refuses number place
unfolding reading_of
read_refuses bs number place h = refused_refuses (pattern_check bs) (count_of bs) number place h

-- ---- what a valid pattern says of the fields of an entry

-- a field's value is in the range of what the field holds
abbrev pub Within : Field → ℕ → Type 0
Within Field.Unused v = v ≡ 0
Within Field.Property v = v ≤ max_property
Within Field.Name v = v ≤ max_name
Within Field.Axis v = v ≤ max_axis
Within Field.Channel v = v ≤ max_channel
Within Field.Node v = Unit {0}
Within Field.Path v = Unit {0}

-- entry v stands before entry k and is a node
abbrev pub EarlierNode : List ℕ → ℕ → ℕ → Type 0
EarlierNode bs k v = (v < k) × (sort_at bs v ≡ Sort.Node)

-- v is the end of path, or entry v stands before entry k and is a path
abbrev pub EarlierPath : List ℕ → ℕ → ℕ → Type 0
EarlierPath bs k v = (v ≡ end_of_path) ⊎ ((v < k) × (sort_at bs v ≡ Sort.Path))

node_if : (t : Bool) (s : Sort) → is_node (pick t s Sort.Neither) ≡ true → (t ≡ true) × (s ≡ Sort.Node)
node_if true Sort.Node h = (refl, refl)
node_if true Sort.Path h = (refl, cc)
node_if true Sort.Neither h = (refl, cc)
node_if false s h = (h, cc)

path_if : (t : Bool) (s : Sort) → is_path (pick t s Sort.Neither) ≡ true → (t ≡ true) × (s ≡ Sort.Path)
path_if true Sort.Node h = (refl, cc)
path_if true Sort.Path h = (refl, refl)
path_if true Sort.Neither h = (refl, cc)
path_if false s h = (h, cc)

pub field_within : (F : Field) (v : ℕ) → (in_range F v ≡ true) ↔ Within F v
field_within Field.Unused v = (eqb-true v 0, eq-eqb v 0)
field_within Field.Property v = (leb-true v max_property, le-leb v max_property)
field_within Field.Name v = (leb-true v max_name, le-leb v max_name)
field_within Field.Axis v = (leb-true v max_axis, le-leb v max_axis)
field_within Field.Channel v = (leb-true v max_channel, le-leb v max_channel)
field_within Field.Node v = (λ h. tt, λ h. refl)
field_within Field.Path v = (λ h. tt, λ h. refl)

module _ (bs : List ℕ) (k : ℕ) where
  node_refers : (v : ℕ) → (is_node (earlier_sort bs k v) ≡ true) ↔ EarlierNode bs k v
  node_refers v =
      (λ h. let r = node_if (ltb v k) (sort_at bs v) h in (ltb-true v k r.0, r.1), λ h. rw (lt-ltb v k h.0, h.1))

  path_refers : (v : ℕ) → (eqb v end_of_path || is_path (earlier_sort bs k v) ≡ true) ↔ EarlierPath bs k v
  path_refers v = (λ h. apart (or_is_true (eqb v end_of_path) (is_path (earlier_sort bs k v)) h), together)
    where
      apart : (eqb v end_of_path ≡ true) ⊎ (is_path (earlier_sort bs k v) ≡ true) → EarlierPath bs k v
      apart (inl h) = inl (eqb-true v end_of_path h)
      apart (inr h) = let r = path_if (ltb v k) (sort_at bs v) h in inr (ltb-true v k r.0, r.1)

      together : EarlierPath bs k v → eqb v end_of_path || is_path (earlier_sort bs k v) ≡ true
      together (inl e) = rw (eq-eqb v end_of_path e)
      together (inr h) = rw (lt-ltb v k h.0, h.1) (or-true (eqb v end_of_path))

  pub field_refers : (F : Field) (v : ℕ) → (refers_back bs k F v ≡ true) ↔ OfReference (EarlierNode bs k) (EarlierPath bs k) F v
  field_refers Field.Unused v = (λ h. tt, λ h. refl)
  field_refers Field.Property v = (λ h. tt, λ h. refl)
  field_refers Field.Name v = (λ h. tt, λ h. refl)
  field_refers Field.Axis v = (λ h. tt, λ h. refl)
  field_refers Field.Channel v = (λ h. tt, λ h. refl)
  field_refers Field.Node v = node_refers v
  field_refers Field.Path v = path_refers v

module _ {bs : List ℕ} {n : ℕ} (ok : Valid bs n) (k : ℕ) (l : k < n) where
  pub within_at : OfFields Within (entry_at bs k)
  within_at = (each_field_law in_range Within field_within (entry_at bs k)).0 (ok.entries k l).within_ranges

  pub refers_at : OfReferences (EarlierNode bs k) (EarlierPath bs k) (entry_at bs k)
  refers_at =
      (each_field_law (refers_back bs k) (OfReference (EarlierNode bs k) (EarlierPath bs k)) (field_refers bs k) (entry_at bs k)).0
      (ok.entries k l).refers_back_law
