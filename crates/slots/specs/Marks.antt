-- What the marks of the entries and the tags of the slots say, and where the rows of a slot stand.
-- Assumes nothing.
use Rattle.std.specs.Prelude.{◌≡◌, refl, Bool, true, false, not, ◌↔◌, List, ℕ, ◌+◌, ◌-◌, ◌*◌, ◌/◌, ◌≤◌, ◌<◌, length, get_or, set, replicate, eqb, ltb}
use Rattle.std.proofs.Common.{◌∙◌, subst, mul-suc, mul_comm, mul_assoc, mul-le-mul_left, le-div_iff_mul-le, arith, ltb-true, ltb-false}
use Rattle.nodeset.specs.Stored.{table_bytes}
use Rattle.slots.specs.declared.marks.Marks.{Marks}
use Rattle.pattern.specs.declared.table.Field.{Field}
use Rattle.pattern.specs.declared.entry.Entry.{Entry}
use Rattle.pattern.specs.File.Table.{end_of_path}
use Rattle.pattern.specs.File.Fields.{OfReference, OfReferences, each_field, each_field_law}
use Rattle.pattern.specs.File.Reading.{count_of}
use Rattle.pattern.specs.File.Valid.{EarlierPath}

-- one mark for each entry and for the end of path, and for each slot its tag
abbrev pub mark_of : Marks → ℕ → ℕ
mark_of m k = get_or m.marks k 0

abbrev pub tag_of : Marks → ℕ → ℕ
tag_of m slot = get_or m.tags slot 0

-- the set of node entry k is in the area, at one less than the mark
abbrev pub is_known : Marks → ℕ → Bool
is_known m k = not (eqb (mark_of m k) 0)

abbrev pub set_place : Marks → ℕ → ℕ
set_place m k = mark_of m k - 1

-- the mark of a path is the slot that it was given last; it has its rows there if the slot's tag says so
abbrev pub tag_for : ℕ → ℕ
tag_for path = end_of_path - path

abbrev pub is_held : Marks → ℕ → Bool
is_held m path = eqb (tag_of m (mark_of m path)) (tag_for path)

-- no mark and no tag but 0, m of each
abbrev pub unmarked : ℕ → Marks
unmarked m = record { marks = replicate m 0; tags = replicate m 0 }

-- another mark for an entry
abbrev pub marked : Marks → ℕ → ℕ → Marks
marked m k mark = record m { marks = set m.marks k mark }

-- the tag of a path for a slot
abbrev pub tagged : Marks → ℕ → ℕ → Marks
tagged m slot path = record m { tags = set m.tags slot (tag_for path) }

-- a field that refers to a path refers to one that has its rows
abbrev pub field_held : Marks → Field → ℕ → Bool
field_held m Field.Path v = is_held m v
field_held m Field.Unused v = true
field_held m Field.Property v = true
field_held m Field.Name v = true
field_held m Field.Axis v = true
field_held m Field.Channel v = true
field_held m Field.Node v = true

-- the first of the n rows of a slot, and of the slot that a path was given
abbrev pub first_row : ℕ → ℕ → ℕ
first_row n slot = n * slot

abbrev pub row_of_path : Marks → ℕ → ℕ → ℕ
row_of_path m n path = first_row n (mark_of m path)

-- a reference to a path of the pattern
abbrev pub PathOf : List ℕ → ℕ → Type 0
PathOf bs path = EarlierPath bs (count_of bs) path

-- no path has its rows in the slot
abbrev pub IsFree : List ℕ → Marks → ℕ → Type 0
IsFree bs m slot = (path : ℕ) → PathOf bs path → is_held m path ≡ true → mark_of m path ≡ slot → ⊥

-- a slot that may be given to a path: not that of the end of path
abbrev pub MayHold : ℕ → Type 0
MayHold slot = (0 < slot) × (slot ≤ end_of_path)

-- two slots or more, all within the rows
abbrev pub SlotsFit : List ℕ → ℕ → ℕ → Type 0
SlotsFit rows n slots = (2 ≤ slots) × (table_bytes (first_row n slots) ≤ length rows)

-- ---- laws
-- a slot has its n rows before those of a later one
pub slot_room : (n s t : ℕ) → s < t → first_row n s + n ≤ first_row n t
slot_room n s t l = subst (λ (m : ℕ). m ≤ first_row n t) (mul-suc n s) (mul-le-mul_left n l)

-- and so different slots have different rows
pub slots_apart : (n s t : ℕ) → (s ≡ t → ⊥) → (u v : ℕ) → u < n → v < n → first_row n s + u ≡ first_row n t + v → ⊥
slots_apart n s t differ u v a b e = go (ltb s t) (ltb t s) refl refl
  where
    go : (x y : Bool) → ltb s t ≡ x → ltb t s ≡ y → ⊥
    go true y p q = let room = slot_room n s t (ltb-true s t p) in omega (arith, room, e, a)
    go false true p q = let room = slot_room n t s (ltb-true t s q) in omega (arith, room, e, b)
    go false false p q = differ (let h = ltb-false s t p in let g = ltb-false t s q in omega (arith, h, g))

-- as many slots as fit into these bytes
pub slots_within : (bytes n r : ℕ) → 0 < n → r ≤ bytes / (8 * n) → table_bytes (first_row n r) ≤ bytes
slots_within bytes n r some l =
    subst (λ (x : ℕ). x ≤ bytes) (mul_comm r (8 * n) ∙ mul_assoc 8 n r) ((le-div_iff_mul-le {k = 8 * n} {x = r} {y = bytes} (omega (arith, some))).0 l)

pub two_within : (bytes n : ℕ) → 0 < n → table_bytes (2 * n) ≤ bytes → 2 ≤ bytes / (8 * n)
two_within bytes n some l = (le-div_iff_mul-le {k = 8 * n} {x = 2} {y = bytes} (omega (arith, some))).1 (omega (arith, l))

-- where all paths that an entry refers to have their rows, each has
pub each_held : (m : Marks) (e : Entry) → each_field (field_held m) e ≡ true → OfReferences (λ v. Unit {0}) (λ v. is_held m v ≡ true) e
each_held m e h = (each_field_law (field_held m) (OfReference (λ v. Unit {0}) (λ v. is_held m v ≡ true)) says e).0 h
  where
    says : (F : Field) (v : ℕ) → (field_held m F v ≡ true) ↔ OfReference (λ v'. Unit {0}) (λ v'. is_held m v' ≡ true) F v
    says Field.Path v = (λ p. p, λ p. p)
    says Field.Unused v = (λ p. tt, λ p. refl)
    says Field.Property v = (λ p. tt, λ p. refl)
    says Field.Name v = (λ p. tt, λ p. refl)
    says Field.Axis v = (λ p. tt, λ p. refl)
    says Field.Channel v = (λ p. tt, λ p. refl)
    says Field.Node v = (λ p. tt, λ p. refl)
