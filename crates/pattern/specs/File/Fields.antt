-- The fields of an entry, by the table: a test of each field. Behind it, as facts, what holds of each field and of the entries that it
-- refers to.
-- Assumes nothing.
use Rattle.std.specs.Prelude.{◌≡◌, Bool, false, ◌&&◌, ◌↔◌, ℕ}
use Rattle.std.proofs.Math.Bool.{true}
use Rattle.pattern.specs.declared.table.Field.{Field}
use Rattle.pattern.specs.declared.table.Form.{Form}
use Rattle.pattern.specs.declared.entry.Entry.{Entry}
use Rattle.pattern.specs.Checks.Tests.{and_is_true}
use Rattle.pattern.specs.File.Table.{form_of}

-- each field of an entry passes the test, x before y before z
unfoldable pub each_field : (Field → ℕ → Bool) → Entry → Bool
each_field test e = test (form_of e.kind).x e.x && test (form_of e.kind).y e.y && test (form_of e.kind).z e.z

-- ---- laws

-- P holds of what each field of an entry holds and its value
abbrev pub OfFields : (Field → ℕ → Type 0) → Entry → Type 0
OfFields P e = P (form_of e.kind).x e.x × P (form_of e.kind).y e.y × P (form_of e.kind).z e.z

-- N of the value of a field that refers to a node, P of one that refers to a path
abbrev pub OfReference : (ℕ → Type 0) → (ℕ → Type 0) → Field → ℕ → Type 0
OfReference N P Field.Unused v = Unit {0}
OfReference N P Field.Property v = Unit {0}
OfReference N P Field.Name v = Unit {0}
OfReference N P Field.Axis v = Unit {0}
OfReference N P Field.Channel v = Unit {0}
OfReference N P Field.Node v = N v
OfReference N P Field.Path v = P v

-- N of each node that an entry refers to, P of each path
abbrev pub OfReferences : (ℕ → Type 0) → (ℕ → Type 0) → Entry → Type 0
OfReferences N P e = OfFields (OfReference N P) e

module _ {N P N' P' : ℕ → Type 0} (f : (v : ℕ) → N v → N' v) (g : (v : ℕ) → P v → P' v) where
  map_reference : (F : Field) (v : ℕ) → OfReference N P F v → OfReference N' P' F v
  map_reference Field.Unused v h = h
  map_reference Field.Property v h = h
  map_reference Field.Name v h = h
  map_reference Field.Axis v h = h
  map_reference Field.Channel v h = h
  map_reference Field.Node v h = f v h
  map_reference Field.Path v h = g v h

  pub map_references : (e : Entry) → OfReferences N P e → OfReferences N' P' e
  map_references e h =
      let form = form_of e.kind in
      (map_reference form.x e.x h.0, map_reference form.y e.y h.1, map_reference form.z e.z h.2)

-- ---- the fields are asked in their order, and the first that fails decides
module _ (test : Field → ℕ → Bool) (e : Entry) (form : Form) (row : form ≡ form_of e.kind) where
  pub x_fails : test form.x e.x ≡ false → each_field test e ≡ false
  unfolding each_field
  x_fails x = rw (← row, x)

  pub y_fails : test form.x e.x ≡ true → test form.y e.y ≡ false → each_field test e ≡ false
  unfolding each_field
  y_fails x y = rw (← row, x, y)

  pub z_decides : test form.x e.x ≡ true → test form.y e.y ≡ true → each_field test e ≡ test form.z e.z
  unfolding each_field
  z_decides x y = rw (← row, x, y)

-- what a test says of a field, it says of each
module _ (test : Field → ℕ → Bool) (Says : Field → ℕ → Type 0) (says : (F : Field) (v : ℕ) → (test F v ≡ true) ↔ Says F v) (e : Entry) where
  pub each_field_law : (each_field test e ≡ true) ↔ OfFields Says e
  unfolding each_field
  each_field_law = (apart, together)
    where
      apart : each_field test e ≡ true → OfFields Says e
      apart h =
          let f = form_of e.kind in
          let xy_z = and_is_true (test f.x e.x && test f.y e.y) (test f.z e.z) h in
          let x_y = and_is_true (test f.x e.x) (test f.y e.y) xy_z.0 in
          ((says f.x e.x).0 x_y.0, (says f.y e.y).0 x_y.1, (says f.z e.z).0 xy_z.1)

      together : OfFields Says e → each_field test e ≡ true
      together h =
          let f = form_of e.kind in
          rw ((says f.x e.x).1 h.0, (says f.y e.y).1 h.1, (says f.z e.z).1 h.2)
