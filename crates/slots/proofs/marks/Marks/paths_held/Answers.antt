-- `slots::marks::Marks::paths_held` meets its contract.
-- Assumes nothing.
use Rattle.std.proofs.Common.{refl}
use Rattle.pattern.specs.File.Fields.{each_field}
use Rattle.slots.proofs.marks.Marks.paths_held.Goals as goal

pub returns : goal.returns
unfolding each_field
returns c = rw (c.field_held-3.ensures, c.field_held-2.ensures, c.field_held.ensures, c.form-form.ensures, c.at-e.ensures) refl
