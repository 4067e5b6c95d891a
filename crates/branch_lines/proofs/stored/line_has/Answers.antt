-- `branch_lines::stored::line_has` meets its contract: the names of a line are at the bytes of its form.
-- Assumes nothing.
use Rattle.std.proofs.Common.{refl, sym, ◌∙◌, eq-eqb, ne_eqb}
use Rattle.branch_lines.specs.Stored.{compared_names, other_names}
use Rattle.branch_lines.proofs.stored.line_has.Goals as goal

pub returns-then-area-at : goal.returns-then-area-at
returns-then-area-at c =
    let a = c.args in
    sym (compared_names a.area.now a.k a.name.number c.if-area-at-gt2.true ∙ rw (eq-eqb _ _ c.if-area-at.true) refl)

pub returns-then-area-at-gt2 : goal.returns-then-area-at-gt2
returns-then-area-at-gt2 c =
    let a = c.args in
    sym (compared_names a.area.now a.k a.name.number c.if-area-at-gt2.true ∙ rw (ne_eqb _ _ c.if-area-at.false) refl)

pub returns-then-area-at-2 : goal.returns-then-area-at-2
returns-then-area-at-2 c =
    let a = c.args in
    sym (other_names a.area.now a.k a.name.number c.if-area-at-gt2.false ∙ rw (eq-eqb _ _ c.if-area-at-2.true) refl)

pub returns-then-area-at-3 : goal.returns-then-area-at-3
returns-then-area-at-3 c =
    let a = c.args in
    sym (other_names a.area.now a.k a.name.number c.if-area-at-gt2.false ∙ rw (ne_eqb _ _ c.if-area-at-2.false, eq-eqb _ _ c.if-area-at-3.true) refl)

pub returns : goal.returns
returns c =
    let a = c.args in
    sym (other_names a.area.now a.k a.name.number c.if-area-at-gt2.false ∙ rw (ne_eqb _ _ c.if-area-at-2.false, ne_eqb _ _ c.if-area-at-3.false) refl)
