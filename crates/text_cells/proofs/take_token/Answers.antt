-- `text_cells::take_token` meets its contract: `marks_took` and `cell_took`.
-- Assumes nothing.
use Rattle.std.proofs.Common.{refl, sym, ◌∙◌, arith, length-set}
use Rattle.text_cells.specs.Held.{marks_took, one_stored, both_stored, cell_took}
use Rattle.text_cells.proofs.take_token.Goals as goal

pub returns-in-Some : goal.returns-in-Some
returns-in-Some c =
    let a = c.args in
    rw c.store.ensures
    (cell_took a.word a.built.count a.cells.now a.items.now a.built.at c.requires.1 (omega (arith, c.requires)) c.in-Some.made
    (sym c.in-Some.is ∙ c.made_by.ensures.made) c.requires.3)

pub returns-in-Nothing : goal.returns-in-Nothing
returns-in-Nothing c =
    let a = c.args in
    marks_took a.word a.built.count a.cells.now a.items.now a.built.at _ (sym c.in-Nothing.is ∙ c.marks_by.ensures)
    (sym c.in_default.is ∙ c.made_by.ensures.made) a.built.at a.items.now (omega arith) (omega arith) refl refl

pub returns-in-One : goal.returns-in-One
returns-in-One c =
    let a = c.args in
    marks_took a.word a.built.count a.cells.now a.items.now a.built.at _ (sym c.in-One.is ∙ c.marks_by.ensures)
    (sym c.in_default.is ∙ c.made_by.ensures.made) _ _ (omega arith) (omega arith) (simp length-set)
    (one_stored a.word a.built.count a.cells.now a.items.now a.built.at c.requires.1 (omega (arith, c.requires)) _)

pub returns-in-Two : goal.returns-in-Two
returns-in-Two c =
    let a = c.args in
    marks_took a.word a.built.count a.cells.now a.items.now a.built.at _ (sym c.in-Two.is ∙ c.marks_by.ensures)
    (sym c.in_default.is ∙ c.made_by.ensures.made) _ _ (omega arith) (omega arith) (simp length-set)
    (both_stored a.word a.built.count a.cells.now a.items.now a.built.at c.requires.1 (omega (arith, c.requires)) _ _)
