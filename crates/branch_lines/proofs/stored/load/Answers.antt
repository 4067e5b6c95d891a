-- `branch_lines::stored::load` meets its contract: each arm is a clause of `line_of_form`.
-- Assumes nothing.
use Rattle.std.proofs.Common.{sym, ap, ◌∙◌}
use Rattle.lines.specs.declared.line.Line.{Line}
use Rattle.branch_lines.specs.Stored.{line_of_form_law}
use Rattle.branch_lines.proofs.stored.load.Goals as goal

pub returns-in-Has : goal.returns-in-Has
returns-in-Has c =
    let a = c.args in
    ap Line.Has c.load_has.ensures ∙ sym (line_of_form_law a.area.now a.k (sym c.form_at.ensures ∙ c.in-Has.is))

pub returns-in-Is : goal.returns-in-Is
returns-in-Is c =
    let a = c.args in
    ap Line.Is c.load_is.ensures ∙ sym (line_of_form_law a.area.now a.k (sym c.form_at.ensures ∙ c.in-Is.is))

pub returns-in-Edge : goal.returns-in-Edge
returns-in-Edge c =
    let a = c.args in
    ap Line.Edge c.load_edge.ensures ∙ sym (line_of_form_law a.area.now a.k (sym c.form_at.ensures ∙ c.in-Edge.is))

pub returns-in-Compare : goal.returns-in-Compare
returns-in-Compare c =
    let a = c.args in
    ap Line.Compare c.load_compare.ensures ∙ sym (line_of_form_law a.area.now a.k (sym c.form_at.ensures ∙ c.in-Compare.is))
