-- `steps::outcome::outcome` meets its contract: the family of the form that P has.
-- Assumes nothing.
use Rattle.std.proofs.Common.{◌≡◌, sym, ◌∙◌}
use Rattle.lines.specs.declared.line.Form.{Form}
use Rattle.branch_lines.specs.Stored.{line_of_form, line_at, line_of_form_law}
use Rattle.steps.specs.Forms.{edge_unfit}
use Rattle.steps.proofs.outcome.outcome.Goals.{After-form_at}
use Rattle.steps.proofs.outcome.outcome.Goals as goal

-- the line P, where its form was found
first_is : (c : After-form_at) {form : Form} → c.form_at.result ≡ form
    → let a = c.args in
    line_at a.area.now a.first ≡ line_of_form form a.area.now a.first
first_is c e = let a = c.args in line_of_form_law a.area.now a.first (sym c.form_at.ensures ∙ e)

pub outcome-requires : goal.outcome-requires
outcome-requires c = record {
  has_entry = rw c.load_has.ensures (rw (first_is (goal.at.outcome-requires c).After-form_at c.in-Has.is) at c.requires.line_within);
  q_in_bounds = c.requires.second_in_bounds;
}

pub compare-requires : goal.compare-requires
compare-requires c = record {
  first_in_bounds = c.requires.first_in_bounds;
  second_in_bounds = c.requires.second_in_bounds;
  path_within = rw (first_is (goal.at.compare-requires c).After-form_at c.in-Compare.is) at c.requires.line_within;
}

pub returns-in-Has : goal.returns-in-Has
returns-in-Has c =
    rw (first_is (goal.at.returns-in-Has c).After-form_at c.in-Has.is, sym c.load_has.ensures) c.outcome.ensures

pub returns-in-Is : goal.returns-in-Is
returns-in-Is c =
    rw (first_is (goal.at.returns-in-Is c).After-form_at c.in-Is.is, sym c.load_is.ensures) (c.outcome-in-Is.ensures c.args.p.now)

pub returns-in-Edge : goal.returns-in-Edge
returns-in-Edge c =
    let a = c.args in
    rw (first_is (goal.at.returns-in-Edge c).After-form_at c.in-Edge.is) (sym (edge_unfit a.p.now (line_at a.area.now a.second) a.argument a.rule _))

pub returns-in-Compare : goal.returns-in-Compare
returns-in-Compare c =
    rw (first_is (goal.at.returns-in-Compare c).After-form_at c.in-Compare.is) c.compare.ensures
