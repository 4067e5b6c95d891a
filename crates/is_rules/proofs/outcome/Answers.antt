-- `is_rules::outcome` meets its contract: each arm is the rule of its number, and P fits no rule of another.
-- Assumes nothing.
use Rattle.std.proofs.Common.{sym, ◌∙◌}
use Rattle.lines.specs.declared.line.Line.{Line}
use Rattle.branch_lines.specs.Stored.{line_at}
use Rattle.rules.specs.Rules.{rule_at}
use Rattle.rules.specs.RuleLaws.{of_rule}
use Rattle.is_rules.specs.Listed.{is_unfit_law}
use Rattle.is_rules.proofs.outcome.Goals as goal

pub returns-in-17 : goal.returns-in-17
unfolding rule_at
returns-in-17 c = let a = c.args in λ bs. of_rule bs (Line.Is a.l) (line_at a.area.now a.q) a.argument c.in-17.is c.rule17.ensures

pub returns-in-18 : goal.returns-in-18
unfolding rule_at
returns-in-18 c = let a = c.args in λ bs. of_rule bs (Line.Is a.l) (line_at a.area.now a.q) a.argument c.in-18.is c.rule18.ensures

pub returns-in-19 : goal.returns-in-19
unfolding rule_at
returns-in-19 c =
    let a = c.args in
    λ bs. of_rule bs (Line.Is a.l) (line_at a.area.now a.q) a.argument c.in-19.is
    (rw c.load.ensures at c.rule19.ensures)

pub returns-in-21 : goal.returns-in-21
unfolding rule_at
returns-in-21 c =
    let a = c.args in
    λ bs. of_rule bs (Line.Is a.l) (line_at a.area.now a.q) a.argument c.in-21.is
    (c.clash_if.ensures ∙ rw c.load-in-21.ensures at c.rule21.ensures)

pub returns-in-23 : goal.returns-in-23
unfolding rule_at
returns-in-23 c =
    let a = c.args in
    λ bs. of_rule bs (Line.Is a.l) (line_at a.area.now a.q) a.argument c.in-23.is (c.clash_if-in-23.ensures ∙ c.rule23.ensures)

pub returns-in_default : goal.returns-in_default
returns-in_default c = let a = c.args in λ bs. sym (is_unfit_law bs a.l (line_at a.area.now a.q) a.argument a.rule c.in_default.in_default-own.rest)
