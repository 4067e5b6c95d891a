-- `has_rules::outcome` meets its contract: each arm is the rule of its number, and P fits no rule of another.
-- Assumes nothing.
use Rattle.std.proofs.Common.{sym, ◌∙◌}
use Rattle.lines.specs.declared.line.Line.{Line}
use Rattle.branch_lines.specs.Stored.{line_at}
use Rattle.rules.specs.Rules.{rule_at}
use Rattle.rules.specs.RuleLaws.{of_rule}
use Rattle.has_rules.specs.Listed.{has_unfit}
use Rattle.has_rules.proofs.outcome.Goals as goal

pub returns-in-1 : goal.returns-in-1
unfolding rule_at
returns-in-1 c =
    let a = c.args in
    of_rule a.p.now (Line.Has a.h) (line_at a.area.now a.q) a.argument c.in-1.is (rw c.at-e.ensures at c.rule1.ensures)

pub returns-in-2 : goal.returns-in-2
unfolding rule_at
returns-in-2 c =
    let a = c.args in
    of_rule a.p.now (Line.Has a.h) (line_at a.area.now a.q) a.argument c.in-2.is (rw c.at-e.ensures at c.rule2.ensures)

pub returns-in-3 : goal.returns-in-3
unfolding rule_at
returns-in-3 c =
    let a = c.args in
    of_rule a.p.now (Line.Has a.h) (line_at a.area.now a.q) a.argument c.in-3.is (rw c.at-e.ensures at c.rule3.ensures)

pub returns-in-4 : goal.returns-in-4
unfolding rule_at
returns-in-4 c =
    let a = c.args in
    of_rule a.p.now (Line.Has a.h) (line_at a.area.now a.q) a.argument c.in-4.is (rw c.at-e.ensures at c.rule4.ensures)

pub returns-in-5 : goal.returns-in-5
unfolding rule_at
returns-in-5 c =
    let a = c.args in
    of_rule a.p.now (Line.Has a.h) (line_at a.area.now a.q) a.argument c.in-5.is (rw c.at-e.ensures at c.rule5.ensures)

pub returns-in-6 : goal.returns-in-6
unfolding rule_at
returns-in-6 c =
    let a = c.args in
    of_rule a.p.now (Line.Has a.h) (line_at a.area.now a.q) a.argument c.in-6.is
    (rw (c.at-e.ensures, c.load.ensures) at c.rule6.ensures)

pub returns-in-7 : goal.returns-in-7
unfolding rule_at
returns-in-7 c =
    let a = c.args in
    of_rule a.p.now (Line.Has a.h) (line_at a.area.now a.q) a.argument c.in-7.is (rw c.at-e.ensures at c.rule7.ensures)

pub returns-in-21 : goal.returns-in-21
unfolding rule_at
returns-in-21 c =
    let a = c.args in
    of_rule a.p.now (Line.Has a.h) (line_at a.area.now a.q) a.argument c.in-21.is
    (c.clash_if.ensures ∙ rw c.load-in-21.ensures at c.rule21.ensures)

pub returns-in-24 : goal.returns-in-24
unfolding rule_at
returns-in-24 c =
    let a = c.args in
    of_rule a.p.now (Line.Has a.h) (line_at a.area.now a.q) a.argument c.in-24.is (rw c.at-e.ensures at c.rule24.ensures)

pub returns-in-25 : goal.returns-in-25
unfolding rule_at
returns-in-25 c =
    let a = c.args in
    of_rule a.p.now (Line.Has a.h) (line_at a.area.now a.q) a.argument c.in-25.is (rw c.at-e.ensures at c.rule25.ensures)

pub returns-in_default : goal.returns-in_default
returns-in_default c =
    let a = c.args in
    sym (has_unfit a.p.now a.h (line_at a.area.now a.q) a.argument a.rule c.in_default.in_default-own.rest)
