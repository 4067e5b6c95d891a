-- `steps::outcome::compare` meets its contract: each arm is the rule of its number.
-- Assumes nothing.
use Rattle.std.proofs.Common.{◌∙◌}
use Rattle.lines.specs.declared.line.Line.{Line}
use Rattle.branch_lines.specs.Stored.{compare_at, line_at}
use Rattle.rules.specs.Rules.{rule_at}
use Rattle.rules.specs.RuleLaws.{of_rule}
use Rattle.steps.proofs.outcome.compare.Goals as goal

pub outcome-requires : goal.outcome-requires
outcome-requires c = record {
  none_of = c.in_default.in_default-own.rest;
  path_within = rw c.load_compare-l.ensures c.requires.path_within;
  q_in_bounds = c.requires.second_in_bounds;
}

pub returns-in-8 : goal.returns-in-8
unfolding rule_at
returns-in-8 c =
    let a = c.args in
    of_rule a.p.now (Line.Compare (compare_at a.area.now a.first)) (line_at a.area.now a.second) a.argument c.in-8.is
    (rw c.load_compare.ensures at c.rule8.ensures)

pub returns-in-16 : goal.returns-in-16
unfolding rule_at
returns-in-16 c =
    let a = c.args in
    of_rule a.p.now (Line.Compare (compare_at a.area.now a.first)) (line_at a.area.now a.second) a.argument c.in-16.is
    (rw c.load_compare-in-16.ensures at c.rule16.ensures)

pub returns-in-20 : goal.returns-in-20
unfolding rule_at
returns-in-20 c =
    let a = c.args in
    of_rule a.p.now (Line.Compare (compare_at a.area.now a.first)) (line_at a.area.now a.second) a.argument c.in-20.is
    (rw (c.load_compare-in-20.ensures, c.load.ensures) at c.rule20.ensures)

pub returns-in-21 : goal.returns-in-21
unfolding rule_at
returns-in-21 c =
    let a = c.args in
    of_rule a.p.now (Line.Compare (compare_at a.area.now a.first)) (line_at a.area.now a.second) a.argument c.in-21.is
    (c.clash_if.ensures ∙ rw (c.load_compare-in-21.ensures, c.load-in-21.ensures) at c.rule21.ensures)

pub returns-in-22 : goal.returns-in-22
unfolding rule_at
returns-in-22 c =
    let a = c.args in
    of_rule a.p.now (Line.Compare (compare_at a.area.now a.first)) (line_at a.area.now a.second) a.argument c.in-22.is
    (c.clash_if-in-22.ensures ∙ rw (c.load_compare-in-22.ensures, c.load-in-22.ensures) at c.rule22.ensures)

pub returns-in-23 : goal.returns-in-23
unfolding rule_at
returns-in-23 c =
    let a = c.args in
    of_rule a.p.now (Line.Compare (compare_at a.area.now a.first)) (line_at a.area.now a.second) a.argument c.in-23.is
    (c.clash_if-in-23.ensures ∙ rw c.load_compare-in-23.ensures at c.rule23.ensures)

pub returns-in_default : goal.returns-in_default
returns-in_default c = rw c.load_compare-l.ensures at c.outcome.ensures
