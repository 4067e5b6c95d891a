-- `left_rules::outcome` meets its contract: where the left path isn't at its end, each arm is the rule of its number.
-- Assumes nothing.
use Rattle.std.proofs.Common.{◌≡◌, sym, ◌∙◌, false}
use Rattle.lines.specs.declared.line.Line.{Line}
use Rattle.lines.specs.Parts.{at_end}
use Rattle.branch_lines.specs.Stored.{line_at}
use Rattle.rules.specs.Rules.{rule9, rule10, rule11, rule12, rule13, rule14, rule15, rule_at}
use Rattle.rules.specs.RuleLaws.{of_rule}
use Rattle.left_rules.specs.Listed.{entry_within, compare_unfit, end_unfit, fits_left}
use Rattle.left_rules.proofs.outcome.Goals.{Else-at_end}
use Rattle.left_rules.proofs.outcome.Goals as goal

pub returns-then-at_end : goal.returns-then-at_end
returns-then-at_end c =
    let a = c.args in
    sym (end_unfit a.p.now a.l (line_at a.area.now a.q) a.argument a.rule (sym c.at_end.ensures ∙ c.if-at_end.true) c.requires.none_of)

not_end : (c : Else-at_end) → at_end c.args.l.left ≡ false
not_end c = sym c.at_end.ensures ∙ c.if-at_end.false

pub at-e-requires : goal.at-e-requires
at-e-requires c =
    entry_within c.args.p.now c.args.l.left.path c.requires.path_within (not_end (goal.at.at-e-requires c).Else-at_end)

pub returns-in-9 : goal.returns-in-9
unfolding rule_at
returns-in-9 c =
    let a = c.args in
    of_rule a.p.now (Line.Compare a.l) (line_at a.area.now a.q) a.argument c.in-9.is
    (fits_left a.p.now a.l (not_end (goal.at.returns-in-9 c).Else-at_end) (λ l e. rule9 l e) (rw c.at-e.ensures at c.rule9.ensures))

pub returns-in-10 : goal.returns-in-10
unfolding rule_at
returns-in-10 c =
    let a = c.args in
    of_rule a.p.now (Line.Compare a.l) (line_at a.area.now a.q) a.argument c.in-10.is
    (fits_left a.p.now a.l (not_end (goal.at.returns-in-10 c).Else-at_end) (λ l e. rule10 l e) (rw c.at-e.ensures at c.rule10.ensures))

pub returns-in-11 : goal.returns-in-11
unfolding rule_at
returns-in-11 c =
    let a = c.args in
    of_rule a.p.now (Line.Compare a.l) (line_at a.area.now a.q) a.argument c.in-11.is
    (fits_left a.p.now a.l (not_end (goal.at.returns-in-11 c).Else-at_end) (λ l e. rule11 l e) (rw c.at-e.ensures at c.rule11.ensures))

pub returns-in-12 : goal.returns-in-12
unfolding rule_at
returns-in-12 c =
    let a = c.args in
    of_rule a.p.now (Line.Compare a.l) (line_at a.area.now a.q) a.argument c.in-12.is
    (fits_left a.p.now a.l (not_end (goal.at.returns-in-12 c).Else-at_end) (λ l e. rule12 l e) (rw c.at-e.ensures at c.rule12.ensures))

pub returns-in-13 : goal.returns-in-13
unfolding rule_at
returns-in-13 c =
    let a = c.args in
    of_rule a.p.now (Line.Compare a.l) (line_at a.area.now a.q) a.argument c.in-13.is
    (fits_left a.p.now a.l (not_end (goal.at.returns-in-13 c).Else-at_end) (λ l e. rule13 l e) (rw c.at-e.ensures at c.rule13.ensures))

pub returns-in-14 : goal.returns-in-14
unfolding rule_at
returns-in-14 c =
    let a = c.args in
    of_rule a.p.now (Line.Compare a.l) (line_at a.area.now a.q) a.argument c.in-14.is
    (fits_left a.p.now a.l (not_end (goal.at.returns-in-14 c).Else-at_end) (λ l e. rule14 l e a.argument) (rw c.at-e.ensures at c.rule14.ensures))

pub returns-in-15 : goal.returns-in-15
unfolding rule_at
returns-in-15 c =
    let a = c.args in
    of_rule a.p.now (Line.Compare a.l) (line_at a.area.now a.q) a.argument c.in-15.is
    (fits_left a.p.now a.l (not_end (goal.at.returns-in-15 c).Else-at_end) (λ l e. rule15 l e (line_at a.area.now a.q)) (rw (c.at-e.ensures, c.load.ensures) at c.rule15.ensures))

pub returns-in_default : goal.returns-in_default
returns-in_default c =
    let a = c.args in
    sym (compare_unfit a.p.now a.l (line_at a.area.now a.q) a.argument a.rule c.in_default.in_default-own.rest c.requires.none_of)
