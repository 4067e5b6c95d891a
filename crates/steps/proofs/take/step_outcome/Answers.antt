-- `steps::take::step_outcome` meets its contract: a step without fault has its lines on the branch.
-- Assumes nothing.
use Rattle.std.proofs.Common.{sym, ◌∙◌}
use Rattle.branch_lines.specs.Stored.{line_on_law}
use Rattle.rules.specs.Rules.{rule_at}
use Rattle.steps.specs.AtStep.{step_on_law, room_for}
use Rattle.steps.proofs.take.step_outcome.Goals as goal

pub outcome-requires : goal.outcome-requires
outcome-requires c =
    let a = c.args in
    let on = step_on_law a.p.now a.area.now a.len a.s c.requires.s_value in record {
      first_in_bounds = room_for c.requires.readable on.0;
      second_in_bounds = room_for c.requires.readable on.1;
      line_within = c.requires.readable.within a.s.p on.0;
    }

pub returns : goal.returns
returns c =
    let a = c.args in
    let on = step_on_law a.p.now a.area.now a.len a.s c.requires.s_value in
    let first = sym (line_on_law a.area.now a.len a.s.p on.0) in
    let second = sym (line_on_law a.area.now a.len a.s.q on.1) in
    c.outcome.ensures ∙ (λ k. (rule_at a.s.rule).outcome a.p.now (first k) (second k) a.s.argument)
