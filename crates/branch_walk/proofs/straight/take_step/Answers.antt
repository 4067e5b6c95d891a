-- `branch_walk::straight::take_step` meets its contract, by the law for each way out.
-- Assumes nothing.
use Rattle.std.proofs.Common.{◌≡◌, sym, ap, ◌∙◌}
use Rattle.steps.specs.declared.step.Step.{Step}
use Rattle.branch_lines.specs.Stored.{lines_from}
use Rattle.steps.specs.Steps.{step_at, stepping, answer_of}
use Rattle.branch_walk.specs.StraightLaws.{step_concludes, step_long, step_refused}
use Rattle.branch_walk.proofs.straight.take_step.Goals.{After-take}
use Rattle.branch_walk.proofs.straight.take_step.Goals as goal

-- what the step's rule says
told : (c : After-take)
    → let a = c.args in
    answer_of c.take.result ≡ stepping a.given.now.p.now (lines_from a.area.now 0 a.len) (step_at a.given.now.steps.now a.k) a.k
told c =
    let a = c.args in
    c.take.ensures ∙ ap (λ (t : Step). stepping a.given.now.p.now (lines_from a.area.now 0 a.len) t a.k) c.at-step.ensures

pub returns-then-len-added_by-gt-MAX_LINES : goal.returns-then-len-added_by-gt-MAX_LINES
returns-then-len-added_by-gt-MAX_LINES c =
    step_long c.requires.walk_lent _ (c.requires.k_lt_s, sym (told (goal.at.returns-then-len-added_by-gt-MAX_LINES c).After-take) ∙ ap answer_of c.in-Ok.is)
    (rw c.added_by.ensures.0 at c.if-len-added_by-gt-MAX_LINES.true)

pub returns-in-Err : goal.returns-in-Err
returns-in-Err c =
    step_refused c.requires.walk_lent _ _ c.in-Err.is c.requires.k_lt_s (told (goal.at.returns-in-Err c).After-take)

pub returns : goal.returns
returns c =
    rw (c.extend.ensures.advance, c.extend.ensures.area)
    (step_concludes c.requires.walk_lent _ (c.requires.k_lt_s, sym (told (goal.at.returns c).After-take) ∙ ap answer_of c.in-Ok.is)
    (rw c.added_by.ensures.0 at c.if-len-added_by-gt-MAX_LINES.false))
