-- `report::report_for` meets its contract: the report says what the judgement of the proposal's mark finds.
-- Assumes nothing.
use Rattle.std.proofs.Common.{refl}
use Rattle.report.proofs.report_for.Goals as goal

pub returns : goal.returns
returns c =
    rw (c.model_report.ensures, c.judge_model.ensures.finding, ← rw c.if-begins.false at c.begins.ensures) refl

pub returns-then-begins : goal.returns-then-begins
returns-then-begins c =
    rw (c.tableau_report.ensures, c.judge_tableau.ensures.promise.finding, ← rw c.if-begins.true at c.begins.ensures) refl
