-- `report::line_for` meets its contract: it fills the line of the report.
-- Assumes nothing.
use Rattle.line.specs.Filling.{filled_told}
use Rattle.report.specs.Report.{line_for}
use Rattle.report.proofs.line_for.Goals as goal

pub returns : goal.returns
returns c =
    let a = c.args in
    let told = filled_told (line_for a.pattern.now a.proposal.now) a.buf.now _ _ (rw c.report_for.ensures at c.fill.ensures) in
    record { length = told.0; line = told.1.0; counts = told.1.1 }
