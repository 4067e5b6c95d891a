-- `report::typed::type_read` meets its contract: the file is the one that typing finds, and the line that of its finding.
-- Assumes nothing.
use Rattle.std.proofs.Common.{◌≡◌, ◌∙◌, ap, rules, length}
use Rattle.line.specs.Filling.{filled_told}
use Rattle.report.specs.Report.{file_lent, typed_of, typed_line, file_found, length_found, file_stands}
use Rattle.report.proofs.typed.type_read.Goals as goal

pub returns : goal.returns
returns c =
    let a = c.args in
    let room : length a.file.now ≡ file_lent = search rules in
    let finding = rw (c.without_line_feed.ensures, room) at c.type_pattern-finding.ensures.promise.finding in
    let destination = rw (c.without_line_feed.ensures, room) at c.type_pattern-finding.ensures.promise.destination in
    let f = typed_of a.read.now in
    let file = filled_told (file_found f) a.file.now _ _ (file_stands f a.file.now _ _ destination (c.file_length.ensures ∙ ap length_found finding)) in
    let line = filled_told (typed_line a.read.now) a.line.now _ _ (rw (c.type_report.ensures, finding) at c.fill-end.ensures) in record {
      file_length = file.0;
      file = file.1.0;
      file_counts = file.1.1;
      line_length = line.0;
      line = line.1.0;
      line_counts = line.1.1;
    }
