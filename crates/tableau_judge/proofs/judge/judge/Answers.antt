-- `tableau_judge::judge::judge` meets its contract: a pattern that is refused is so first.
-- Assumes nothing.
use Rattle.std.proofs.Common.{sym, ◌∙◌, ap, length}
use Rattle.std.proofs.lemmas.Result.{err_from_is_err_and}
use Rattle.pattern.specs.File.Reading.{finding_of}
use Rattle.tableau_judge.specs.JudgeLaws.{judging_pattern}
use Rattle.tableau_judge.proofs.judge.judge.Goals as goal

pub returns-in_err-n-clause-finding : goal.returns-in_err-n-clause-finding
returns-in_err-n-clause-finding c =
    let a = c.args in
    let r = err_from_is_err_and c.from_residual.result c.from_residual.ensures.1 in
    rw (r.1, r.2)
    (sym (judging_pattern a.p.now a.t.now (length a.area.now) _ _ (sym c.read.ensures ∙ ap finding_of c.in_err-n.was)))
