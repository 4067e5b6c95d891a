-- `model_file::check` meets its contract: the checks are those of `model_check`, in its order.
-- Assumes nothing.
use Rattle.std.proofs.Common.{sym}
use Rattle.std.proofs.lemmas.Result.{err_from_is_err_and}
use Rattle.model_records.specs.Checks.{model_check}
use Rattle.model_records.specs.Valid.{header_passes}
use Rattle.model_file.proofs.check.Goals as goal

pub returns-in_err-check_header : goal.returns-in_err-check_header
unfolding model_check
returns-in_err-check_header c =
    let p = err_from_is_err_and c.from_residual.result c.from_residual.ensures.1 in
    rw (p.1, p.2, sym c.in_err-check_header.ensures)

pub check_names-requires : goal.check_names-requires
check_names-requires c = (header_passes c.args.d.now (sym c.in_ok-check_header.ensures)).length_is

pub returns-in_err-check_names : goal.returns-in_err-check_names
unfolding model_check
returns-in_err-check_names c =
    let p = err_from_is_err_and c.from_residual-in_err-check_names.result c.from_residual-in_err-check_names.ensures.1 in
    rw (p.1, p.2, sym c.in_ok-check_header.ensures, sym c.in_err-check_names.ensures)

pub check_edges-requires : goal.check_edges-requires
check_edges-requires c = (header_passes c.args.d.now (sym c.in_ok-check_header.ensures)).length_is

pub returns : goal.returns
unfolding model_check
returns c = rw (sym c.in_ok-check_header.ensures, sym c.in_ok-check_names.ensures) c.check_edges.ensures
