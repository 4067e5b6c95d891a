-- `tableau_judge::judge::judge_read` meets its contract: the area is asked for, then the header is read, and then the steps are checked, on the
-- front of the area.
-- Assumes nothing.
use Rattle.std.proofs.Common.{◌≡◌, refl, sym, ◌∙◌, ap, arith, ◌*◌, ◌≤◌, length}
use Rattle.std.proofs.lemmas.Result.{err_from_is_err_and}
use Rattle.wire.specs.Cleared.{front_length, cleared_front}
use Rattle.pattern.specs.Checks.Finding.{found}
use Rattle.tableau.specs.Judging.{max_steps, step_bytes, area_need}
use Rattle.tableau_judge.specs.Headers.{header_of, header_finding}
use Rattle.tableau_judge.specs.JudgeLaws.{judging_area, judging_header, judging_steps, steps_there, steps_part}
use Rattle.tableau_judge.proofs.judge.judge_read.Goals.{In_ok-start}
use Rattle.tableau_judge.proofs.judge.judge_read.Goals as goal

pub returns-then-area-lt-AREA : goal.returns-then-area-lt-AREA
returns-then-area-lt-AREA c =
    let a = c.args in record {
      finding = sym (judging_area a.p.now a.t.now (length a.area.now) a.n c.requires c.if-area-lt-AREA.true);
      area = refl;
    }

-- what the header says
read : (c : In_ok-start)
    → let a = c.args in
    header_of a.p.now a.t.now ≡ found c.in_ok-start.field-0
read c = sym (c.read_header.ensures _ c.used_names-used.ensures) ∙ ap header_finding c.in_ok-start.was

-- so the steps are there
steps-are : (c : In_ok-start)
    → let a = c.args in
    let steps = c.in_ok-start.field-0.steps in
    (8 ≤ length a.t.now) × (length (step_bytes a.t.now) ≡ 6 * steps) × (steps ≤ max_steps)
steps-are c =
    let a = c.args in
    steps_there a.p.now a.t.now c.in_ok-start.field-0 (read c)

pub slice_bounds-check_steps-start : goal.slice_bounds-check_steps-start
slice_bounds-check_steps-start c = (steps-are (goal.at.slice_bounds-check_steps-start c).In_ok-start).0

pub slice_bounds-check_steps-count : goal.slice_bounds-check_steps-count
slice_bounds-check_steps-count c = (steps-are (goal.at.slice_bounds-check_steps-count c).In_ok-start).0

pub check_steps-requires : goal.check_steps-requires
check_steps-requires c =
    let steps = steps-are (goal.at.check_steps-requires c).In_ok-start in record {
      p_value = c.requires;
      set_of = c.used_names-used.ensures;
      steps_len = (rw (steps_part c.args.t.now) steps.1, steps.2);
      area_len = front_length area_need c.args.area.now (omega arith);
    }

pub returns-in_err-start-clause-finding : goal.returns-in_err-start-clause-finding
returns-in_err-start-clause-finding c =
    let a = c.args in
    let r = err_from_is_err_and c.from_residual.result c.from_residual.ensures.1 in
    rw (r.1, r.2)
    (sym
    (judging_header a.p.now a.t.now (length a.area.now) a.n _ _ c.requires (omega arith)
    (sym (c.read_header.ensures _ c.used_names-used.ensures) ∙ ap header_finding c.in_err-start.was)))

pub returns : goal.returns
returns c =
    let a = c.args in
    let room : area_need ≤ length a.area.now = omega arith in record {
      finding = rw (steps_part a.t.now) at c.check_steps.ensures.finding
          ∙ sym (judging_steps a.p.now a.t.now (length a.area.now) a.n c.in_ok-start.field-0 c.requires room (read (goal.at.returns c).In_ok-start));
      area = cleared_front area_need a.area.now _ room c.check_steps.ensures.area ∙ sym (c.check_steps.ensures.clears a.area.now);
    }
