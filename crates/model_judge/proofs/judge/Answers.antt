-- `model_judge::judge` meets its contract: the pattern decides, then 9, then the checks of the model, and then where the root holds.
-- Assumes nothing.
use Rattle.std.proofs.Common.{◌≡◌, sym, ◌∙◌, ap, ℕ, length}
use Rattle.std.proofs.lemmas.Result.{err_from_is_err_and}
use Rattle.wire.specs.Cleared.{cleared, cleared_front}
use Rattle.pattern.specs.Checks.Finding.{found, passes, ◌then◌}
use Rattle.pattern.specs.File.Reading.{pattern_check}
use Rattle.pattern.specs.File.Valid.{read_passes, read_refuses}
use Rattle.pattern.proofs.File.Valid.{valid_read}
use Rattle.model_records.specs.declared.Order.{Order}
use Rattle.model_records.specs.Checks.{model_check}
use Rattle.model_records.specs.Valid.{ValidModel}
use Rattle.model_records.proofs.Valid.{model_valid}
use Rattle.model.specs.Judging.{judging_by, judging_check, names_check}
use Rattle.model.proofs.Judging.{Allowed, area_decides, model_decides, checks_pass, judging_finds, judging_refuses, root_judged}
use Rattle.model_judge.proofs.judge.Goals.{In_ok-n, Else-area-need, In_ok-check, In_ok-check_listed}
use Rattle.model_judge.proofs.judge.Goals as goal

pub returns-in_err-n-clause-finding : goal.returns-in_err-n-clause-finding
unfolding judging_by judging_check
returns-in_err-n-clause-finding c =
    let p = err_from_is_err_and c.from_residual.result c.from_residual.ensures.1 in
    rw (p.1, p.2, read_refuses c.args.p.now _ _ (sym c.in_err-n.ensures))

-- the pattern was read
pattern-passed : (c : In_ok-n) → pattern_check c.args.p.now ≡ passes
pattern-passed c = (read_passes _ _ (sym c.in_ok-n.ensures)).0

pub returns-then-area-need-clause-finding : goal.returns-then-area-need-clause-finding
returns-then-area-need-clause-finding c = let a = c.args in
    sym (judging_refuses a.p.now a.d.now (length a.area.now) 9 0 (area_decides Order.Rising a.p.now a.d.now (length a.area.now) (pattern-passed (goal.at.returns-then-area-need-clause-finding c).In_ok-n) (rw c.area_bytes-need.ensures at c.if-area-need.true)))

-- where the area is long enough, the checks of the model decide
decided : (c : Else-area-need)
    → let a = c.args in
    judging_check Order.Rising a.p.now a.d.now (length a.area.now) ≡ model_check Order.Rising a.d.now then names_check a.p.now a.d.now
decided c = let a = c.args in
    model_decides Order.Rising a.p.now a.d.now (length a.area.now) (pattern-passed (goal.at.Else-area-need c).In_ok-n) (rw c.area_bytes-need.ensures at c.if-area-need.false)

pub returns-in_err-check-clause-finding : goal.returns-in_err-check-clause-finding
returns-in_err-check-clause-finding c = let a = c.args in
    let p = err_from_is_err_and c.from_residual-in_err-check.result c.from_residual-in_err-check.ensures.1 in
    rw (p.1, p.2) (sym (judging_refuses a.p.now a.d.now (length a.area.now) _ _ (decided (goal.at.returns-in_err-check-clause-finding c).Else-area-need ∙ rw (sym c.in_err-check.ensures))))

-- the model passed its checks
model-passed : (c : In_ok-check) → ValidModel c.args.d.now
model-passed c = (model_valid Order.Rising c.args.d.now (sym c.in_ok-check.ensures)).0

pub check_listed-requires-clause-valid_model : goal.check_listed-requires-clause-valid_model
check_listed-requires-clause-valid_model c = model-passed (goal.at.check_listed-requires-clause-valid_model c).In_ok-check

pub returns-in_err-check_listed-clause-finding : goal.returns-in_err-check_listed-clause-finding
returns-in_err-check_listed-clause-finding c = let a = c.args in
    let p = err_from_is_err_and c.from_residual-in_err-check_listed.result c.from_residual-in_err-check_listed.ensures.1 in
    rw (p.1, p.2) (sym (judging_refuses a.p.now a.d.now (length a.area.now) _ _ (decided (goal.at.returns-in_err-check_listed-clause-finding c).Else-area-need ∙ rw (sym c.in_ok-check.ensures, sym c.in_err-check_listed.ensures))))

-- nothing is to be refused where the function goes on
checked : (c : In_ok-check_listed)
    → let a = c.args in
    judging_check Order.Rising a.p.now a.d.now (length a.area.now) ≡ passes
checked c = decided (goal.at.In_ok-check_listed c).Else-area-need ∙ rw (sym c.in_ok-check.ensures, sym c.in_ok-check_listed.ensures)

allowed : (c : In_ok-check_listed)
    → let a = c.args in
    Allowed Order.Rising a.p.now a.d.now (length a.area.now)
allowed c = let a = c.args in (checks_pass Order.Rising a.p.now a.d.now (length a.area.now)).0 (checked c)

pub root_nodes-requires-clause-p_value : goal.root_nodes-requires-clause-p_value
root_nodes-requires-clause-p_value c = valid_read _ _ (allowed (goal.at.root_nodes-requires-clause-p_value c).In_ok-check_listed).0

pub root_nodes-requires-clause-valid_model : goal.root_nodes-requires-clause-valid_model
root_nodes-requires-clause-valid_model c = model-passed (goal.at.root_nodes-requires-clause-valid_model c).In_ok-check

pub root_nodes-requires-clause-names_listed : goal.root_nodes-requires-clause-names_listed
root_nodes-requires-clause-names_listed c = (allowed (goal.at.root_nodes-requires-clause-names_listed c).In_ok-check_listed).4

pub returns-clause-finding : goal.returns-clause-finding
returns-clause-finding c = let a = c.args in
    let ok = (goal.at.returns-clause-finding c).In_ok-check_listed in
    ap found (c.judged.ensures ∙ root_judged a.p.now (allowed ok).2 c.root_nodes.result c.root_nodes.ensures.nodes)
    ∙ sym (judging_finds a.p.now a.d.now (length a.area.now) (checked ok))

pub returns-clause-area : goal.returns-clause-area
returns-clause-area c = let area = c.args.area.now in
    cleared_front c.area_bytes-need.result area _ c.if-area-need.false c.root_nodes.ensures.work
    ∙ ap (λ (need : ℕ). cleared need area) c.area_bytes-need.ensures
