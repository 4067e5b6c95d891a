-- `judge::exports::riser_judge_model` meets its contract: it packs what judging finds.
-- Assumes nothing.
use Rattle.model.specs.Judging.{finding_of}
use Rattle.judge.specs.Told.{model_told}
use Rattle.judge.proofs.exports.riser_judge_model.Goals as goal

pub returns : goal.returns
returns c =
    let is = model_told c.args.p.now c.args.d.now c.args.area.now _ (finding_of c.judge_model.result) _ c.judge_model.ensures c.model_answer.ensures in
    record { answer = is.0; finding = is.1.0; promise = is.1.1.0; tableaux = is.1.1.1 }
