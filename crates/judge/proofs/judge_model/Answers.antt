-- `judge::judge_model` meets its contract: it is what `model_judge` found, so it keeps the promise.
-- Assumes nothing.
use Rattle.model.specs.Judging.{finding_of}
use Rattle.judge.specs.Together.{model_promised}
use Rattle.judge.proofs.judge_model.Goals as goal

pub returns : goal.returns
returns c =
    model_promised c.args.p.now c.args.d.now c.args.area.now _ (finding_of c.judge.result) c.judge.ensures.finding c.judge.ensures.area
