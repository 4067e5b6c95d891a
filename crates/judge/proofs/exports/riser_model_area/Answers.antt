-- `judge::exports::riser_model_area` meets its contract.
-- Assumes nothing.
use Rattle.model.proofs.Judging.{wanted_few}
use Rattle.judge.proofs.exports.riser_model_area.Goals as goal

pub returns : goal.returns
returns c = record { answer = c.area_wanted.ensures; enough = rw c.area_wanted.ensures (wanted_few _) }
