-- `relations::model::successors` meets its contract.
-- Assumes nothing.
use Rattle.relations.proofs.model.successors.Goals as goal

pub returns : goal.returns
returns c = rw c.row_of.ensures at c.load.ensures
