-- `relations::values::alike_to` meets its contract.
-- Assumes nothing.
use Rattle.relations.proofs.values.alike_to.Goals as goal

pub returns : goal.returns
returns c = rw c.row_of.ensures at c.load.ensures
