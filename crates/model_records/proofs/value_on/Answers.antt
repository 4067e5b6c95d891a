-- `model_records::value_on` meets its contract: the value stands behind the property set and the values of the channels before.
-- Assumes nothing.
use Rattle.model_records.proofs.value_on.Goals as goal

pub returns : goal.returns
returns c = rw c.node_record.ensures at c.word.ensures
