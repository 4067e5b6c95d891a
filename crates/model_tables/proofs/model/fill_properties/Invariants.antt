-- `model_tables::model::fill_properties` meets its contract: the rows of the entries passed are made, by `made_more`.
-- Assumes nothing.
use Rattle.model_tables.specs.Entries.{MadeBelow}
use Rattle.model_tables.specs.Tables.{PropertyMade, is_property, SuccessorsStay}
use Rattle.model_tables.proofs.model.fill_properties.Given as goal

abbrev pub invariant-loop-k : goal.invariant-loop-k
invariant-loop-k l = MadeBelow (PropertyMade l.d) is_property l.p l.k l.table × SuccessorsStay l.initial.table l.table
