-- `model_tables::model::list_names` meets its contract: the rows of the records passed are set, by `filled_more`; no two records have one name.
-- Assumes nothing.
use Rattle.std.proofs.Common.{◌≡◌}
use Rattle.model_records.specs.Layout.{node_of_record}
use Rattle.relations.specs.Filled.{Filled}
use Rattle.model_tables.specs.Tables.{listed_row}
use Rattle.model_tables.proofs.model.list_names.Given as goal

abbrev pub invariant-loop-j : goal.invariant-loop-j
invariant-loop-j l = Filled (listed_row l.d) (λ j u. u ≡ node_of_record l.d j) l.j l.initial.table l.table
