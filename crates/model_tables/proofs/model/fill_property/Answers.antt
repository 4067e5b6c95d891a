-- `model_tables::model::fill_property` meets its contract, by `property_grown`.
-- Assumes nothing.
use Rattle.std.proofs.Common.{rules}
use Rattle.model_tables.specs.Tables.{is_property, property_grown, successors_stay}
use Rattle.model_tables.proofs.model.fill_property.Goals as goal

pub returns-then-matches-clause-grown : goal.returns-then-matches-clause-grown
returns-then-matches-clause-grown c =
    let a = c.args in
    rw c.store.ensures
    (property_grown a.d.now (is_property a.e.kind) a.e.x a.table.now c.property_set-set.result (search rules) (search rules) c.property_set-set.ensures)

pub returns-then-matches-clause-stay : goal.returns-then-matches-clause-stay
returns-then-matches-clause-stay c = rw c.store.ensures (successors_stay c.args.e.x c.args.table.now c.property_set-set.result)
