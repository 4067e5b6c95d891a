-- `model_tables::model::tabulate` meets its contract, by `tabled`.
-- Assumes nothing.
use Rattle.std.proofs.Common.{arith}
use Rattle.pattern.specs.File.Reading.{count_of}
use Rattle.pattern.proofs.File.Valid.{valid}
use Rattle.model_tables.specs.Tables.{tabled}
use Rattle.model_tables.proofs.model.tabulate.Goals as goal

pub returns : goal.returns
returns c =
    let p = c.args.p.now in
    rw (c.store.ensures, c.below-set.ensures, c.node_count.ensures)
    (tabled c.requires.valid_model p _ _ _ _ (valid p (count_of p) c.requires.p_value) c.requires.names_listed c.fill_successors.ensures
    c.fill_properties.ensures.made c.fill_properties.ensures.stay c.list_names.ensures (omega arith))
