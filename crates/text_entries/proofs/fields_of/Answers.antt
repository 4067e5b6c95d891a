-- `text_entries::fields_of` meets its contract: the fields of a cell are in reach.
-- Assumes nothing.
use Rattle.std.proofs.Common.{arith}
use Rattle.text_entries.specs.Completing.{fields_small}
use Rattle.text_entries.proofs.fields_of.Goals as goal

pub number_of-requires : goal.number_of-requires
number_of-requires c =
    let reach = fields_small c.args.cells.now c.requires.cell_is.0 c.args.cell c.requires.cell_is.1 in
    omega (arith, reach.0, reach.1, reach.2, c.requires.cell_bound)

pub number_of-requires-2 : goal.number_of-requires-2
number_of-requires-2 c =
    let reach = fields_small c.args.cells.now c.requires.cell_is.0 c.args.cell c.requires.cell_is.1 in
    omega (arith, reach.0, reach.1, reach.2, c.requires.cell_bound)

pub number_of-requires-3 : goal.number_of-requires-3
number_of-requires-3 c =
    let reach = fields_small c.args.cells.now c.requires.cell_is.0 c.args.cell c.requires.cell_is.1 in
    omega (arith, reach.0, reach.1, reach.2, c.requires.cell_bound)
