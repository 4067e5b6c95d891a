-- `model_tables::successors::add_edge` meets its contract: the row is that of the record, said once where it is known, and within the table.
-- Assumes nothing.
use Rattle.std.proofs.Common.{◌≡◌, ap, ◌∙◌, arith}
use Rattle.relations.specs.Tables.{successors_row}
use Rattle.model_records.specs.declared.Edge.{Edge}
use Rattle.model_tables.specs.Successors.{edge_row}
use Rattle.model_tables.proofs.successors.add_edge.Goals.{After-row_of-row}
use Rattle.model_tables.proofs.successors.add_edge.Goals as goal

row_is : (c : After-row_of-row) → let a = c.args in c.row_of-row.result ≡ edge_row a.d.now a.i
row_is c = c.row_of-row.ensures ∙ ap (λ (e : Edge). successors_row e.axis e.from) c.at-edge.ensures

pub load-set-requires : goal.load-set-requires
load-set-requires c =
    let v = c.requires.valid_model.edges c.args.i c.requires.i_bound in
    omega (arith, row_is (goal.at.load-set-requires c).After-row_of-row, v.from_within, v.axis_within, c.requires.valid_model.header.narrow, c.requires.successors_rows_in_bounds)

pub insert-grown-requires : goal.insert-grown-requires
insert-grown-requires c =
    let v = c.requires.valid_model.edges c.args.i c.requires.i_bound in
    omega (arith, ap (λ (e : Edge). e.to) c.at-edge.ensures, v.to_within, c.requires.valid_model.header.narrow)

pub store-requires : goal.store-requires
store-requires c =
    let v = c.requires.valid_model.edges c.args.i c.requires.i_bound in
    omega (arith, row_is (goal.at.store-requires c).After-row_of-row, v.from_within, v.axis_within, c.requires.valid_model.header.narrow, c.requires.successors_rows_in_bounds)

pub returns : goal.returns
returns c =
    c.store.ensures ∙ rw (c.insert-grown.ensures, c.load-set.ensures, row_is (goal.at.returns c).After-row_of-row, c.at-edge.ensures)
