-- `model_tables::successors::fill_successors` meets its contract: the records passed are in the rows, by `linked_more`.
-- Assumes nothing.
use Rattle.std.proofs.Common.{ℕ, subst, arith}
use Rattle.model_tables.specs.Successors.{Linked, linked_none, linked_more}
use Rattle.model_tables.proofs.successors.fill_successors.Goals as goal

pub loop-i-init : goal.loop-i-init
loop-i-init c =
    linked_none c.args.d.now _ c.requires.by_index

pub loop-i-preserved : goal.loop-i-preserved
loop-i-preserved c =
    let l = c.loop-i in
    let v = c.requires.valid_model.edges l.i (rw c.edge_count-i-end.ensures at c.loop-i-test.true) in
    let n = c.requires.valid_model.header.narrow in
    rw c.add_edge.ensures
    (linked_more c.args.d.now l.i _ l.table (omega (arith, v.from_within, n)) v.axis_within (omega (arith, v.to_within, n))
    (omega arith) l.invariant)

pub returns : goal.returns
returns c =
    let l = c.loop-i in
    let a = c.args in
    subst (λ (k : ℕ). Linked a.d.now k a.table.now l.table) (omega (arith, c.edge_count-i-end.ensures)) l.invariant
