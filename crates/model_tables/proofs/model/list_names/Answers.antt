-- `model_tables::model::list_names` meets its contract: the rows of the records passed are set, by `filled_more`; no two records have one name.
-- Assumes nothing.
use Rattle.std.proofs.Common.{ℕ, ◌<◌, ◌≡◌, subst, arith}
use Rattle.model_records.specs.Layout.{name_count, node_of_record}
use Rattle.relations.specs.Filled.{Filled, exactly_only, filled_none, filled_more}
use Rattle.model_tables.specs.Tables.{listed_row, listed_apart}
use Rattle.model_tables.proofs.model.list_names.Goals.{After-at-record}
use Rattle.model_tables.proofs.model.list_names.Goals as goal

pub loop-j-init : goal.loop-j-init
loop-j-init c =
    let d = c.args.d.now in
    filled_none (listed_row d) (λ j u. u ≡ node_of_record d j) _

-- the record of a turn is one of those that the count gives
counted : (c : After-at-record)
    → c.loop-j.j < name_count c.args.d.now
counted c = rw c.name_count-j-end.ensures at c.loop-j-test.true

pub only-set-requires : goal.only-set-requires
only-set-requires c =
    let v = c.requires.valid_model.names c.loop-j.j (counted (goal.at.only-set-requires c).After-at-record) in
    omega (arith, c.at-record.ensures.node, v.node_is_within, c.requires.valid_model.header.narrow)

pub store-requires : goal.store-requires
store-requires c =
    let l = c.loop-j in
    let v = c.requires.valid_model.names l.j (counted (goal.at.store-requires c).After-at-record) in
    omega (arith, c.at-record.ensures.name, v.name_within)

pub loop-j-preserved : goal.loop-j-preserved
loop-j-preserved c =
    let l = c.loop-j in
    let d = c.args.d.now in
    let b = counted (goal.at.loop-j-preserved c).After-at-record in
    let v = c.requires.valid_model.names l.j b in
    rw (c.store.ensures, c.at-record.ensures.name)
    (filled_more (listed_row d) (λ j u. u ≡ node_of_record d j) l.j _ l.table _ (listed_apart c.requires.valid_model l.j b)
    (omega (arith, v.name_within))
    (rw (c.only-set.ensures, c.at-record.ensures.node) (exactly_only (node_of_record d l.j) (omega (arith, v.node_is_within, c.requires.valid_model.header.narrow))))
    l.invariant)

pub returns : goal.returns
returns c =
    let l = c.loop-j in
    let a = c.args in
    let d = a.d.now in
    subst (λ (k : ℕ). Filled (listed_row d) (λ j u. u ≡ node_of_record d j) k a.table.now l.table) (omega arith) l.invariant
