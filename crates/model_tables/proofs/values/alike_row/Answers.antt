-- `model_tables::values::alike_row` meets its contract: by `same_row` where the lowest node of the bucket has the value, and else by `near_row`.
-- Assumes nothing.
use Rattle.std.proofs.Common.{sym, ◌∙◌, ◌<◌, eqb, rules}
use Rattle.nodeset.specs.Filtered.{filtered_is}
use Rattle.model_records.specs.Layout.{node_count, value_on}
use Rattle.model_tables.specs.Buckets.{Near, bucket_near}
use Rattle.model_tables.specs.Values.{same_row, near_row}
use Rattle.model_tables.proofs.values.alike_row.Goals.{After-load-near}
use Rattle.model_tables.proofs.values.alike_row.Goals as goal

-- the bucket has the nodes near it
near : (c : After-load-near) → Near c.args.d.now c.args.e c.args.u c.load-near.result
near c =
    rw (c.load-near.ensures, c.bucket_of.ensures, c.value_on-value.ensures)
    (bucket_near c.args.d.now c.args.e _ c.args.u c.requires.in_buckets)

pub returns-then-value_on-value : goal.returns-then-value_on-value
returns-then-value_on-value c =
    rw (c.load.ensures, c.row_of.ensures)
    (same_row c.args.d.now c.args.e c.args.u c.in-Some.v _
    (sym c.value_on.ensures ∙ c.if-value_on-value.true ∙ c.value_on-value.ensures)
    (c.requires.alike_rows_in_bounds.1 c.in-Some.v c.if-v-u.true))

pub filter-requires : goal.filter-requires
filter-requires c v h =
    let within : v < node_count c.args.d.now = (near (goal.at.filter-requires c).After-load-near).inside v h in
    search rules

pub returns : goal.returns
returns c =
    let a = c.args in
    near_row a.d.now a.e a.u c.load-near.result c.filter.result (near (goal.at.returns c).After-load-near)
    (filtered_is _ (λ v. eqb (value_on a.d.now a.e a.u) (value_on a.d.now a.e v)) c.load-near.result c.filter.result
    (λ v m b asked. search rules)
    c.filter.ensures)
