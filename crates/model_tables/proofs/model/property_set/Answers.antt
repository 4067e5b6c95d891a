-- `model_tables::model::property_set` meets its contract: of the nodes of the model, those that have the property are kept.
-- Assumes nothing.
use Rattle.std.proofs.Common.{◌≡◌, true, rules}
use Rattle.nodeset.specs.Filtered.{filtered_below}
use Rattle.model_records.specs.Layout.{node_count}
use Rattle.model_records.specs.Contents.{has_property}
use Rattle.model_tables.proofs.model.property_set.Goals as goal

pub returns : goal.returns
returns c =
    let a = c.args in
    filtered_below _ (λ u. has_property a.d.now a.p u ≡ true) (node_count a.d.now) c.filter_below.result c.requires.valid_model.header.narrow
    (λ u l b asked. let told : b ≡ has_property a.d.now a.p u = search rules in rw told (λ e. e, λ e. e))
    (rw c.node_count.ensures at c.filter_below.ensures)
