-- `relations::model::before` meets its contract: of the nodes below n, those that lead into the set are kept.
-- Assumes nothing.
use Rattle.std.proofs.Common.{◌≡◌, not, rules}
use Rattle.nodeset.specs.Set.{is_empty, meet}
use Rattle.nodeset.specs.Stored.{set_at}
use Rattle.nodeset.specs.Filtered.{filtered_below}
use Rattle.relations.specs.Tables.{successors_row}
use Rattle.relations.specs.Members.{meets}
use Rattle.relations.proofs.model.before.Goals as goal

pub returns : goal.returns
returns c =
    let a = c.args in
    filtered_below _ _ a.n c.filter_below.result c.requires.n_le_width.0
    (λ u l b asked.
    let told : b ≡ not (is_empty (meet (set_at a.table.now (successors_row a.axis u)) a.s)) = search rules in
    rw told (meets _ _))
    c.filter_below.ensures
