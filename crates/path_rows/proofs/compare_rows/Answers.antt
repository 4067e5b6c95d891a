-- `path_rows::compare_rows` meets its contract: of the nodes below n, those whose rows have a pair are kept.
-- Assumes nothing.
use Rattle.std.proofs.Common.{◌+◌, rules}
use Rattle.nodeset.specs.Stored.{set_at}
use Rattle.nodeset.specs.Filtered.{filtered_below}
use Rattle.relations.specs.Values.{PairFound}
use Rattle.path_rows.proofs.compare_rows.Goals as goal

pub returns : goal.returns
returns c F on inside =
    let a = c.args in
    filtered_below _ _ a.n c.filter_below.result (search rules)
    (λ u l b asked.
    let told : PairFound a.alike.now a.channel a.c (set_at a.rows.now (a.first + u)) (set_at a.rows.now (a.second + u)) b = search rules in
    told.found F on (inside u l))
    c.filter_below.ensures
