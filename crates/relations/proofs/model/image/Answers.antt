-- `relations::model::image` meets its contract: the rows of an axis begin at its row of node 0.
-- Assumes nothing.
use Rattle.std.proofs.Common.{◌≡◌, subst, ℕ, ◌+◌, arith, rules}
use Rattle.nodeset.specs.declared.NodeSet.{NodeSet}
use Rattle.nodeset.specs.Set.{width}
use Rattle.nodeset.specs.Stored.{set_at}
use Rattle.nodeset.specs.Members.{HasExactly, member_below}
use Rattle.relations.specs.Tables.{successors_row}
use Rattle.relations.specs.Members.{Image}
use Rattle.relations.specs.Covered.{every_covers, within_first}
use Rattle.relations.proofs.model.image.Goals as goal

pub union_within-requires : goal.union_within-requires
union_within-requires c =
    let a = c.args in
    let first = c.row_of.result in
    let all = c.below.result in
    within_first a.table.now width first a.s all (search rules) (every_covers a.table.now width first all c.below.ensures) (member_below a.s)

pub returns : goal.returns
returns c =
    let first = c.row_of in
    let a = c.args in
    let same : (u : ℕ) → first.result + u ≡ successors_row a.axis u = λ u. omega (arith, first.ensures) in
    subst (λ (row : ℕ → NodeSet). HasExactly (Image row a.s) c.union_within.result) (λ i u. set_at a.table.now (same u i)) c.union_within.ensures
