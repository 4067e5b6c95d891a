-- `slots::area::node_entries` meets its contract: entry by entry the count is the place of the next set.
-- Assumes nothing.
use Rattle.std.proofs.Common.{◌≡◌, sym, ◌∙◌, ap, ◌+◌, arith}
use Rattle.std.specs.Int.{from_bool}
use Rattle.pattern.specs.File.Table.{is_node}
use Rattle.pattern.specs.File.Reading.{count_of}
use Rattle.pattern.proofs.File.Valid.{valid}
use Rattle.slots.specs.Area.{place_of, place_first, place_next, nodes_few}
use Rattle.slots.proofs.area.node_entries.Goals.{After-from-found}
use Rattle.slots.proofs.area.node_entries.Goals as goal

pub loop-k-init : goal.loop-k-init
loop-k-init c = sym (place_first c.args.p.now)

pub sort_at-requires : goal.sort_at-requires
sort_at-requires c = let v = valid _ _ c.requires in omega (arith, v.header.length_is, v.count_is)

-- the count of one entry more is the next place
next : (c : After-from-found)
    → c.loop-k.found + c.from-found.result ≡ place_of c.args.p.now (c.loop-k.k + 1)
next c = place_next c.args.p.now c.loop-k.k c.loop-k.found c.from-found.result c.loop-k.invariant (c.from-found.ensures ∙ ap from_bool (c.is_node.ensures ∙ ap is_node c.sort_at.ensures))

pub overflow_add-found : goal.overflow_add-found
overflow_add-found c = let v = valid _ _ c.requires in
    record { fits = omega (arith, next (goal.at.overflow_add-found c).After-from-found, nodes_few c.args.p.now (c.loop-k.k + 1), v.header.one_byte, v.count_is) }

pub loop-k-preserved : goal.loop-k-preserved
loop-k-preserved c = next (goal.at.loop-k-preserved c).After-from-found

pub returns : goal.returns
returns c = let all : c.loop-k.k ≡ count_of c.args.p.now = omega (arith, (valid _ _ c.requires).count_is) in
    c.loop-k.invariant ∙ ap (place_of c.args.p.now) all
