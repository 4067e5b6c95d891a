-- `learning::learn::Plan::learn_all` meets its contract: what the marks say stays so with each entry.
-- Assumes nothing.
use Rattle.std.proofs.Common.{ap, ◌≡◌, sym, ◌∙◌, ◌+◌, arith}
use Rattle.std.specs.Int.{from_bool}
use Rattle.pattern.specs.File.Table.{is_node}
use Rattle.slots.specs.Area.{place_of, place_first, place_next, nodes_few}
use Rattle.evaluation.specs.Evaluated.{lent_valid}
use Rattle.learning.proofs.learn.Plan.learn_all.Goals.{After-from-place, then-self-k-ne0, else-self-k-ne0}
use Rattle.learning.proofs.learn.Plan.learn_all.Goals as goal

pub bounds-p-5 : goal.bounds-p-5
bounds-p-5 c = omega (arith, (lent_valid c.args.self.now.q.now.lent).header.length_is)

pub loop-k-init : goal.loop-k-init
loop-k-init c = (c.requires, sym (place_first c.args.self.now.q.now.p.now))

pub sort_at-requires : goal.sort_at-requires
sort_at-requires c = omega (arith, (lent_valid c.args.self.now.q.now.lent).header.length_is)

-- one entry on, the count is the next place
place_is : (c : After-from-place)
    → c.loop-k.place + c.from-place.result ≡ place_of c.args.self.now.q.now.p.now (c.loop-k.k + 1)
place_is c = place_next c.args.self.now.q.now.p.now c.loop-k.k c.loop-k.place c.from-place.result c.loop-k.invariant.1 (c.from-place.ensures ∙ ap from_bool (c.is_node.ensures ∙ ap is_node c.sort_at.ensures))

pub overflow_add-place : goal.overflow_add-place
overflow_add-place c = record { fits = omega (arith, place_is (goal.at.overflow_add-place c).After-from-place, nodes_few c.args.self.now.q.now.p.now (c.loop-k.k + 1), (lent_valid c.args.self.now.q.now.lent).header.one_byte) }

pub loop-k-preserved : goal.loop-k-preserved
loop-k-preserved c = (
  elim c.if-self-k-ne0.branch [
    | then-self-k-ne0 w ↦ rw w.memory-is w.learn.ensures
    | else-self-k-ne0 w ↦ rw w.memory-is c.loop-k.invariant.0
  ],
  place_is (goal.at.loop-k-preserved c).After-from-place,
)
