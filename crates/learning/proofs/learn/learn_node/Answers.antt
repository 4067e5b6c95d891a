-- `learning::learn::learn_node` meets its contract, by the law `learned_node`.
-- Assumes nothing.
use Rattle.std.proofs.Common.{arith, refl}
use Rattle.slots.specs.Area.{set_room, nodes_few}
use Rattle.evaluation.specs.Evaluated.{lent_valid}
use Rattle.evaluation.specs.Learned.{learned_node}
use Rattle.learning.proofs.learn.learn_node.Goals as goal

pub store-requires : goal.store-requires
store-requires c = rw c.requires.k_bound.2 (set_room c.args.q.now.p.now c.args.memory.now.area.now c.requires.learned.area_long c.args.k c.requires.k_bound.0 c.requires.k_bound.1)

pub know-requires : goal.know-requires
know-requires c = omega (arith, c.requires.k_bound.0, c.requires.k_bound.2, nodes_few c.args.q.now.p.now c.args.k, (lent_valid c.args.q.now.lent).header.one_byte)

pub returns : goal.returns
returns c = rw (c.know.ensures, c.store.ensures, c.requires.k_bound.2) (learned_node c.args.q.now.lent c.requires.learned c.args.k c.evaluate-s.result c.requires.k_bound.0 c.requires.k_bound.1 c.evaluate-s.ensures, refl)
