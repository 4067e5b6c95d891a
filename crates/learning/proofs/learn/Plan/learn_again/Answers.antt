-- `learning::learn::Plan::learn_again` meets its contract: an entry that is no node is a path.
-- Assumes nothing.
use Rattle.evaluation.specs.Evaluated.{entry_long}
use Rattle.evaluation.specs.Learned.{not_node_path}
use Rattle.learning.proofs.learn.Plan.learn_again.Goals as goal

pub sort_at-requires : goal.sort_at-requires
sort_at-requires c = entry_long c.args.self.now.q.now.lent c.args.j c.requires.j_bound

pub learn_in_slot-requires-clause-j_bound : goal.learn_in_slot-requires-clause-j_bound
learn_in_slot-requires-clause-j_bound c =
    (c.requires.j_bound, not_node_path c.args.self.now.q.now.lent c.args.j c.requires.j_bound (rw (c.is_node.ensures, c.sort_at.ensures) at c.if-is_node.false))
