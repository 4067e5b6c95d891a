-- `learning::root::run` meets its contract: nothing is learned at first but the ends of the end of path.
-- Assumes nothing.
use Rattle.std.proofs.Common.{rules, arith}
use Rattle.evaluation.specs.Evaluated.{lent_valid}
use Rattle.evaluation.specs.Learned.{learned_first}
use Rattle.learning.proofs.root.run.Goals as goal

pub learn_all-requires : goal.learn_all-requires
learn_all-requires c = let long = c.fill_end.auto.rows in
    (rw c.new.ensures (learned_first c.args.q.now.lent c.args.area.now _ 256 (search rules) (omega (arith, c.requires.area_len)) (omega (arith, long, c.requires.n_in_bounds)) c.fill_end.ensures.rows), search rules)

pub bounds-q-5 : goal.bounds-q-5
bounds-q-5 c = omega (arith, (lent_valid c.args.q.now.lent).header.length_is)

pub overflow_sub-q : goal.overflow_sub-q
overflow_sub-q c = omega (arith, (lent_valid c.args.q.now.lent).header.some_entry)

pub evaluate-requires-clause-k_bound : goal.evaluate-requires-clause-k_bound
evaluate-requires-clause-k_bound c = let ok = lent_valid c.args.q.now.lent in (omega (arith, ok.header.some_entry), ok.root_node)
