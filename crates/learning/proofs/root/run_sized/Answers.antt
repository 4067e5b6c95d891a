-- `learning::root::run_sized` meets its contract, whatever size is taken.
-- Assumes nothing.
use Rattle.std.proofs.Common.{◌/◌, ◌≤◌, arith, length}
use Rattle.pattern.specs.File.Reading.{count_of}
use Rattle.evaluation.specs.Evaluated.{lent_valid}
use Rattle.slots.specs.Area.{nodes_few}
use Rattle.learning.proofs.root.run_sized.Goals.{After-last_uses}
use Rattle.learning.proofs.root.run_sized.Goals as goal

pub bounds-q-5 : goal.bounds-q-5
bounds-q-5 c = omega (arith, (lent_valid c.args.q.now.lent).header.length_is)

-- the node entries are among the entries
nodes-within : (c : After-last_uses)
    → let a = c.args in
    length a.area.now / 8 ≤ count_of a.q.now.p.now
nodes-within c = omega (arith, c.requires.area_len, nodes_few c.args.q.now.p.now (count_of c.args.q.now.p.now))

pub overflow_cast-nodes : goal.overflow_cast-nodes
overflow_cast-nodes c = record { fits = omega (arith, nodes-within (goal.at.overflow_cast-nodes c).After-last_uses, (lent_valid c.args.q.now.lent).header.one_byte) }

pub overflow_sub-q : goal.overflow_sub-q
overflow_sub-q c = nodes-within (goal.at.overflow_sub-q c).After-last_uses
