-- `text_cells::build` meets its contract: the numbers hold what the machine has made of the tokens passed.
-- Assumes nothing.
use Rattle.text_cells.specs.Held.{Going}
use Rattle.text_cells.proofs.build.Given as goal

abbrev pub invariant-loop-i : goal.invariant-loop-i
invariant-loop-i l = Going l.tokens l.n l.initial.cells l.cells l.items l.built.at l.built.count l.i
