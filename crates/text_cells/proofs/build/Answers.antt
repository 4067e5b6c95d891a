-- `text_cells::build` meets its contract: the numbers hold what the machine has made of the tokens passed.
-- Assumes nothing.
use Rattle.text_cells.specs.Held.{going_start, going_on_law}
use Rattle.text_cells.proofs.build.Goals as goal

pub loop-i-init : goal.loop-i-init
loop-i-init c = going_start c.args.tokens.now c.args.cells.now c.args.n c.requires.2 c.requires.1 c.requires.0

pub loop-i-preserved : goal.loop-i-preserved
loop-i-preserved c =
    let l = c.loop-i in
    going_on_law c.args.tokens.now c.args.cells.now c.args.n c.requires.2 c.requires.1 c.requires.0 l.cells l.items _ _ l.built.at l.built.count _ _ l.i
    c.loop-i-test.true l.invariant c.take_token-built.ensures
