-- `line::Line::put_number` meets its contract: what `io` spells are the number's digits, five at most.
-- Assumes nothing.
use Rattle.std.proofs.Common.{◌≡◌, ◌≤◌, ◌+◌, arith, length}
use Rattle.line.specs.Line.{number}
use Rattle.line.specs.Spelling.{five_digits}
use Rattle.line.specs.Filling.{put_at, number_put}
use Rattle.line.proofs.Line.put_number.Goals.{After-put-2}
use Rattle.line.proofs.Line.put_number.Goals as goal

pub put-requires-2 : goal.put-requires-2
put-requires-2 c =
    let few = five_digits c.decimal-k.result c.args.n c.decimal-k.ensures.len c.ranges.n.fits in
    omega (arith, few, c.put.ensures.put.ends, c.decimal-k.ensures.in_bounds.1, c.requires)

spelt : (c : After-put-2)
    → let old = c.args.self.now in
    let new = c.put-2.new.self in
    (new.len ≡ old.len + length (number c.args.n)) × (new.len ≤ old.len + 6) × (new.buf.now ≡ put_at old.buf.now old.len (number c.args.n))
spelt c =
    let line = c.args.self.now in
    number_put line.buf.now _ _ _ line.len c.args.n c.decimal-k.result _ _ c.put.ensures.room c.decimal-k.ensures.len c.ranges.n.fits c.decimal-k.ensures.digits c.decimal-k.ensures.in_bounds.1 c.put.ensures.put.ends c.put.ensures.put.stands c.put-2.ensures.put.ends c.put-2.ensures.put.stands

pub returns-clause-put : goal.returns-clause-put
returns-clause-put c = let h = spelt (goal.at.returns-clause-put c).After-put-2 in record { stands = h.2; ends = h.0 }

pub returns-clause-short : goal.returns-clause-short
returns-clause-short c = (spelt (goal.at.returns-clause-short c).After-put-2).1
