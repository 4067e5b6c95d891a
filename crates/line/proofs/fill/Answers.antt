-- `line::fill` meets its contract: the parts of each report's line stand one behind the other.
-- Assumes nothing.
use Rattle.std.proofs.Common.{◌≡◌, List, [], ℕ, ◌++◌, rules}
use Rattle.wire.specs.Fields.{text}
use Rattle.line.specs.declared.Line.{Line}
use Rattle.line.specs.Line.{line_of}
use Rattle.line.specs.Filling.{Put, LineFilled, filled_none, filled_more}
use Rattle.line.proofs.fill.Goals.{in-Closed, in-Met, in-Unmet, in-Written, in-Refused}
use Rattle.line.proofs.fill.Goals as goal

-- a further part
more : {front part before bytes after : List ℕ} {at end : ℕ} → LineFilled front before bytes at → Put part bytes at after end
    → LineFilled (front ++ part) before after end
more {front} {part} {before} {bytes} {after} {at} {end} h p = filled_more front part before bytes after at end h p.stands p.ends

-- the buffer that was lent comes back as the line left it
back : {front before bytes after : List ℕ} {end : ℕ} → after ≡ bytes → LineFilled front before bytes end → LineFilled front before after end
back e h = rw e h

pub returns : goal.returns
returns c = back (search rules) filled
  where
    none : LineFilled [] c.args.buf.now c.args.buf.now 0
    none = filled_none c.args.buf.now

    last : {front : List ℕ} {line : Line} → c.match-report.line ≡ line → LineFilled front c.args.buf.now line.buf.now line.len
        → LineFilled (front ++ text "\n") c.args.buf.now c.put-2.new.self.buf.now c.put-2.new.self.len
    last {front} {line} e h = more (rw e h) c.put-2.ensures.put

    filled : LineFilled (line_of c.args.report) c.args.buf.now c.put-2.new.self.buf.now c.put-2.new.self.len
    filled = elim c.match-report.branch [
      | in-Closed w ↦
          let word = more none w.put.ensures.put in
          let two = more (more word w.put_number.ensures.put) w.put_number-in-Closed.ensures.put in
          let four = more (more two w.put_number-in-Closed-2.ensures.put) w.put_number-in-Closed-3.ensures.put in
          rw w.in-Closed.is (last w.line-is four)
      | in-Met w ↦
          let word = more none w.put-in-Met.ensures.put in
          let two = more (more word w.put_number-in-Met.ensures.put) w.put_number-in-Met-2.ensures.put in
          rw w.in-Met.is (last w.line-is two)
      | in-Unmet w ↦ rw w.in-Unmet.is (last w.line-is (more none w.put-in-Unmet.ensures.put))
      | in-Written w ↦
          let word = more none w.put-in-Written.ensures.put in
          rw w.in-Written.is (last w.line-is (more word w.put_number-in-Written.ensures.put))
      | in-Refused w ↦
          let word = more none w.put-in-Refused.ensures.put in
          let two = more (more word w.put_number-in-Refused.ensures.put) w.put_number-in-Refused-2.ensures.put in
          rw w.in-Refused.is (last w.line-is two)
    ]
