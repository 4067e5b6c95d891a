-- `text_entries::placed::place` meets its contract: an entry that is found has one of the numbers in use.
-- Assumes nothing.
use Rattle.std.proofs.Common.{sym, ap, ◌∙◌, arith}
use Rattle.text_entries.specs.Placing.{entry_in, found_as, among, found_within}
use Rattle.text_entries.proofs.placed.place.Goals as goal

pub returns-in-Some-clause-number : goal.returns-in-Some-clause-number
returns-in-Some-clause-number c =
    let a = c.args in
    found_within _ a.n c.in-Some.number (omega arith) (among a.entries.now (entry_in a.entry 0) a.n) (sym (ap found_as c.in-Some.is) ∙ c.find.ensures)
