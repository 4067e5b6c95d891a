-- `text_entries::placed::find` meets its contract: no entry passed is the one that is looked for.
-- Assumes nothing.
use Rattle.std.proofs.Common.{◌≡◌, ◌-◌}
use Rattle.typed_file.specs.Entries.{find_from}
use Rattle.text_entries.specs.Placing.{entry_in, entries_from}
use Rattle.text_entries.proofs.placed.find.Given as goal

abbrev pub invariant-loop-i : goal.invariant-loop-i
invariant-loop-i l =
    find_from (entries_from (l.n - l.i) l.i l.entries) (entry_in l.entry 0) l.i ≡ find_from (entries_from l.n 0 l.entries) (entry_in l.entry 0) 0
