-- `repeats::repeats` meets its contract: after j rounds it is known whether an entry below j is the same.
-- Assumes nothing.
use Rattle.std.proofs.Common.{◌≡◌}
use Rattle.pattern.specs.Checks.Range.{some_below}
use Rattle.pattern.specs.File.Entries.{same_bytes}
use Rattle.repeats.proofs.repeats.Given as goal

abbrev pub invariant-loop-j : goal.invariant-loop-j
invariant-loop-j l = l.repeated ≡ some_below l.j (λ i. same_bytes l.p i l.k)
