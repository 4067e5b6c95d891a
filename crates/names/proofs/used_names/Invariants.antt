-- `names::used_names` meets its contract: the set has the names of the entries passed.
-- Assumes nothing.
use Rattle.pattern.specs.Checks.Range.{some_below}
use Rattle.pattern.specs.Meaning.Names.{entry_uses}
use Rattle.names.specs.Set.{SetOf}
use Rattle.names.proofs.used_names.Given as goal

abbrev pub invariant-loop-k : goal.invariant-loop-k
invariant-loop-k l = SetOf (λ i. some_below l.k (entry_uses l.p i)) l.names
