-- `model_file::listed_names` meets its contract: the set has the names of the records passed.
-- Assumes nothing.
use Rattle.names.specs.Set.{SetOf}
use Rattle.model_records.specs.Contents.{is_listed_below}
use Rattle.model_file.proofs.listed_names.Given as goal

abbrev pub invariant-loop-j : goal.invariant-loop-j
invariant-loop-j l = SetOf (is_listed_below l.d l.j) l.names
