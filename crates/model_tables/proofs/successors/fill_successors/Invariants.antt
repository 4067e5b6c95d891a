-- `model_tables::successors::fill_successors` meets its contract: the records passed are in the rows, by `linked_more`.
-- Assumes nothing.
use Rattle.model_tables.specs.Successors.{Linked}
use Rattle.model_tables.proofs.successors.fill_successors.Given as goal

abbrev pub invariant-loop-i : goal.invariant-loop-i
invariant-loop-i l = Linked l.d l.i l.initial.table l.table
