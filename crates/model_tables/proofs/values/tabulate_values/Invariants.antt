-- `model_tables::values::tabulate_values` meets its contract: the channels of the entries passed are made, by `made_more`.
-- Assumes nothing.
use Rattle.model_tables.specs.Entries.{MadeBelow}
use Rattle.model_tables.specs.Values.{ChannelMade, MadeWhole, is_comparison}
use Rattle.model_tables.proofs.values.tabulate_values.Given as goal

abbrev pub invariant-loop-k : goal.invariant-loop-k
invariant-loop-k l = MadeBelow (ChannelMade l.d) is_comparison l.p l.k l.alike × MadeWhole l.d l.alike
