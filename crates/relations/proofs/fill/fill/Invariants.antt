-- `relations::fill::fill` meets its contract: the rows of the nodes passed are made by the rule.
-- Assumes nothing.
use Rattle.relations.specs.Filled.{FilledBy, RuleGives}
use Rattle.relations.proofs.fill.fill.Given as goal

abbrev pub invariant-loop-u : goal.invariant-loop-u
invariant-loop-u g l = FilledBy (RuleGives g.R.Fn l.rule) l.at l.u l.initial.rows l.rows
