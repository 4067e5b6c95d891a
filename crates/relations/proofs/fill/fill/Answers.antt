-- `relations::fill::fill` meets its contract: the rows of the nodes passed are made by the rule.
-- Assumes nothing.
use Rattle.std.proofs.Common.{refl}
use Rattle.relations.specs.Filled.{filled_by_next}
use Rattle.relations.proofs.fill.fill.Goals as goal

pub loop-u-init : goal.loop-u-init
loop-u-init g c = refl

pub loop-u-preserved : goal.loop-u-preserved
loop-u-preserved g c =
    rw c.store.ensures
    (filled_by_next _ _ _ _ _ _ c.loop-u.invariant (record { shown = _; shows = refl; says = c.rule-s.ensures }))
