-- `relations::values::has_common` meets its contract, by the law of `meets`.
-- Assumes nothing.
use mathlib.Core.Bool.{false≢true}
use Rattle.relations.specs.Members.{meets}
use Rattle.relations.proofs.values.has_common.Goals as goal

pub returns-in-Same : goal.returns-in-Same
returns-in-Same c = rw (c.is_empty.ensures, c.meet.ensures, c.in-Same.is) (meets _ _)

pub returns-in-Differ : goal.returns-in-Differ
returns-in-Differ c = rw c.in-Differ.is (λ h. false≢true h, λ h. absurd h)
