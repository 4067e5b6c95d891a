-- `relations::values::has_partner` meets its contract, by the laws of `meets` and `exceeds`.
-- Assumes nothing.
use Rattle.relations.specs.Members.{meets, exceeds}
use Rattle.relations.proofs.values.has_partner.Goals as goal

pub returns-in-Same : goal.returns-in-Same
returns-in-Same c = rw (c.is_empty.ensures, c.meet.ensures, c.in-Same.is) (meets _ _)

pub returns-in-Differ : goal.returns-in-Differ
returns-in-Differ c = rw (c.is_empty-in-Differ.ensures, c.minus.ensures, c.in-Differ.is) (exceeds _ _)
