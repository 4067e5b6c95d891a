-- `relations::model::union_within` meets its contract: the rows of the members passed are gathered, and no more is wanted once `all` is.
-- Assumes nothing.
use Rattle.std.proofs.Common.{◌+◌}
use Rattle.nodeset.specs.Set.{size_of}
use Rattle.nodeset.specs.Stored.{set_at}
use Rattle.relations.specs.Members.{Gathered}
use Rattle.relations.proofs.model.union_within.Given as goal

abbrev pub invariant-loop-u : goal.invariant-loop-u
invariant-loop-u l = Gathered (λ u. set_at l.rows (l.first + u)) l.initial.rest l.rest l.sum

abbrev pub decreases-loop-u : goal.decreases-loop-u
decreases-loop-u l = size_of l.rest
