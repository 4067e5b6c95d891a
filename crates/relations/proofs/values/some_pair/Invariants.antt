-- `relations::values::some_pair` meets its contract: a common node is a pair, and no member passed has a partner, as none of its value has.
-- Assumes nothing.
use Rattle.nodeset.specs.Set.{size_of}
use Rattle.nodeset.specs.Stored.{set_at}
use Rattle.pattern.specs.Logic.Finite.{Finite}
use Rattle.relations.specs.Tables.{alike_row, AlikeOn, Inside}
use Rattle.relations.specs.Members.{Searched}
use Rattle.relations.specs.Values.{Partner}
use Rattle.relations.proofs.values.some_pair.Given as goal

abbrev pub invariant-loop-u : goal.invariant-loop-u
invariant-loop-u l =
    (F : Finite) → AlikeOn F l.alike l.channel → Inside F l.initial.rest → Searched (λ v. Partner l.c (set_at l.alike (alike_row l.channel v)) l.t) l.initial.rest l.rest

abbrev pub decreases-loop-u : goal.decreases-loop-u
decreases-loop-u l = size_of l.rest
