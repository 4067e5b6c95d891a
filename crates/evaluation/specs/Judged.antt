-- The answers of evaluation, of what is judged and what is known.
-- Assumes nothing.
use Rattle.std.specs.Prelude.{ℕ, List}
use Rattle.nodeset.specs.declared.NodeSet.{NodeSet}
use Rattle.evaluation.specs.declared.judged.Judged.{Judged}
use Rattle.evaluation.specs.declared.judged.Known.{Known}
use Rattle.evaluation.specs.Standing.{Evaluates, Ends}
use Rattle.evaluation.specs.Learned.{Learned}
use Rattle.evaluation.specs.SweepEntry.{EntrySwept}

-- the set of the nodes at which entry k holds
abbrev pub FindsNodes : Judged → ℕ → NodeSet → Type 0
FindsNodes q k s = Evaluates q.p.now q.table.now q.alike.now q.n k s

-- the set of the nodes to which path reference k leads from node u
abbrev pub FindsEnds : Judged → ℕ → ℕ → NodeSet → Type 0
FindsEnds q k u s = Ends q.p.now q.table.now q.alike.now q.n k u s

-- entry i of a sweep
abbrev pub Sweeps : Judged → ℕ → List ℕ → List ℕ → Type 0
Sweeps q i before after = EntrySwept q.p.now q.table.now q.alike.now q.n i before after

-- what the marks say is so
abbrev pub Knows : Judged → Known → Type 0
Knows q known = Learned q.p.now q.table.now q.alike.now q.n known.area.now known.rows.now known.marks.now
