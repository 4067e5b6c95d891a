-- What learning does with what is known.
-- Assumes nothing.
use Rattle.std.specs.Prelude.{Option, ◌≡◌, Bool, ℕ, length}
use Rattle.nodeset.specs.declared.NodeSet.{NodeSet}
use Rattle.relations.specs.declared.kinds.PathKind.{PathKind}
use Rattle.evaluation.specs.declared.judged.Judged.{Judged}
use Rattle.evaluation.specs.Learned.{Learned}
use Rattle.slots.specs.Marks.{SlotsFit}
use Rattle.learning.specs.declared.learn.Memory.{Memory}
use Rattle.learning.specs.declared.learn.Plan.{Plan}
use Rattle.learning.specs.Rows.{TestSet, SlotFilled}

-- what the marks say is so
abbrev pub Remembers : Judged → Memory → Type 0
Remembers q memory = Learned q.p.now q.table.now q.alike.now q.n memory.area.now memory.rows.now memory.marks

-- the set of the nodes at which the test of a path holds, if it has one
abbrev pub FindsTest : Judged → Option PathKind → ℕ → NodeSet → Type 0
FindsTest q kind x s = TestSet q.p.now q.table.now q.alike.now q.n kind x s

-- a slot was filled with the rows of path entry k, if it could be; all else stays
pub record Fills (q : Judged) (k slot : ℕ) (before after : Memory) (filled : Bool) : Type 0 where
  pub slot_filled : SlotFilled q.p.now q.table.now q.alike.now q.n k slot before.rows.now after.rows.now filled
  pub rows_long : length after.rows.now ≡ length before.rows.now
  pub same_area : after.area.now ≡ before.area.now
  pub same_marks : after.marks ≡ before.marks

-- what the marks say is so still, and there are as many rows
abbrev pub Learns : Judged → Memory → Memory → Type 0
Learns q before after = Remembers q after × (length after.rows.now ≡ length before.rows.now)

-- what the marks say is so, and the slots fit into the rows
abbrev pub Ready : Plan → Memory → Type 0
Ready plan memory = Remembers plan.q.now memory × SlotsFit memory.rows.now plan.q.now.n plan.slots
