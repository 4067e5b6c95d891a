-- What evaluation is lent, and what its answers say of every data model that the tables stand for.
-- Assumes nothing.
use Rattle.std.specs.Prelude.{◌≡◌, List, ℕ, ◌+◌, ◌≤◌, ◌<◌, length}
use Rattle.nodeset.specs.declared.NodeSet.{NodeSet}
use Rattle.nodeset.specs.Set.{width, has}
use Rattle.nodeset.specs.Stored.{table_bytes}
use Rattle.pattern.specs.Checks.Finding.{found}
use Rattle.pattern.specs.File.Table.{end_of_path}
use Rattle.pattern.specs.File.Reading.{count_of, reading_of}
use Rattle.pattern.specs.Logic.Finite.{Finite, Named, NodeOf, model_of, naming_of}
use Rattle.pattern.specs.Meaning.Agreement.{HoldsAt, LeadsAt}
use Rattle.decision.specs.Root.{root_holds}
use Rattle.relations.specs.Tables.{IsSet, Tabled, Alike, model_rows, alike_rows}

-- the bytes of a sweep: a pending set for each reference, the end of path the last
abbrev pub pending_bytes : ℕ
pending_bytes = table_bytes (end_of_path + 1)

module _ (F : Finite) (ok : Named F) (bs : List ℕ) where
  -- the published satisfaction, of entry k of the pattern
  abbrev pub Holding : ℕ → NodeOf F → Type 0
  Holding k u = HoldsAt (model_of F) (naming_of F ok) bs k u

  abbrev pub Leading : ℕ → NodeOf F → NodeOf F → Type 0
  Leading k u v = LeadsAt (model_of F) (naming_of F ok) bs k u v

-- a data model of n nodes that the tables stand for
pub record Standing (bs table alike : List ℕ) (n : ℕ) : Type 0 where
  pub model : Finite
  pub named : Named model
  pub size_is : model.size ≡ n
  pub tabled : Tabled model bs table
  pub alike_is : Alike model bs alike

-- a pattern that was read, and tables that are long enough and stand for some model of n nodes: that there is one, not which
pub record Lent (bs table alike : List ℕ) (n : ℕ) : Type 0 where
  pub read : reading_of bs ≡ found (count_of bs)
  pub table_long : table_bytes model_rows ≤ length table
  pub alike_long : table_bytes alike_rows ≤ length alike
  pub some_node : 0 < n
  pub narrow : n ≤ width
  pub stands : ∥ Standing bs table alike n ∥₁

-- the set of the nodes at which entry k holds, in each such model
abbrev pub Evaluates : (bs table alike : List ℕ) → ℕ → ℕ → NodeSet → Type 0
Evaluates bs table alike n k s = (w : Standing bs table alike n) → IsSet w.model (Holding w.model w.named bs k) s

-- the set of the nodes to which path reference k leads from node u
abbrev pub Ends : (bs table alike : List ℕ) → ℕ → ℕ → ℕ → NodeSet → Type 0
Ends bs table alike n k u s =
    (w : Standing bs table alike n) (l : u < w.model.size) → IsSet w.model (Leading w.model w.named bs k (u, l)) s

-- what the set of the root has of every number
abbrev pub RootNodes : (bs table alike : List ℕ) → ℕ → NodeSet → Type 0
RootNodes bs table alike n s = (w : Standing bs table alike n) (u : ℕ) → has s u ≡ root_holds bs w.model u
