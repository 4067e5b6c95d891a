-- Rows of a table, one for each node: that they are there, and that a set has all that they have.
-- Assumes nothing.
use Rattle.std.specs.Prelude.{◌≡◌, true, List, ℕ, ◌+◌, ◌≤◌, ◌<◌, length}
use Rattle.std.proofs.Common.{◌∙◌, arith, lt-ltb}
use Rattle.nodeset.specs.declared.NodeSet.{NodeSet}
use Rattle.nodeset.specs.Set.{width, has, below, has_below}
use Rattle.nodeset.specs.Stored.{table_bytes, set_at}
use Rattle.nodeset.specs.Members.{HasExactly, member_below}
use Rattle.relations.specs.Members.{Image}

-- the n rows from `first` on are there
abbrev pub RowsFit : List ℕ → ℕ → ℕ → Type 0
RowsFit rows n first = table_bytes (first + n) ≤ length rows

-- a set has all that they have
abbrev pub Covers : List ℕ → ℕ → ℕ → NodeSet → Type 0
Covers rows n first all = (u v : ℕ) → u < n → has (set_at rows (first + u)) v ≡ true → has all v ≡ true

-- the rows of the nodes of a set are there, and another set has all that they have
pub record Within (rows : List ℕ) (first : ℕ) (s all : NodeSet) : Type 0 where
  pub fits : (u : ℕ) → has s u ≡ true → table_bytes (first + u + 1) ≤ length rows
  pub within : (u v : ℕ) → has s u ≡ true → has (set_at rows (first + u)) v ≡ true → has all v ≡ true

-- ---- laws
-- the set of all numbers covers any rows
pub every_covers : (rows : List ℕ) (n first : ℕ) (all : NodeSet) → all ≡ below width → Covers rows n first all
every_covers rows n first all e u v l h =
    rw (e, has_below width v (omega arith)) (lt-ltb v width (member_below (set_at rows (first + u)) v h))

-- the rows of the nodes below n are those of each set of such nodes
pub within_first : (rows : List ℕ) (n first : ℕ) (s all : NodeSet) → RowsFit rows n first → Covers rows n first all
    → ((u : ℕ) → has s u ≡ true → u < n) → Within rows first s all
within_first rows n first s all l covers bound =
    record { fits = λ u m. omega (arith, bound u m); within = λ u v m h. covers u v (bound u m) h }

-- what covers the union of the rows covers each
pub union_covers : (rows : List ℕ) (n first : ℕ) (all : NodeSet) → n ≤ width
    → HasExactly (Image (λ u. set_at rows (first + u)) (below n)) all → Covers rows n first all
union_covers rows n first all w h u v l m = (h v).1 (u, (has_below n u w ∙ lt-ltb u n l, m))
