-- The rows of a path: for each node a set, the ends of the path from that node. The rows of a path follow by the clause of its kind from
-- those of the paths that it goes on by.
-- Assumes nothing.
use Rattle.std.specs.Prelude.{◌≡◌, true, Option, Some, None, ◌⊎◌, ◌↔◌, List, ℕ, ◌+◌, ◌-◌, ◌≤◌, ◌<◌, length}
use Rattle.std.proofs.Common.{sym, subst, inl, inr, lt_of_lt_of_le}
use Rattle.nodeset.specs.declared.NodeSet.{NodeSet}
use Rattle.nodeset.specs.Set.{width, has}
use Rattle.nodeset.specs.Stored.{table_bytes, set_at}
use Rattle.nodeset.specs.Members.{HasExactly}
use Rattle.pattern.specs.declared.types.Comparison.{Comparison}
use Rattle.pattern.specs.File.Types.{max_axis, max_name}
use Rattle.pattern.specs.Logic.Finite.{Finite}
use Rattle.relations.specs.declared.kinds.PathKind.{PathKind}
use Rattle.relations.specs.Tables.{successors_row, name_row, model_rows, AlikeOn, Inside}
use Rattle.relations.specs.Members.{Image, Collected}
use Rattle.relations.specs.Covered.{RowsFit, Covers}
use Rattle.relations.specs.Filled.{Filled}
use Rattle.relations.specs.Values.{Pair}

-- the rows from `first` on and those from `at` on are different rows
abbrev pub Apart : ℕ → ℕ → ℕ → Type 0
Apart n first at = (u v : ℕ) → u < n → v < n → first + u ≡ at + v → ⊥

-- a number as the kind's first field has it: an axis of a step, a name of a jump
abbrev pub InRange : Option PathKind → ℕ → Type 0
InRange (Some PathKind.Step) x = x ≤ max_axis
InRange (Some PathKind.Jump) x = x ≤ max_name
InRange (Some PathKind.Test) x = Unit {0}
InRange (Some PathKind.Fork) x = Unit {0}
InRange None x = Unit {0}

-- the nodes whose rows a step or a jump asks for are below n
abbrev pub Bounded : Option PathKind → List ℕ → ℕ → ℕ → Type 0
Bounded (Some PathKind.Step) table n x = (u v : ℕ) → u < n → has (set_at table (successors_row x u)) v ≡ true → v < n
Bounded (Some PathKind.Jump) table n x = (v : ℕ) → has (set_at table (name_row x)) v ≡ true → v < n
Bounded (Some PathKind.Test) table n x = Unit {0}
Bounded (Some PathKind.Fork) table n x = Unit {0}
Bounded None table n x = Unit {0}

-- what the rows of a path are made from
pub record Parts (table rows : List ℕ) (n : ℕ) (kind : Option PathKind) (x first second : ℕ) : Type 0 where
  pub table_long : table_bytes model_rows ≤ length table
  pub narrow : n ≤ width
  pub within_ranges : InRange kind x
  pub bounded : Bounded kind table n x
  pub first_fits : RowsFit rows n first
  pub second_fits : RowsFit rows n second

-- node u is not the first, and has the successors on an axis of the node before it
abbrev pub LeadsAlike : (table : List ℕ) → ℕ → ℕ → Type 0
LeadsAlike table x u = (1 ≤ u) × (set_at table (successors_row x (u - 1)) ≡ set_at table (successors_row x u))

-- the row of node u for a step, the union of the rows of its successors
abbrev pub StepRow : (table rows : List ℕ) → ℕ → ℕ → ℕ → ℕ → Type 0
StepRow table rows x second u = Image (λ w. set_at rows (second + w)) (set_at table (successors_row x u))

-- node v is in the row of node u, by the clause of the kind: of a step the union of the rows of u's successors, of a jump the row of the
-- named node, of a test the row of u if the test holds there, of a fork both rows of u
abbrev pub RowBy : Option PathKind → (table rows : List ℕ) → ℕ → NodeSet → ℕ → ℕ → ℕ → ℕ → Type 0
RowBy (Some PathKind.Step) table rows x held first second u v = StepRow table rows x second u v
RowBy (Some PathKind.Jump) table rows x held first second u v = Image (λ w. set_at rows (second + w)) (set_at table (name_row x)) v
RowBy (Some PathKind.Test) table rows x held first second u v = (has held u ≡ true) × (has (set_at rows (second + u)) v ≡ true)
RowBy (Some PathKind.Fork) table rows x held first second u v =
    (has (set_at rows (first + u)) v ≡ true) ⊎ (has (set_at rows (second + u)) v ≡ true)
RowBy None table rows x held first second u v = ⊥

-- the rows of the nodes before u are there from `at` on, and filled with the numbers with Q
abbrev pub FilledBelow : (ℕ → ℕ → Type 0) → List ℕ → ℕ → ℕ → Type 0
FilledBelow Q rows at u = RowsFit rows u at × ((w : ℕ) → w < u → HasExactly (Q w) (set_at rows (at + w)))

-- the nodes below n of which some end by the one rows and some end by the other compare so, in each model for which the rows of the channel
-- stand
abbrev pub RowsCompared : (alike rows : List ℕ) → ℕ → ℕ → Comparison → ℕ → ℕ → NodeSet → Type 0
RowsCompared alike rows n e c first second s =
    (F : Finite) → AlikeOn F alike e → ((u : ℕ) → u < n → Inside F (set_at rows (first + u)))
    → Collected (λ u. Pair alike e c (set_at rows (first + u)) (set_at rows (second + u))) n s

-- ---- laws
-- filling rows leaves those that are apart from them
pub apart_kept : (Q : ℕ → ℕ → Type 0) (n k first at : ℕ) (rows rows' : List ℕ) → Apart n first at → k ≤ n
    → Filled (λ j. at + j) Q k rows rows' → (u : ℕ) → u < n → set_at rows' (first + u) ≡ set_at rows (first + u)
apart_kept Q n k first at rows rows' apart w f u l = f.rest (first + u) (λ j b e. apart u j l (lt_of_lt_of_le b w) e)

-- what covers rows covers them in other rows that are the same there
pub covers_kept : (n first : ℕ) (all : NodeSet) (rows rows' : List ℕ) → ((u : ℕ) → u < n → set_at rows' (first + u) ≡ set_at rows (first + u))
    → Covers rows n first all → Covers rows' n first all
covers_kept n first all rows rows' same covers u v l h = covers u v l (subst (λ (s : NodeSet). has s v ≡ true) (same u l) h)

-- what rows are made from is there in other rows of the same length
pub parts_kept : (table rows rows' : List ℕ) (n : ℕ) (kind : Option PathKind) (x first second : ℕ) → length rows' ≡ length rows
    → Parts table rows n kind x first second → Parts table rows' n kind x first second
parts_kept table rows rows' n kind x first second e p =
    record {
      table_long = p.table_long;
      narrow = p.narrow;
      within_ranges = p.within_ranges;
      bounded = p.bounded;
      first_fits = rw e p.first_fits;
      second_fits = rw e p.second_fits;
    }

module _ (table : List ℕ) (n x : ℕ) (held : NodeSet) (first second : ℕ) where
  -- other rows that are the same from `first` and from `second` on give the same
  row_kept : (kind : Option PathKind) → Bounded kind table n x → (rows rows' : List ℕ)
      → ((u : ℕ) → u < n → set_at rows' (first + u) ≡ set_at rows (first + u)) → ((u : ℕ) → u < n → set_at rows' (second + u) ≡ set_at rows (second + u))
      → (u : ℕ) → u < n → (v : ℕ) → RowBy kind table rows' x held first second u v → RowBy kind table rows x held first second u v
  row_kept (Some PathKind.Step) bounded rows rows' α β u l v (w, (m, h)) =
      (w, (m, subst (λ (s : NodeSet). has s v ≡ true) (β w (bounded u w l m)) h))
  row_kept (Some PathKind.Jump) bounded rows rows' α β u l v (w, (m, h)) =
      (w, (m, subst (λ (s : NodeSet). has s v ≡ true) (β w (bounded w m)) h))
  row_kept (Some PathKind.Test) bounded rows rows' α β u l v (m, h) = (m, subst (λ (s : NodeSet). has s v ≡ true) (β u l) h)
  row_kept (Some PathKind.Fork) bounded rows rows' α β u l v (inl h) = inl (subst (λ (s : NodeSet). has s v ≡ true) (α u l) h)
  row_kept (Some PathKind.Fork) bounded rows rows' α β u l v (inr h) = inr (subst (λ (s : NodeSet). has s v ≡ true) (β u l) h)
  row_kept None bounded rows rows' α β u l v h = h

  pub rows_same : (kind : Option PathKind) → Bounded kind table n x → (rows rows' : List ℕ)
      → ((u : ℕ) → u < n → set_at rows' (first + u) ≡ set_at rows (first + u)) → ((u : ℕ) → u < n → set_at rows' (second + u) ≡ set_at rows (second + u))
      → (u : ℕ) → u < n → (s : NodeSet)
      → HasExactly (RowBy kind table rows' x held first second u) s ↔ HasExactly (RowBy kind table rows x held first second u) s
  rows_same kind bounded rows rows' α β u l s = (
    λ h v. (λ m. there v ((h v).0 m), λ r. (h v).1 (back v r)),
    λ h v. (λ m. back v ((h v).0 m), λ r. (h v).1 (there v r)),
  )
    where
      there : (v : ℕ) → RowBy kind table rows' x held first second u v → RowBy kind table rows x held first second u v
      there = row_kept kind bounded rows rows' α β u l

      back : (v : ℕ) → RowBy kind table rows x held first second u v → RowBy kind table rows' x held first second u v
      back = row_kept kind bounded rows' rows (λ w b. sym (α w b)) (λ w b. sym (β w b)) u l
