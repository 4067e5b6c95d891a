-- `path_rows::fill_rows` meets its contract: the rows that the others are made from stay.
-- Assumes nothing.
use Rattle.std.proofs.Common.{◌≡◌, List, ℕ, length, ◌+◌, ◌≤◌, ◌<◌, arith, rules}
use Rattle.nodeset.specs.declared.NodeSet.{NodeSet}
use Rattle.nodeset.specs.Members.{HasExactly}
use Rattle.nodeset.specs.Stored.{set_at}
use Rattle.relations.specs.Covered.{Covers}
use Rattle.relations.specs.Filled.{Filled, FilledBy, filled_by, filled_by_long}
use Rattle.path_rows.specs.Paths.{Apart, Parts, RowBy, FilledBelow, apart_kept, covers_kept, parts_kept, rows_same}
use Rattle.path_rows.proofs.fill_rows.Goals.{After-reach-all}
use Rattle.path_rows.proofs.fill_rows.Goals as goal

-- the rows of the nodes below k are made, and the others stay
abbrev MadeBelow : After-reach-all → ℕ → List ℕ → Type 0
MadeBelow c k zs =
    let a = c.args in
    Filled (λ i. a.at + i) (RowBy a.kind a.table.now a.rows.now a.x a.held a.first a.second) k a.rows.now zs

-- rows that are apart from those that it fills are as they were
kept : (c : After-reach-all) (k : ℕ) (zs : List ℕ) → k ≤ c.args.n → MadeBelow c k zs → (from : ℕ)
    → let a = c.args in
    Apart a.n from a.at → (i : ℕ) → i < a.n → set_at zs (from + i) ≡ set_at a.rows.now (from + i)
kept c k zs l made from apart =
    let a = c.args in
    apart_kept _ a.n k from a.at a.rows.now zs apart l made

-- so that a rule that goes by the rows as they are by then makes what it would make by those at entry
made_by : (c : After-reach-all) (rule : List ℕ → ℕ → NodeSet → Type 0)
    → let a = c.args in
    ((u : ℕ) (zs : List ℕ) (s : NodeSet) → rule zs u s → HasExactly (RowBy a.kind a.table.now zs a.x a.held a.first a.second u) s)
    → (u : ℕ) → u ≤ a.n → (ys : List ℕ) → FilledBy rule a.at u a.rows.now ys → MadeBelow c u ys
made_by c rule gives =
    let a = c.args in
    filled_by rule a.at a.rows.now _ a.n c.requires.rows_fit
    (λ u zs s l same before asked.
    let low : u ≤ a.n = omega (arith, l) in
    (rows_same a.table.now a.n a.x a.held a.first a.second a.kind c.requires.parts.bounded a.rows.now zs
    (kept c u zs low before a.first c.requires.apart.0) (kept c u zs low before a.second c.requires.apart.1) u l s).0 (gives u zs s asked))

-- and there is what it asks for
asked : (c : After-reach-all) (u : ℕ) (zs : List ℕ)
    → let a = c.args in
    u < a.n → length zs ≡ length a.rows.now → MadeBelow c u zs
    → Parts a.table.now zs a.n a.kind a.x a.first a.second × Covers zs a.n a.second c.reach-all.result × (u < a.n)
    × FilledBelow (RowBy a.kind a.table.now zs a.x a.held a.first a.second) zs a.at u
asked c u zs l same made =
    let a = c.args in
    let low : u ≤ a.n = omega (arith, l) in
    let first = kept c u zs low made a.first c.requires.apart.0 in
    let second = kept c u zs low made a.second c.requires.apart.1 in (
      parts_kept a.table.now a.rows.now zs a.n a.kind a.x a.first a.second same c.requires.parts,
      covers_kept a.n a.second c.reach-all.result a.rows.now zs second c.reach-all.ensures,
      l,
      (omega (arith, l, same, c.requires.rows_fit), λ w b. (rows_same a.table.now a.n a.x a.held a.first a.second a.kind c.requires.parts.bounded a.rows.now zs first second w (omega (arith, b, l)) _).1 (made.rows w b)),
    )

pub fill-requires-clause-callable : goal.fill-requires-clause-callable
fill-requires-clause-callable c u made l f =
    let at = (goal.at.fill-requires-clause-callable c).After-reach-all in
    let before = made_by at _ (λ v zs s says. let told = says.says in search rules) u (omega (arith, l)) made.now f in
    let there = asked at u made.now l (filled_by_long _ _ _ u made.now f) before in
    search there

pub returns : goal.returns
returns c =
    made_by (goal.at.returns c).After-reach-all _
    (λ u zs s says. let told = says.says in search rules)
    c.args.n (search rules) c.fill.new.rows c.fill.ensures
