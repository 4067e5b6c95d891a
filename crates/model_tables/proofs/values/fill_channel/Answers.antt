-- `model_tables::values::fill_channel` meets its contract: the rows before that of a node stand as its own is made.
-- Assumes nothing.
use Rattle.std.proofs.Common.{◌≡◌, ℕ, List, ◌+◌, ◌≤◌, ◌<◌, length, subst, rules, arith}
use Rattle.nodeset.specs.declared.NodeSet.{NodeSet}
use Rattle.nodeset.specs.Members.{HasExactly}
use Rattle.nodeset.specs.Stored.{table_bytes, has_zeros}
use Rattle.relations.specs.Tables.{alike_row, alike_rows}
use Rattle.relations.specs.Filled.{Filled, FilledBy, filled_by, filled_by_long}
use Rattle.model_records.specs.Layout.{node_count}
use Rattle.model_tables.specs.Buckets.{bucket_count, InBuckets}
use Rattle.model_tables.specs.Values.{AlikeTo, AlikeBelow}
use Rattle.model_tables.proofs.values.fill_channel.Goals.{After-node_count}
use Rattle.model_tables.proofs.values.fill_channel.Goals as goal

pub fill_buckets-requires : goal.fill_buckets-requires
fill_buckets-requires c = record {
  valid_model = c.requires.valid_model;
  e_le_max_channel = c.requires.e_le_max_channel;
  by_index = λ i u. has_zeros (table_bytes bucket_count) i u;
}

-- the rows that a rule makes, if what it gives is right
made_by : (c : After-node_count) (rule : List ℕ → ℕ → NodeSet → Type 0)
    → let a = c.args in
    ((u : ℕ) (zs : List ℕ) (s : NodeSet) → rule zs u s → HasExactly (AlikeTo a.d.now a.e u) s)
    → (u : ℕ) → u ≤ node_count a.d.now → (ys : List ℕ) → FilledBy rule c.row_of.result u a.alike.now ys
    → Filled (alike_row a.e) (AlikeTo a.d.now a.e) u a.alike.now ys
made_by c rule gives u l ys f =
    let a = c.args in
    let narrow = c.requires.valid_model.header.narrow in
    let own : (j : ℕ) → c.row_of.result + j ≡ alike_row a.e j = λ j. omega (arith, c.row_of.ensures) in
    subst (λ (row : ℕ → ℕ). Filled row (AlikeTo a.d.now a.e) u a.alike.now ys) (λ i j. own j i)
    (filled_by rule c.row_of.result a.alike.now (AlikeTo a.d.now a.e) (node_count a.d.now)
    (search rules)
    (λ v zs s b same before asked. gives v zs s asked) u l ys f)

pub fill-requires-clause-callable : goal.fill-requires-clause-callable
fill-requires-clause-callable c u made l f =
    let a = c.args in
    let within : u < node_count a.d.now = rw c.node_count.ensures at l in
    let low : u ≤ node_count a.d.now = omega (arith, within) in
    let before = made_by (goal.at.fill-requires-clause-callable c).After-node_count _ (λ v zs s says. let told = says.says in search rules) u low made.now f in
    let long = filled_by_long _ _ _ u made.now f in
    let buckets : InBuckets a.d.now a.e (node_count a.d.now) c.fill_buckets.new.buckets = c.fill_buckets.ensures in
    let rows : (table_bytes alike_rows ≤ length made.now) × AlikeBelow a.d.now a.e u made.now = (search rules, before.rows) in
    search (c.requires.valid_model, c.requires.e_le_max_channel, within, buckets, rows)

pub returns : goal.returns
returns c =
    made_by (goal.at.returns c).After-node_count _ (λ v zs s says. let told = says.says in search rules) (node_count c.args.d.now) (omega arith)
    c.fill.new.rows (rw c.node_count.ensures at c.fill.ensures)
