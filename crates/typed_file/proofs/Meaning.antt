-- The root of a text's file means what the text means, in every model: "the text being given source 000's composition".
-- Assumes nothing.
use Rattle.std.specs.Prelude.{◌≡◌, refl, ◌↔◌, List, [], ℕ, ◌-◌, ◌≤◌, length}
use Rattle.std.proofs.Common.{◌∙◌, ap, ap₂, inl, arith}
use Rattle.pattern.specs.declared.types.Comparison.{Comparison}
use Rattle.pattern.specs.declared.entry.Entry as pattern
use Rattle.pattern.specs.Checks.Finding.{passes}
use Rattle.pattern.specs.Logic.Finite.{Finite, Named, NodeOf, model_of, naming_of}
use Rattle.pattern.specs.Logic.Syntax.{NExp, PExp}
use Rattle.pattern.specs.Logic.Semantics.{Model, Naming, Holds}
use Rattle.pattern.specs.File.Table.{end_of_path, kind_of}
use Rattle.pattern.specs.File.Entries.{max_entries}
use Rattle.pattern.specs.File.Valid.{Valid}
use Rattle.pattern.specs.Meaning.Expression.{end, node_expression, path_expression, node_at, path_at, root_of, node_at_law, path_at_law, end_at}
use Rattle.typed_text.specs.Text.{NodeText, RowText}
use Rattle.typed_text.specs.Tokens.{tokens_of, range_check}
use Rattle.typed_text.specs.Means.{node_means}
use Rattle.typed_file.specs.Trees.{Part, number, node_tree, row_tree}
use Rattle.typed_file.specs.Entries.{Entry, complete, entries_of, file_of}
use Rattle.typed_file.specs.Completion.{At, Stands, PartIs, completes}
use Rattle.typed_file.specs.Formed.{formed}
use Rattle.typed_file.specs.ValidEntries.{at_below}
use Rattle.typed_file.specs.RootLast.{root_last}
use Rattle.typed_file.specs.ValidFile.{entry_stands, file_valid}
use Rattle.typed_file.specs.Carried.{node_carried, row_carried, node_same}

compared : (c : Comparison) {e e' : ℕ} {α α' β β' : PExp} → e ≡ e' → α ≡ α' → β ≡ β' → NExp.compare c e α β ≡ NExp.compare c e' α' β'
compared c p q r = λ k. NExp.compare c (p k) (q k) (r k)

-- what stands in a valid file is read as the text is carried
module _ (es : List Entry) (valid : Valid (file_of es) (length es)) where
  -- the expression of an entry, by those of the entries that it refers to
  node_of : (i : ℕ) (e : Entry) → At es i e
      → node_at (file_of es) i ≡ node_expression (kind_of e.kind) e.x e.y e.z (node_at (file_of es)) (path_at (file_of es))
  node_of i e h =
      let f = file_of es in
      node_at_law valid i (at_below es i e h)
      ∙ ap (λ (r : pattern.Entry). node_expression r.kind r.x r.y r.z (node_at f) (path_at f)) (entry_stands es i e h)

  path_of : (i : ℕ) (e : Entry) → At es i e
      → path_at (file_of es) i ≡ path_expression (kind_of e.kind) e.x e.y e.z (node_at (file_of es)) (path_at (file_of es))
  path_of i e h =
      let f = file_of es in
      path_at_law valid i (at_below es i e h)
      ∙ ap (λ (r : pattern.Entry). path_expression r.kind r.x r.y r.z (node_at f) (path_at f)) (entry_stands es i e h)

  ends : (v : ℕ) → PartIs es (number end_of_path) v → path_at (file_of es) v ≡ end
  ends v h = ap (path_at (file_of es)) h ∙ end_at (file_of es)

  mutual
    node_read : (t : NodeText) (i : ℕ) → Stands es (node_tree t) i → node_at (file_of es) i ≡ node_carried t
    node_read (NodeText.property k) i (x, (y, (z, (p, q, r, h)))) = node_of i _ h ∙ ap NExp.property p
    node_read (NodeText.name k) i (x, (y, (z, (p, q, r, h)))) = node_of i _ h ∙ ap NExp.name p
    node_read (NodeText.not t) i (x, (y, (z, (p, q, r, h)))) = node_of i _ h ∙ ap NExp.not (node_read t x p)
    node_read (NodeText.both t u) i (x, (y, (z, (p, q, r, h)))) = node_of i _ h ∙ ap₂ NExp.both (node_read t x p) (node_read u y q)
    node_read (NodeText.either t u) i (x, (y, (z, (p, q, r, h)))) = node_of i _ h ∙ ap₂ NExp.either (node_read t x p) (node_read u y q)
    node_read (NodeText.after k t) i (x, (y, (z, (p, q, r, h)))) = node_of i _ h ∙ ap₂ NExp.after p (node_read t y q)
    node_read (NodeText.same a k b) i (x, (y, (z, (p, q, r, h)))) =
        let rest = number end_of_path in
        node_of i _ h ∙ compared Comparison.Same p (row_read a rest end ends y q) (row_read b rest end ends z r)
    node_read (NodeText.differ a k b) i (x, (y, (z, (p, q, r, h)))) =
        let rest = number end_of_path in
        node_of i _ h ∙ compared Comparison.Differ p (row_read a rest end ends y q) (row_read b rest end ends z r)

    -- a row, where what follows it is read as α
    row_read : (r : RowText) (rest : Part) (α : PExp) → ((v : ℕ) → PartIs es rest v → path_at (file_of es) v ≡ α)
        → (i : ℕ) → PartIs es (row_tree r rest) i → path_at (file_of es) i ≡ row_carried r α
    row_read RowText.end rest α behind i h = behind i h
    row_read (RowText.step k r) rest α behind i (x, (y, (z, (p, q, s, h)))) =
        path_of i _ h ∙ ap₂ (λ (a : ℕ) (β : PExp). PExp.compose (PExp.down a) β) p (row_read r rest α behind y q)
    row_read (RowText.jump k r) rest α behind i (x, (y, (z, (p, q, s, h)))) =
        path_of i _ h ∙ ap₂ (λ (a : ℕ) (β : PExp). PExp.compose (PExp.jump a) β) p (row_read r rest α behind y q)
    row_read (RowText.test t r) rest α behind i (x, (y, (z, (p, q, s, h)))) =
        path_of i _ h ∙ ap₂ (λ (φ : NExp) (β : PExp). PExp.compose (PExp.test φ) β) (node_read t x p) (row_read r rest α behind y q)
    row_read (RowText.brace a b r) rest α behind i (x, (y, (z, (p, q, s, h)))) =
        let next = row_tree r rest in
        let β = row_carried r α in
        let both : (v : ℕ) → PartIs es next v → path_at (file_of es) v ≡ β = λ v h. row_read r rest α behind v h in
        path_of i _ h ∙ ap₂ PExp.union (row_read a next β both x p) (row_read b next β both y q)

module _ (t : NodeText) (within_ranges : range_check (tokens_of t) ≡ passes) (few : length (entries_of (node_tree t)) ≤ max_entries) where
  root_read : root_of (file_of (entries_of (node_tree t))) ≡ node_carried t
  root_read =
      let es = entries_of (node_tree t) in
      let last = root_last (node_tree t) (inl refl) (formed t within_ranges) few in
      let root : length es - 1 ≡ (complete (node_tree t) []).at = omega arith in
      ap (node_at (file_of es)) root
      ∙ node_read es (file_valid t within_ranges few) t (complete (node_tree t) []).at (completes (node_tree t) []).0

  pub file_means : (M : Model) (nom : Naming M) (u : M.Node)
      → Holds M nom (root_of (file_of (entries_of (node_tree t)))) u ↔ Holds M nom (node_means t) u
  file_means M nom u =
      let same = node_same M nom t in
      rw root_read (same.there u, same.back u)

  -- so in every finite model
  pub file_means_finite : (F : Finite) (ok : Named F) (u : NodeOf F)
      → Holds (model_of F) (naming_of F ok) (root_of (file_of (entries_of (node_tree t)))) u ↔ Holds (model_of F) (naming_of F ok) (node_means t) u
  file_means_finite F ok u = file_means (model_of F) (naming_of F ok) u
