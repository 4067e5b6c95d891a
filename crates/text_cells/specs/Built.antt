-- What the machine makes of the tokens of a text, letter by letter: the tree of its entries.
-- Assumes nothing.
use Rattle.std.specs.Prelude.{◌≡◌, Bool, true, false, ℕ, suc, ◌+◌, ◌-◌, ◌*◌, ◌/◌, ◌%◌, ◌≤◌, ◌<◌, Option, Some, None, eqb, length, get_or}
use Rattle.std.proofs.Math.Path.{refl, subst}
use Rattle.std.proofs.Common.{sym, ap, ◌∙◌, arith, eq-eqb, ne_eqb, lt-ltb}
use mathlib.Core.List.{List, [], ◌∷◌}
use Rattle.wire.specs.Choice.{pick}
use Rattle.pattern.specs.Checks.Finding.{passes}
use Rattle.typed_text.specs.Text.{NodeText, RowText}
use Rattle.typed_text.specs.Tokens.{Token, node_tokens, row_tokens, tokens_of, limit_of, range_check, value_of}
use Rattle.typed_text.specs.Spelled.{capped, token_word, token_words}
use Rattle.typed_file.specs.Trees.{Tree, tree, Part, number, entry, unused, node_tree, row_tree}
use Rattle.typed_file.specs.Formed.{InRange, within_ranges}
use Rattle.text_cells.specs.declared.letters.Made.{Made}
use Rattle.text_cells.specs.Building.{made_by, marks_by, bar_mark, State, cell_or, taken, taken_word, built_from, built_of, start, node, path}
use Rattle.text_cells.specs.Cells.{CellIs, FieldIs, run, Four, run_four, Grown, grown_none, grown_on, cell_grown, field_grown, node_item, row_item, NodeBuilt, RowBuilt, node_cell, row_cell}

-- ---- laws

-- the same cells with other items
abbrev on : State → List ℕ → State
on s items = record { count = s.count; cells = s.cells; items = items }

-- what an item says
node_half : (c : ℕ) → node_item c / 2 ≡ 256 + c
node_half c = omega arith

row_half : (f : ℕ) → row_item f / 2 ≡ f
row_half f = omega arith

-- ---- fields
module _ (s : State) where
  zero_field : FieldIs s.cells s.count 0 unused
  zero_field = (refl, omega arith)

  number_field : (v : ℕ) → v < 256 → FieldIs s.cells s.count v (number v)
  number_field v l = (refl, l)

  cell_field : (c : ℕ) (t : Tree) → c < s.count → CellIs s.cells c t → FieldIs s.cells s.count (node_item c / 2) (entry t)
  cell_field c t l h = (c, (node_half c, l, h))

  half_field : (f : ℕ) (p : Part) → FieldIs s.cells s.count f p → FieldIs s.cells s.count (row_item f / 2) p
  half_field f p h = subst (λ (g : ℕ). FieldIs s.cells s.count g p) (sym (row_half f)) h

-- ---- letters that make a cell, each over the items that it takes; b is the state before its parts
module _ (b s : State) (four : Four s) (g : Grown b s) where
  leaf_made : (v : ℕ) → v < 256 → s.items ≡ b.items
      → NodeBuilt b (taken 112 v s) (tree 1 (number v) unused unused) × NodeBuilt b (taken 110 v s) (tree 2 (number v) unused unused)
  leaf_made v l e = (
    node_cell s four (node 0 1 v 0 0) 1 refl (omega arith) (number v) unused unused (number_field s v l) (zero_field s) (zero_field s) b g refl e,
    node_cell s four (node 0 2 v 0 0) 2 refl (omega arith) (number v) unused unused (number_field s v l) (zero_field s) (zero_field s) b g refl e,
  )

  module _ (c : ℕ) (t : Tree) (below : c < s.count) (is : CellIs s.cells c t) (top : s.items ≡ node_item c ∷ b.items) where
    not_made : NodeBuilt b (taken 33 0 s) (tree 3 (entry t) unused unused)
    not_made =
        subst (λ (items : List ℕ). NodeBuilt b (taken 33 0 (on s items)) (tree 3 (entry t) unused unused)) (sym top)
        (node_cell (on s (node_item c ∷ b.items)) four (node 1 3 (node_item c / 2) 0 0) 3 refl (omega arith) (entry t) unused unused (cell_field s c t below is) (zero_field s) (zero_field s) b
        (grown_on b s _ g (grown_none s _)) refl refl)

    after_made : (v : ℕ) → v < 256 → NodeBuilt b (taken 60 v s) (tree 5 (number v) (entry t) unused)
    after_made v l =
        subst (λ (items : List ℕ). NodeBuilt b (taken 60 v (on s items)) (tree 5 (number v) (entry t) unused)) (sym top)
        (node_cell (on s (node_item c ∷ b.items)) four (node 1 5 v (node_item c / 2) 0) 5 refl (omega arith) (number v) (entry t) unused (number_field s v l) (cell_field s c t below is) (zero_field s) b
        (grown_on b s _ g (grown_none s _)) refl refl)

  -- a pair: the mark between its parts is the kind
  pair_made : (c d mark k : ℕ) (t u : Tree) → c < s.count → d < s.count → CellIs s.cells c t → CellIs s.cells d u → mark / 256 ≡ suc k → suc k < 256
      → s.items ≡ node_item c ∷ mark ∷ node_item d ∷ b.items → NodeBuilt b (taken 40 0 s) (tree (suc k) (entry t) (entry u) unused)
  pair_made c d mark k t u l m is js kind few top =
      let items = node_item c ∷ mark ∷ node_item d ∷ b.items in
      let made = node 3 (mark / 256) (node_item c / 2) (node_item d / 2) 0 in
      subst (λ (items : List ℕ). NodeBuilt b (taken 40 0 (on s items)) (tree (suc k) (entry t) (entry u) unused)) (sym top)
      (subst (λ (b? : Bool). NodeBuilt b (cell_or (pick b? None (Some made)) (marks_by 40 0 (node_item c) mark) (on s items)) (tree (suc k) (entry t) (entry u) unused))
      (sym (ne_eqb (mark / 256) 0 (λ e. omega (arith, e, kind))))
      (node_cell (on s items) four made (suc k) kind few (entry t) (entry u) unused (cell_field s c t l is) (cell_field s d u m js) (zero_field s) b
      (grown_on b s _ g (grown_none s _)) refl refl))

  -- a comparison: the mark between its paths is the kind and the channel
  compare_made : (f h mark k v : ℕ) (p q : Part) → FieldIs s.cells s.count f p → FieldIs s.cells s.count h q → mark / 256 ≡ suc k → suc k < 256
      → mark % 256 ≡ v → s.items ≡ row_item f ∷ mark ∷ row_item h ∷ b.items → NodeBuilt b (taken 91 0 s) (tree (suc k) (number v) p q)
  compare_made f h mark k v p q ps qs kind few channel top =
      let items = row_item f ∷ mark ∷ row_item h ∷ b.items in
      let made = node 3 (mark / 256) (mark % 256) (row_item f / 2) (row_item h / 2) in
      subst (λ (items : List ℕ). NodeBuilt b (taken 91 0 (on s items)) (tree (suc k) (number v) p q)) (sym top)
      (subst (λ (b? : Bool). NodeBuilt b (cell_or (pick b? None (Some made)) (marks_by 91 0 (row_item f) mark) (on s items)) (tree (suc k) (number v) p q))
      (sym (ne_eqb (mark / 256) 0 (λ e. omega (arith, e, kind))))
      (node_cell (on s items) four made (suc k) kind few (number v) p q (channel, omega arith) (half_field s f p ps) (half_field s h q qs) b
      (grown_on b s _ g (grown_none s _)) refl refl))

  -- a step and a jump
  item_made : (f v : ℕ) (rest : Part) (under : List ℕ) → v < 256 → FieldIs s.cells s.count f rest → s.items ≡ row_item f ∷ under
      → RowBuilt b (taken 47 v s) under (entry (tree 8 (number v) rest unused)) × RowBuilt b (taken 64 v s) under (entry (tree 9 (number v) rest unused))
  item_made f v rest under l is top = (
    subst (λ (items : List ℕ). RowBuilt b (taken 47 v (on s items)) under (entry (tree 8 (number v) rest unused))) (sym top)
        (row_cell (on s (row_item f ∷ under)) four (path 1 8 v (row_item f / 2)) 8 refl (omega arith) (number v) rest unused (number_field s v l) (half_field s f rest is) (zero_field s) b
        (grown_on b s _ g (grown_none s _)) refl under refl),
    subst (λ (items : List ℕ). RowBuilt b (taken 64 v (on s items)) under (entry (tree 9 (number v) rest unused))) (sym top)
        (row_cell (on s (row_item f ∷ under)) four (path 1 9 v (row_item f / 2)) 9 refl (omega arith) (number v) rest unused (number_field s v l) (half_field s f rest is) (zero_field s) b
        (grown_on b s _ g (grown_none s _)) refl under refl),
  )

  test_made : (c f : ℕ) (t : Tree) (rest : Part) (under : List ℕ) → c < s.count → CellIs s.cells c t → FieldIs s.cells s.count f rest
      → s.items ≡ node_item c ∷ row_item f ∷ under → RowBuilt b (taken 63 0 s) under (entry (tree 10 (entry t) rest unused))
  test_made c f t rest under l is fs top =
      subst (λ (items : List ℕ). RowBuilt b (taken 63 0 (on s items)) under (entry (tree 10 (entry t) rest unused))) (sym top)
      (row_cell (on s (node_item c ∷ row_item f ∷ under)) four (path 2 10 (node_item c / 2) (row_item f / 2)) 10 refl (omega arith) (entry t) rest unused (cell_field s c t l is) (half_field s f rest fs) (zero_field s) b
      (grown_on b s _ g (grown_none s _)) refl under refl)

  brace_made : (f h r : ℕ) (p q : Part) (under : List ℕ) → FieldIs s.cells s.count f p → FieldIs s.cells s.count h q
      → s.items ≡ row_item f ∷ row_item h ∷ r ∷ under → RowBuilt b (taken 123 0 s) under (entry (tree 11 p q unused))
  brace_made f h r p q under ps qs top =
      subst (λ (items : List ℕ). RowBuilt b (taken 123 0 (on s items)) under (entry (tree 11 p q unused))) (sym top)
      (row_cell (on s (row_item f ∷ row_item h ∷ r ∷ under)) four (path 3 11 (row_item f / 2) (row_item h / 2)) 11 refl (omega arith) p q unused (half_field s f p ps) (half_field s h q qs) (zero_field s) b
      (grown_on b s _ g (grown_none s _)) refl under refl)

-- ---- a bar over a node, and over a row
bar_node : (s : State) (c : ℕ) (under : List ℕ) → s.items ≡ node_item c ∷ under → taken 124 0 s ≡ on s (3072 ∷ s.items)
bar_node s c under top = ap (λ (n : ℕ). on s (n ∷ s.items)) over
  where
    odd : node_item c % 2 ≡ 0 → ⊥
    odd e = omega (arith, e)

    over : bar_mark (get_or s.items 0 0) (get_or s.items 1 0) ≡ 3072
    over = rw (top, ne_eqb (node_item c % 2) 0 odd)

bar_row : (s : State) (f n : ℕ) (under : List ℕ) → s.items ≡ row_item f ∷ n ∷ under → taken 124 0 s ≡ on s (n ∷ s.items)
bar_row s f n under top = ap (λ (m : ℕ). on s (m ∷ s.items)) over
  where
    even : row_item f % 2 ≡ 0
    even = omega arith

    over : bar_mark (get_or s.items 0 0) (get_or s.items 1 0) ≡ n
    over = rw (top, eq-eqb (row_item f % 2) 0 even)

-- ---- parts put together; b is the state before them
self : (s : State) → Grown s s
self s = grown_none s s.items

pair_over : (b r s : State) (mark k : ℕ) (t u : Tree) → NodeBuilt b r u → NodeBuilt (on r (mark ∷ r.items)) s t → mark / 256 ≡ suc k → suc k < 256
    → NodeBuilt b (taken 40 0 s) (tree (suc k) (entry t) (entry u) unused)
pair_over b r s mark k t u second first kind few =
    let between = grown_on r (on r (mark ∷ r.items)) s (grown_none r (mark ∷ r.items)) first.grown in
    pair_made b s first.four (grown_on b r s second.grown between) first.cell second.cell mark k t u (omega (arith, first.last))
    (omega (arith, second.last, between.count_grows)) first.is (cell_grown r s between second.cell u second.is) kind few
    (first.on_top ∙ ap (λ (l : List ℕ). node_item first.cell ∷ mark ∷ l) second.on_top)

either_over : (b r s : State) (t u : Tree) → NodeBuilt b r u → NodeBuilt (taken 124 0 r) s t → NodeBuilt b (taken 40 0 s) (tree 12 (entry t) (entry u) unused)
either_over b r s t u second first =
    pair_over b r s 3072 11 t u second (subst (λ (x : State). NodeBuilt x s t) (bar_node r second.cell b.items second.on_top) first) refl (omega arith)

compare_over : (b r s : State) (mark k v : ℕ) (p q : Part) → RowBuilt (on b (510 ∷ b.items)) r b.items q
    → RowBuilt (on r (510 ∷ mark ∷ r.items)) s (mark ∷ r.items) p → mark / 256 ≡ suc k → suc k < 256 → mark % 256 ≡ v
    → NodeBuilt b (taken 91 0 s) (tree (suc k) (number v) p q)
compare_over b r s mark k v p q second first kind few channel =
    let between = grown_on r (on r (510 ∷ mark ∷ r.items)) s (grown_none r (510 ∷ mark ∷ r.items)) first.grown in
    compare_made b s first.four (grown_on b r s (grown_on b (on b (510 ∷ b.items)) r (grown_none b (510 ∷ b.items)) second.grown) between) first.field
    second.field mark k v p q first.is (field_grown r s between second.field q second.is) kind few channel
    (first.on_top ∙ ap (λ (l : List ℕ). row_item first.field ∷ mark ∷ l) second.on_top)

test_over : (b r s : State) (t : Tree) (rest : Part) (under : List ℕ) → RowBuilt b r under rest → NodeBuilt r s t
    → RowBuilt b (taken 63 0 s) under (entry (tree 10 (entry t) rest unused))
test_over b r s t rest under behind node =
    test_made b s node.four (grown_on b r s behind.grown node.grown) node.cell behind.field t rest under (omega (arith, node.last)) node.is
    (field_grown r s node.grown behind.field rest behind.is)
    (node.on_top ∙ ap (λ (l : List ℕ). node_item node.cell ∷ l) behind.on_top)

-- a brace, over its paths: what follows lies below them, and is put on top again for each
brace_over : (b r r' s s' w : State) (rest p q : Part) (n : ℕ) (under : List ℕ) → RowBuilt b r under rest → Grown r r' → RowBuilt r' s (n ∷ under) q
    → Grown s s' → RowBuilt s' w s.items p → RowBuilt b (taken 123 0 w) under (entry (tree 11 p q unused))
brace_over b r r' s s' w rest p q n under behind g second h first =
    let between = grown_on s s' w h first.grown in
    brace_made b w first.four (grown_on b r w behind.grown (grown_on r r' w g (grown_on r' s w second.grown between))) first.field second.field n p q
    under first.is (field_grown s w between second.field q second.is)
    (first.on_top ∙ ap (λ (l : List ℕ). row_item first.field ∷ l) second.on_top)

-- the end of a brace puts what follows it on top again
again_top : (s : State) (n : ℕ) (under : List ℕ) → s.items ≡ n ∷ under → get_or s.items 0 0 ∷ s.items ≡ n ∷ n ∷ under
again_top s n under top = ap (λ (l : List ℕ). get_or l 0 0 ∷ l) top

-- ---- a text
-- the end of path below a bracket, or below a comparison
end_field : (◌≡◌ {A = ℕ} 255 255) × (255 < 256)
end_field = (refl, omega arith)

-- a row goes on from state s to s' with P of what follows it
abbrev Goes : State → State → (Part → Part) → Type 0
Goes s s' P =
    (f : ℕ) (under : List ℕ) (rest : Part) → s.items ≡ row_item f ∷ under → FieldIs s.cells s.count f rest → RowBuilt s s' under (P rest)

-- a brace, by what its rows make
brace_built : (b r s w : State) (P Q : Part → Part) (rest : Part) (under : List ℕ) → RowBuilt b r under rest → Goes (taken 125 0 r) s Q
    → Goes (taken 124 0 s) w P → RowBuilt b (taken 123 0 w) under (entry (tree 11 (P rest) (Q rest) unused))
brace_built b r s w P Q rest under behind goes_second goes_first =
    let n = row_item behind.field in
    let second = goes_second behind.field (n ∷ under) rest (again_top r n under behind.on_top) behind.is in
    let bar = bar_row s second.field n under second.on_top in
    let first = goes_first behind.field s.items rest (ap (λ (t : State). t.items) bar)
    (subst (λ (t : State). FieldIs t.cells t.count behind.field rest) (sym bar)
    (field_grown r s (grown_on r (taken 125 0 r) s (grown_none r _) second.grown) behind.field rest behind.is)) in
    brace_over b r (taken 125 0 r) s (taken 124 0 s) w rest (P rest) (Q rest) n under behind (grown_none r _) second (grown_none s _) first

mutual
  node_built : (t : NodeText) (i : ℕ) (ys : List Token) → InRange (node_tokens t i ys)
      → NodeBuilt (run ys) (run (node_tokens t i ys)) (node_tree t) × InRange ys
  node_built (NodeText.property k) i ys h =
      ((leaf_made (run ys) (run ys) (run_four ys) (self (run ys)) (value_of k) (omega (arith, h.0)) refl).0, h.1)
  node_built (NodeText.name k) i ys h =
      ((leaf_made (run ys) (run ys) (run_four ys) (self (run ys)) (value_of k) (omega (arith, h.0)) refl).1, h.1)
  node_built (NodeText.not t) i ys h =
      let a = node_built t _ ys h.1 in
      (not_made (run ys) _ a.0.four a.0.grown a.0.cell (node_tree t) (omega (arith, a.0.last)) a.0.is a.0.on_top, a.1)
  node_built (NodeText.both t u) i ys h =
      let a = node_built t _ _ h.1 in
      let b = node_built u _ _ a.1.1 in
      (pair_over (run ys) _ _ 1024 3 (node_tree t) (node_tree u) b.0 a.0 refl (omega arith), b.1.1)
  node_built (NodeText.either t u) i ys h =
      let a = node_built t _ _ h.1 in
      let b = node_built u _ _ a.1.1 in
      (either_over (run ys) _ _ (node_tree t) (node_tree u) b.0 a.0, b.1.1)
  node_built (NodeText.after k t) i ys h =
      let a = node_built t _ ys h.1.1 in
      (after_made (run ys) _ a.0.four a.0.grown a.0.cell (node_tree t) (omega (arith, a.0.last)) a.0.is a.0.on_top (value_of k) (omega (arith, h.0)), a.1)
  node_built (NodeText.same r k q) i ys h =
      let a = row_built r _ _ h.1 in
      let b = row_built q _ _ a.1.1 in (
        compare_over (run ys) _ _ (1536 + value_of k) 5 (value_of k) _ _ (b.0 255 (run ys).items (number 255) refl end_field)
            (a.0 255 _ (number 255) refl end_field) (omega (arith, a.1.0)) (omega arith) (omega (arith, a.1.0)),
        b.1.1,
      )
  node_built (NodeText.differ r k q) i ys h =
      let a = row_built r _ _ h.1 in
      let b = row_built q _ _ a.1.1 in (
        compare_over (run ys) _ _ (1792 + value_of k) 6 (value_of k) _ _ (b.0 255 (run ys).items (number 255) refl end_field)
            (a.0 255 _ (number 255) refl end_field) (omega (arith, a.1.0)) (omega arith) (omega (arith, a.1.0)),
        b.1.1,
      )

  row_built : (r : RowText) (i : ℕ) (ys : List Token) → InRange (row_tokens r i ys)
      → Goes (run ys) (run (row_tokens r i ys)) (λ rest. row_tree r rest) × InRange ys
  row_built RowText.end i ys h = (λ f under rest top is. record { four = run_four ys; grown = self (run ys); field = f; on_top = top; is = is }, h)
  row_built (RowText.step k r) i ys h =
      let a = row_built r _ ys h.1 in (
        λ f under rest top is. let b = a.0 f under rest top is in
            (item_made (run ys) _ b.four b.grown b.field (value_of k) (row_tree r rest) under (omega (arith, h.0)) b.is b.on_top).0,
        a.1,
      )
  row_built (RowText.jump k r) i ys h =
      let a = row_built r _ ys h.1 in (
        λ f under rest top is. let b = a.0 f under rest top is in
            (item_made (run ys) _ b.four b.grown b.field (value_of k) (row_tree r rest) under (omega (arith, h.0)) b.is b.on_top).1,
        a.1,
      )
  row_built (RowText.test t r) i ys h =
      let a = node_built t _ _ h.1 in
      let b = row_built r _ ys a.1 in
      (λ f under rest top is. test_over (run ys) _ _ (node_tree t) (row_tree r rest) under (b.0 f under rest top is) a.0, b.1)
  row_built (RowText.brace p q r) i ys h =
      let a = row_built p _ _ h.1 in
      let b = row_built q _ _ a.1.1 in
      let c = row_built r _ ys b.1.1 in (
        λ f under rest top is.
            brace_built (run ys) _ _ _ (λ x. row_tree p x) (λ x. row_tree q x) (row_tree r rest) under (c.0 f under rest top is) b.0 a.0,
        c.1,
      )

-- ---- tokens as numbers
limit_either : (t : Bool) (a b : ℕ) → a ≤ 127 → b ≤ 127 → pick t a b ≤ 127
limit_either true a b p q = p
limit_either false a b p q = q

limit_small : (c : ℕ) → limit_of c ≤ 127
limit_small c =
    limit_either (eqb c 112) _ _ (omega arith)
    (limit_either (eqb c 110) _ _ (omega arith)
    (limit_either (eqb c 64) _ _ (omega arith)
    (limit_either (eqb c 60) _ _ (omega arith)
    (limit_either (eqb c 47) _ _ (omega arith)
    (limit_either (eqb c 61) _ _ (omega arith)
    (limit_either (eqb c 35) _ _ (omega arith) (omega arith)))))))

-- a number in its range is told with its letter
word_taken : (t : Token) (s : State) → t.value ≤ limit_of t.letter → taken_word (token_word t) s ≡ taken t.letter t.value s
unfolding taken_word
word_taken t s h =
    let small : t.value < 255 = omega (arith, h, limit_small t.letter) in
    let told : capped t.value ≡ t.value = rw (lt-ltb t.value 255 small) in
    rw (told, letter small, value small)
  where
    letter : t.value < 255 → (t.letter * 256 + t.value) / 256 ≡ t.letter
    letter small = omega (arith, small)

    value : t.value < 255 → (t.letter * 256 + t.value) % 256 ≡ t.value
    value small = omega (arith, small)

words_run : (ts : List Token) → InRange ts → built_of (token_words ts) ≡ run ts
unfolding built_of built_from
words_run [] h = refl
words_run (t ∷ ts) h = ap (taken_word (token_word t)) (words_run ts h.1) ∙ word_taken t (run ts) h.0

-- the tokens of a text whose numbers are in range make its tree, whose cell is the last
pub record TextCells (s : State) (t : NodeText) : Type 0 where
  pub some_cell : 1 ≤ s.count
  pub root : CellIs s.cells (s.count - 1) (node_tree t)
  pub four_each : length s.cells ≡ 4 * s.count

pub text_built : (t : NodeText) → range_check (tokens_of t) ≡ passes → TextCells (built_of (token_words (tokens_of t))) t
text_built t h =
    let ranged = within_ranges (tokens_of t) h in
    let n = (node_built t 0 [] ranged).0 in
    let cell : n.cell ≡ (run (tokens_of t)).count - 1 = omega (arith, n.last) in
    subst (λ (s : State). TextCells s t) (sym (words_run (tokens_of t) ranged))
    (record {
      some_cell = omega (arith, n.last);
      root = subst (λ (c : ℕ). CellIs (run (tokens_of t)).cells c (node_tree t)) cell n.is;
      four_each = n.four;
    })

-- a token makes one cell at most
pub built_few : (ws : List ℕ) → (built_of ws).count ≤ length ws
unfolding built_of built_from taken_word start
built_few [] = omega arith
built_few (w ∷ ws) = go (made_by (w / 256) (w % 256) (get_or s.items 0 0) (get_or s.items 1 0) (get_or s.items 2 0)) (built_few ws)
  where
    s : State
    s = built_from start ws

    go : (m : Option Made) → s.count ≤ length ws
        → (cell_or m (marks_by (w / 256) (w % 256) (get_or s.items 0 0) (get_or s.items 1 0)) s).count ≤ suc (length ws)
    go None h = omega (arith, h)
    go (Some m) h = omega (arith, h)
