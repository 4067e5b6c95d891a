-- Trees in cells: what the machine makes of the tokens of a text is the tree of its entries, with the rest of each row carried.
-- Assumes nothing.
use Rattle.std.specs.Prelude.{◌≡◌, refl, List, [], ◌∷◌, ◌++◌, ℕ, suc, ◌+◌, ◌*◌, ◌≤◌, ◌<◌, Option, Some, None, length, get_or, drop}
use Rattle.std.proofs.Common.{sym, ap, subst, ◌∙◌, append_assoc, append-nil, add-zero, arith, length-append, get_or-append-add}
use Rattle.std.proofs.Math.ListN.{get_or-append}
use Rattle.typed_text.specs.Tokens.{Token}
use Rattle.typed_file.specs.Trees.{Tree, tree, Part, number, entry}
use Rattle.text_cells.specs.declared.letters.Made.{Made}
use Rattle.text_cells.specs.Building.{made_by, marks_by, State, with_cell, cell_or, taken, start}

-- ---- laws

-- cell c is the tree; a field that is an entry is a cell before it
abbrev mutual
  pub CellIs : List ℕ → ℕ → Tree → Type 0
  CellIs cells c (tree k x y z) =
      (4 * c + 4 ≤ length cells) × ((get_or cells (4 * c) 0 ≡ k) × (k < 256)) × FieldIs cells c (get_or cells (4 * c + 1) 0) x
      × FieldIs cells c (get_or cells (4 * c + 2) 0) y × FieldIs cells c (get_or cells (4 * c + 3) 0) z

  pub FieldIs : List ℕ → ℕ → ℕ → Part → Type 0
  FieldIs cells below f (number n) = (f ≡ n) × (f < 256)
  FieldIs cells below f (entry t) = (c : ℕ) × ((f ≡ 256 + c) × (c < below) × CellIs cells c t)

-- cells are added behind
mutual
  pub cell_more : (t : Tree) (cells more : List ℕ) (c : ℕ) → CellIs cells c t → CellIs (cells ++ more) c t
  cell_more (tree k x y z) cells more c h =
      let at : (j : ℕ) → j < 4 → get_or (cells ++ more) (4 * c + j) 0 ≡ get_or cells (4 * c + j) 0
      = λ j l. get_or-append cells more 0 (4 * c + j) (omega (arith, h.0)) in (
        omega (arith, h.0, length-append cells more),
        (get_or-append cells more 0 (4 * c) (omega (arith, h.0)) ∙ h.1.0, h.1.1),
        subst (λ (f : ℕ). FieldIs (cells ++ more) c f x) (sym (at 1 (omega arith))) (field_more x cells more c c _ (omega arith) h.2),
        subst (λ (f : ℕ). FieldIs (cells ++ more) c f y) (sym (at 2 (omega arith))) (field_more y cells more c c _ (omega arith) h.3),
        subst (λ (f : ℕ). FieldIs (cells ++ more) c f z) (sym (at 3 (omega arith))) (field_more z cells more c c _ (omega arith) h.4),
      )

  pub field_more : (p : Part) (cells more : List ℕ) (m n f : ℕ) → m ≤ n → FieldIs cells m f p → FieldIs (cells ++ more) n f p
  field_more (number v) cells more m n f l h = h
  field_more (entry t) cells more m n f l h = (h.0, (h.1.0, omega (arith, l, h.1.1), cell_more t cells more h.0 h.1.2))

-- the state of the machine after tokens
abbrev pub run : List Token → State
run [] = start
run (t ∷ ts) = taken t.letter t.value (run ts)

abbrev pub Four : State → Type 0
Four s = length s.cells ≡ 4 * s.count

taken_four : (letter value : ℕ) (s : State) → Four s → Four (taken letter value s)
taken_four letter value s h = go (made_by letter value (get_or s.items 0 0) (get_or s.items 1 0) (get_or s.items 2 0))
  where
    go : (m : Option Made) → Four (cell_or m (marks_by letter value (get_or s.items 0 0) (get_or s.items 1 0)) s)
    go None = h
    go (Some m) = length-append s.cells _ ∙ omega (arith, h)

pub run_four : (ts : List Token) → Four (run ts)
unfolding start
run_four [] = refl
run_four (t ∷ ts) = taken_four t.letter t.value (run ts) (run_four ts)

-- cells and how many they are only grow
pub record Grown (s s' : State) : Type 0 where
  pub more : List ℕ
  pub cells_are : s'.cells ≡ s.cells ++ more
  pub count_grows : s.count ≤ s'.count

pub grown_none : (s : State) (items : List ℕ) → Grown s (record { count = s.count; cells = s.cells; items = items })
grown_none s items = record { more = []; cells_are = sym (append-nil s.cells); count_grows = omega arith }

pub grown_on : (s t u : State) → Grown s t → Grown t u → Grown s u
grown_on s t u g h = record {
  more = g.more ++ h.more;
  cells_are = h.cells_are ∙ ap (λ (cs : List ℕ). cs ++ h.more) g.cells_are ∙ append_assoc s.cells g.more h.more;
  count_grows = omega (arith, g.count_grows, h.count_grows);
}

pub cell_grown : (s t : State) → Grown s t → (c : ℕ) (u : Tree) → CellIs s.cells c u → CellIs t.cells c u
cell_grown s t g c u h = subst (λ (cs : List ℕ). CellIs cs c u) (sym g.cells_are) (cell_more u s.cells g.more c h)

pub field_grown : (s t : State) → Grown s t → (f : ℕ) (p : Part) → FieldIs s.cells s.count f p → FieldIs t.cells t.count f p
field_grown s t g f p h =
    subst (λ (cs : List ℕ). FieldIs cs t.count f p) (sym g.cells_are)
    (field_more p s.cells g.more s.count t.count f g.count_grows h)

-- the items of a node's cell and of a row's field
abbrev pub node_item : ℕ → ℕ
node_item c = 2 * (256 + c) + 1

abbrev pub row_item : ℕ → ℕ
row_item f = 2 * f

-- from s on a node was made: it is the last cell, and its item lies on the stack
pub record NodeBuilt (s s' : State) (t : Tree) : Type 0 where
  pub four : Four s'
  pub grown : Grown s s'
  pub cell : ℕ
  pub last : s'.count ≡ suc cell
  pub on_top : s'.items ≡ node_item cell ∷ s.items
  pub is : CellIs s'.cells cell t

-- or a row, with what follows it, on these items
pub record RowBuilt (s s' : State) (under : List ℕ) (p : Part) : Type 0 where
  pub four : Four s'
  pub grown : Grown s s'
  pub field : ℕ
  pub on_top : s'.items ≡ row_item field ∷ under
  pub is : FieldIs s'.cells s'.count field p

-- ---- one cell
module _ (s : State) (four : Four s) (m : Made) (k : ℕ) (kind : m.kind ≡ k) (few : k < 256) (x y z : Part) (xs : FieldIs s.cells s.count m.x x)
    (ys : FieldIs s.cells s.count m.y y) (zs : FieldIs s.cells s.count m.z z) where
  abbrev four_numbers : List ℕ
  four_numbers = m.kind ∷ m.x ∷ m.y ∷ m.z ∷ []

  number_at : (j : ℕ) → get_or (s.cells ++ four_numbers) (4 * s.count + j) 0 ≡ get_or four_numbers j 0
  number_at j =
      ap (λ (n : ℕ). get_or (s.cells ++ four_numbers) (n + j) 0) (sym four) ∙ get_or-append-add s.cells four_numbers j 0

  new_cell : CellIs (s.cells ++ four_numbers) s.count (tree k x y z)
  new_cell =
      let lift : (f : ℕ) (p : Part) → FieldIs s.cells s.count f p → FieldIs (s.cells ++ four_numbers) s.count f p
      = λ f p h. field_more p s.cells four_numbers s.count s.count f (omega arith) h in (
        omega (arith, four, length-append s.cells four_numbers),
        (ap (λ (n : ℕ). get_or (s.cells ++ four_numbers) n 0) (sym (add-zero (4 * s.count))) ∙ number_at 0 ∙ kind, few),
        subst (λ (f : ℕ). FieldIs (s.cells ++ four_numbers) s.count f x) (sym (number_at 1)) (lift m.x x xs),
        subst (λ (f : ℕ). FieldIs (s.cells ++ four_numbers) s.count f y) (sym (number_at 2)) (lift m.y y ys),
        subst (λ (f : ℕ). FieldIs (s.cells ++ four_numbers) s.count f z) (sym (number_at 3)) (lift m.z z zs),
      )

  grown_cell : Grown s (with_cell m s)
  grown_cell = record { more = four_numbers; cells_are = refl; count_grows = omega arith }

  four_more : Four (with_cell m s)
  four_more = length-append s.cells four_numbers ∙ omega (arith, four)

  -- a node's
  pub node_cell : (b : State) → Grown b s → m.tag ≡ 1 → drop m.takes s.items ≡ b.items → NodeBuilt b (with_cell m s) (tree k x y z)
  node_cell b g tag under = record {
    four = four_more;
    grown = grown_on b s (with_cell m s) g grown_cell;
    cell = s.count;
    last = refl;
    on_top = ap (λ (n : ℕ). (2 * (256 + s.count) + n) ∷ drop m.takes s.items) tag ∙ ap (λ (l : List ℕ). node_item s.count ∷ l) under;
    is = new_cell;
  }

  -- a path's
  pub row_cell : (b : State) → Grown b s → m.tag ≡ 0 → (under : List ℕ) → drop m.takes s.items ≡ under
      → RowBuilt b (with_cell m s) under (entry (tree k x y z))
  row_cell b g tag under e = record {
    four = four_more;
    grown = grown_on b s (with_cell m s) g grown_cell;
    field = 256 + s.count;
    on_top =
        ap (λ (n : ℕ). (2 * (256 + s.count) + n) ∷ drop m.takes s.items) tag
        ∙ ap (λ (n : ℕ). n ∷ drop m.takes s.items) (add-zero (2 * (256 + s.count))) ∙ ap (λ (l : List ℕ). row_item (256 + s.count) ∷ l) e;
    is = (s.count, (refl, omega arith, new_cell));
  }

-- a cell is one tree
mutual
  pub cell_once : (t u : Tree) (cells : List ℕ) (c : ℕ) → CellIs cells c t → CellIs cells c u → t ≡ u
  cell_once (tree k x y z) (tree l a b d) cells c h g =
      let xs = field_once x a cells c _ h.2 g.2 in
      let ys = field_once y b cells c _ h.3 g.3 in
      let zs = field_once z d cells c _ h.4 g.4 in
      λ i. tree ((sym h.1.0 ∙ g.1.0) i) (xs i) (ys i) (zs i)

  field_once : (p q : Part) (cells : List ℕ) (m f : ℕ) → FieldIs cells m f p → FieldIs cells m f q → p ≡ q
  field_once (number v) (number w) cells m f h g = ap number (sym h.0 ∙ g.0)
  field_once (number v) (entry u) cells m f h g = absurd (omega (arith, h.1, g.1.0))
  field_once (entry t) (number w) cells m f h g = absurd (omega (arith, h.1.0, g.1))
  field_once (entry t) (entry u) cells m f h g =
      let same : h.0 ≡ g.0 = omega (arith, h.1.0, g.1.0) in
      ap entry (cell_once t u cells g.0 (subst (λ (c : ℕ). CellIs cells c t) same h.1.2) g.1.2)
