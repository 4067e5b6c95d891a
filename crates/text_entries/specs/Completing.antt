-- Completing the cells of a text by a stack: what lies on it is completed from the top down, and the first open part of a cell is put on top
-- of it. What is completed in the end is the root.
-- Assumes nothing.
use Rattle.std.specs.Prelude.{◌≡◌, Bool, true, false, Result, Ok, Err, IsErr, List, [], ◌∷◌, ℕ, zero, suc, ◌+◌, ◌-◌, ◌*◌, ◌≤◌, ◌<◌, ltb, eqb, length, get_or, set, drop}
use Rattle.std.proofs.Math.Path.{refl}
use Rattle.std.proofs.Common.{sym, ap, subst, ◌∙◌, not-suc-le-zero, le_of_suc-le-suc, arith}
use borrow.Author.Tests.{lt-ltb, le-ltb, eq-eqb, ne_eqb, eqb-true, eqb-false, ltb-false}
use Rattle.std.proofs.lemmas.Bool.{false≢true}
use Rattle.wire.specs.Choice.{pick}
use Rattle.wire.specs.Onto.{onto}
use Rattle.typed_file.specs.Trees.{Tree, tree, Part, number, entry}
use Rattle.typed_file.specs.Entries.{Entry, complete, entries_of, entry_bytes}
use Rattle.typed_file.specs.Completion.{Stands, PartIs, Distinct}
use Rattle.text_cells.specs.Cells.{CellIs, FieldIs}
use Rattle.text_entries.specs.declared.TooMany.{TooMany}
use Rattle.text_entries.specs.declared.Open.{Open}

-- the number of a field: what it is, or what is kept of its part, less one; the part where nothing is
abbrev pub number_of : List ℕ → ℕ → Result ℕ Open
number_of numbers f =
    pick (ltb f 256) (Ok f)
    (pick (eqb (get_or numbers (f - 256) 0) 0) (Err (record { 0 = f - 256 })) (Ok (get_or numbers (f - 256) 0 - 1)))

-- the fields of a cell in their order: the first that is open, or the numbers of all
abbrev pub unless_open : Result ℕ Open → (ℕ → Result (List ℕ) Open) → Result (List ℕ) Open
unless_open (Err o) rest = Err o
unless_open (Ok n) rest = rest n

abbrev pub fields_of : List ℕ → List ℕ → ℕ → Result (List ℕ) Open
fields_of cells numbers c =
    unless_open (number_of numbers (get_or cells (4 * c + 1) 0)) (λ x.
    unless_open (number_of numbers (get_or cells (4 * c + 2) 0)) (λ y.
    unless_open (number_of numbers (get_or cells (4 * c + 3) 0)) (λ z. Ok (x ∷ y ∷ z ∷ []))))

-- how many entries there are then
abbrev pub count_after : ℕ → ℕ → ℕ
count_after n found = pick (eqb found n) (n + 1) n

-- what is found of so many entries: how many they are, or that they are over 255
abbrev pub counted_as : ℕ → Result ℕ TooMany
counted_as n = pick (ltb 255 n) (Err (record {})) (Ok n)

-- ---- laws

-- the trees on the stack are completed one after the other
abbrev pub complete_all : List Tree → List Entry → List Entry
complete_all [] es = es
complete_all (t ∷ ts) es = complete_all ts (complete t es).entries

abbrev pub AllCells : List ℕ → List ℕ → List Tree → Type 0
AllCells cells [] [] = Unit {0}
AllCells cells [] (t ∷ ts) = ⊥
AllCells cells (c ∷ cs) [] = ⊥
AllCells cells (c ∷ cs) (t ∷ ts) = CellIs cells c t × AllCells cells cs ts

-- how many cells have no number
unfoldable pub zeros : List ℕ → ℕ
zeros [] = 0
zeros (x ∷ xs) = pick (eqb x 0) 1 0 + zeros xs

pub zeros_set : (xs : List ℕ) (i v : ℕ) → i < length xs → get_or xs i 0 ≡ 0 → zeros (set xs i (v + 1)) + 1 ≡ zeros xs
unfolding zeros
zeros_set [] i v l h = absurd (not-suc-le-zero l)
zeros_set (x ∷ xs) zero v l h = rw (eq-eqb x 0 h, ne_eqb (v + 1) 0 (λ e. omega (arith, e))) (omega arith)
zeros_set (x ∷ xs) (suc i) v l h = omega (arith, zeros_set xs i v (le_of_suc-le-suc l) h)

-- what is kept while the stack is worked off
pub record Going (cells lent : List ℕ) (root : Tree) (numbers stack entries : List ℕ) (at n : ℕ) : Type 0 where
  pub few : n ≤ 255
  pub numbers_long : length numbers ≡ 1024
  pub stack_long : length stack ≡ 1024
  pub place : at ≤ 1024
  pub small : (c : ℕ) → get_or numbers c 0 ≤ 255
  -- cells rise down the stack, each below its place, and have no number
  pub low : (j : ℕ) → at ≤ j → j < 1024 → get_or stack j 0 ≤ j
  pub rising : (i j : ℕ) → at ≤ i → i < j → j < 1024 → get_or stack i 0 < get_or stack j 0
  pub without : (j : ℕ) → at ≤ j → j < 1024 → get_or numbers (get_or stack j 0) 0 ≡ 0
  -- the entries so far
  pub es : List Entry
  pub count_is : n ≡ length es
  pub entries_are : entries ≡ onto (entry_bytes es) lent
  pub distinct : Distinct es
  -- a cell with a number stands there
  pub numbered : (c : ℕ) (t : Tree) → CellIs cells c t → (get_or numbers c 0 ≡ 0 → ⊥) → Stands es t (get_or numbers c 0 - 1)
  -- what lies on the stack completes to the root's entries
  pub trees : List Tree
  pub stacked : AllCells cells (drop at stack) trees
  pub rest : complete_all trees es ≡ entries_of root

-- ---- fields
pub ok_is : {A E : Type 0} (x y : A) → ◌≡◌ {A = Result A E} (Ok x) (Ok y) → x ≡ y
ok_is x y e = cc

pub err_is : {A : Type 0} (o p : Open) → ◌≡◌ {A = Result A Open} (Err o) (Err p) → o ≡ p
err_is o p e = cc

pub no_ok : {A E : Type 0} (e : E) (x : A) → ◌≡◌ {A = Result A E} (Err e) (Ok x) → ⊥
no_ok e x h = let z : ◌≡◌ {A = ℕ} 0 1 = cc in omega arith

-- entries that are over 255, and those that are not, as the code says it
pub told_many : (r : Result ℕ TooMany) (n : ℕ) → IsErr r → 255 < n → r ≡ counted_as n
told_many (Ok k) n h l = absurd (false≢true h)
told_many (Err e) n h l = rw (lt-ltb 255 n l)

pub told_all : (k n : ℕ) → k ≡ n → k ≤ 255 → Ok k ≡ counted_as n
told_all k n e l = rw (le-ltb 255 n (omega (arith, e, l))) (ap (λ (m : ℕ). Ok m) e)

pub open_large : (numbers : List ℕ) (f : ℕ) (o : Open) → number_of numbers f ≡ Err o → 256 ≤ f
open_large numbers f o h = go (ltb f 256) refl
  where
    go : (t : Bool) → ltb f 256 ≡ t → 256 ≤ f
    go true e = absurd (no_ok o f (sym (rw e at h)))
    go false e = ltb-false f 256 e

-- the part that is open is the field's
field_open : (numbers : List ℕ) (f : ℕ) (o : Open) → number_of numbers f ≡ Err o → o ≡ record { 0 = f - 256 }
field_open numbers f o h = go (eqb (get_or numbers (f - 256) 0) 0) refl
  where
    beyond : ltb f 256 ≡ false
    beyond = le-ltb f 256 (open_large numbers f o h)

    go : (t : Bool) → eqb (get_or numbers (f - 256) 0) 0 ≡ t → o ≡ record { 0 = f - 256 }
    go true e = sym (err_is {A = ℕ} _ o (rw (beyond, e) at h))
    go false e = absurd (no_ok o _ (sym (rw (beyond, e) at h)))

module _ (cells numbers : List ℕ) (c : ℕ) where
  abbrev x : Result ℕ Open
  x = number_of numbers (get_or cells (4 * c + 1) 0)

  abbrev y : Result ℕ Open
  y = number_of numbers (get_or cells (4 * c + 2) 0)

  abbrev z : Result ℕ Open
  z = number_of numbers (get_or cells (4 * c + 3) 0)

  pub open_x : (o : Open) → x ≡ Err o → Err (record { 0 = get_or cells (4 * c + 1) 0 - 256 }) ≡ fields_of cells numbers c
  open_x o h = rw h (ap (λ (o : Open). Err o) (sym (field_open numbers (get_or cells (4 * c + 1) 0) o h)))

  pub open_y : (k : ℕ) (o : Open) → x ≡ Ok k → y ≡ Err o → Err (record { 0 = get_or cells (4 * c + 2) 0 - 256 }) ≡ fields_of cells numbers c
  open_y k o g h = rw (g, h) (ap (λ (o : Open). Err o) (sym (field_open numbers (get_or cells (4 * c + 2) 0) o h)))

  pub open_z : (k l : ℕ) (o : Open) → x ≡ Ok k → y ≡ Ok l → z ≡ Err o
      → Err (record { 0 = get_or cells (4 * c + 3) 0 - 256 }) ≡ fields_of cells numbers c
  open_z k l o f g h = rw (f, g, h) (ap (λ (o : Open). Err o) (sym (field_open numbers (get_or cells (4 * c + 3) 0) o h)))

  pub none_open : (k l m : ℕ) → x ≡ Ok k → y ≡ Ok l → z ≡ Ok m → Ok (k ∷ l ∷ m ∷ []) ≡ fields_of cells numbers c
  none_open k l m f g h = rw (f, g, h)

field_small : (cells : List ℕ) (p : Part) (m f : ℕ) → FieldIs cells m f p → f < 256 + m
field_small cells (number v) m f h = omega (arith, h.1)
field_small cells (entry t) m f h = omega (arith, h.1.0, h.1.1)

-- the fields of a cell are in reach
pub fields_small : (cells : List ℕ) (t : Tree) (c : ℕ) → CellIs cells c t
    → (get_or cells (4 * c + 1) 0 < 256 + c) × (get_or cells (4 * c + 2) 0 < 256 + c) × (get_or cells (4 * c + 3) 0 < 256 + c)
fields_small cells (tree k x y z) c h = (field_small cells x c _ h.2, field_small cells y c _ h.3, field_small cells z c _ h.4)

module _ (cells numbers : List ℕ) (es : List Entry) (small : (c : ℕ) → get_or numbers c 0 ≤ 255)
    (numbered : (c : ℕ) (t : Tree) → CellIs cells c t → (get_or numbers c 0 ≡ 0 → ⊥) → Stands es t (get_or numbers c 0 - 1)) where
  -- a field that has a number
  pub part_number : (p : Part) (m f n : ℕ) → FieldIs cells m f p → number_of numbers f ≡ Ok n → PartIs es p n
  part_number (number v) m f n h g = sym (ok_is {E = Open} f n (rw (lt-ltb f 256 h.1) at g)) ∙ h.0
  part_number (entry t) m f n (c, (e, l, is)) g = go (eqb (get_or numbers (f - 256) 0) 0) refl
    where
      cell : f - 256 ≡ c
      cell = omega (arith, e)

      beyond : ltb f 256 ≡ false
      beyond = le-ltb f 256 (omega (arith, e))

      go : (b : Bool) → eqb (get_or numbers (f - 256) 0) 0 ≡ b → Stands es t n
      go true h = absurd (no_ok _ n (rw (beyond, h) at g))
      go false h =
          subst (λ (n : ℕ). Stands es t n) (ok_is {E = Open} _ n (rw (beyond, h) at g))
          (subst (λ (d : ℕ). Stands es t (get_or numbers d 0 - 1)) (sym cell)
          (numbered c t is (λ z. eqb-false (get_or numbers (f - 256) 0) 0 h (ap (λ (d : ℕ). get_or numbers d 0) cell ∙ z))))

  -- one that has none is a part without a number
  pub record OpenPart (p : Part) (m c : ℕ) : Type 0 where
    pub part : Tree
    pub is_part : p ≡ entry part
    pub cell : CellIs cells c part
    pub before : c < m
    pub without : get_or numbers c 0 ≡ 0

  pub part_open : (p : Part) (m f : ℕ) (o : Open) → FieldIs cells m f p → number_of numbers f ≡ Err o → OpenPart p m o.0
  part_open (number v) m f o h g = absurd (no_ok o f (sym (rw (lt-ltb f 256 h.1) at g)))
  part_open (entry t) m f o (c, (e, l, is)) g = go (eqb (get_or numbers (f - 256) 0) 0) refl
    where
      cell : f - 256 ≡ c
      cell = omega (arith, e)

      beyond : ltb f 256 ≡ false
      beyond = le-ltb f 256 (omega (arith, e))

      go : (b : Bool) → eqb (get_or numbers (f - 256) 0) 0 ≡ b → OpenPart (entry t) m o.0
      go true h =
          let same : f - 256 ≡ o.0 = ap (λ (o : Open). o.0) (err_is {A = ℕ} _ o (rw (beyond, h) at g)) in record {
            part = t;
            is_part = refl;
            cell = subst (λ (d : ℕ). CellIs cells d t) (sym cell ∙ same) is;
            before = omega (arith, cell, same, l);
            without = ap (λ (d : ℕ). get_or numbers d 0) (sym same) ∙ eqb-true (get_or numbers (f - 256) 0) 0 h;
          }
      go false h = absurd (no_ok o _ (sym (rw (beyond, h) at g)))
