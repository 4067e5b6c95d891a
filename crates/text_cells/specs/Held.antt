-- How lent numbers hold the state of the machine, and what a token does to them.
-- Assumes nothing.
use Rattle.std.specs.Prelude.{◌≡◌, Bool, true, false, Option, Some, None, eqb, length, get_or, set, take, replicate}
use Rattle.std.proofs.Math.Path.{refl, ap, subst}
use Rattle.std.proofs.Common.{sym, ◌∙◌, not-suc-le-zero, le_of_suc-le-suc, add-zero, arith, length-set, length-append, length-take, drop-cons, get_or-drop, get_or-take, drop-drop}
use mathlib.Core.List.{List, [], ◌∷◌, ◌++◌}
use Prim.Native.Nat.{ℕ, zero, suc, ◌+◌, ◌-◌, ◌*◌, ◌/◌, ◌%◌, ◌≤◌, ◌<◌}
use Rattle.std.proofs.Math.Nat.{sub-zero, zero-sub, min-eq_left}
use Rattle.std.proofs.Math.ListN.{drop, length-replicate}
use Rattle.std.proofs.Math.Seq.{drop-length}
use Rattle.wire.specs.Choice.{pick}
use Rattle.wire.specs.Blocks.{put_from}
use Rattle.wire.specs.Onto.{onto}
use Rattle.wire.proofs.Onto.{onto_more}
use Rattle.text_cells.specs.declared.letters.Made.{Made}
use Rattle.text_cells.specs.declared.letters.Marks.{Marks}
use Rattle.text_cells.specs.declared.letters.Marks.TheVariants.{Nothing, One, Two}
use Rattle.text_cells.specs.Building.{node, marked, made_by, marks_by, State, with_cell, with_marks, put, cell_or, taken_word, built_from, start, built_of}

-- ---- laws

-- the numbers stand in for the state: cells at the front of what was lent, the stack from a place on
pub record Holding (s : State) (out : List ℕ) (count : ℕ) (cells : List ℕ) (at : ℕ) (items : List ℕ) : Type 0 where
  pub count_is : count ≡ s.count
  pub cells_are : cells ≡ onto s.cells out
  pub items_are : drop at items ≡ s.items
  pub four_each : length s.cells ≡ 4 * s.count

-- what a token does: the state that the numbers hold is that after the token
pub record Took (word : ℕ) (cells : List ℕ) (count : ℕ) (items : List ℕ) (at at' count' : ℕ) (cells' items' : List ℕ) : Type 0 where
  pub low : at ≤ at' + 2
  pub high : at' ≤ at + 2
  pub one_more : count' ≤ count + 1
  pub same_long : length items' ≡ length items
  pub after : (s : State) (out : List ℕ) → length out ≡ 4096 → Holding s out count cells at items → Holding (taken_word word s) out count' cells' at' items'

-- a cell takes at most three items, and marks are at most two
pub record FewTaken (m : Made) : Type 0 where
  pub takes_few : m.takes ≤ 3
  pub tag_few : m.tag ≤ 1

pub record FewPut (m : Marks) : Type 0 where
  pub puts_few : (items : List ℕ) → length (put m items) ≤ length items + 2

-- the same where there may be no cell
abbrev pub FewTakenIf : Option Made → Type 0
FewTakenIf None = Unit {0}
FewTakenIf (Some m) = FewTaken m

-- of two, whichever is picked
taken_either : (t : Bool) (x y : Option Made) → FewTakenIf x → FewTakenIf y → FewTakenIf (pick t x y)
taken_either true x y p q = p
taken_either false x y p q = q

marked_few : (m : Made) → FewTaken m → FewTakenIf (marked m)
marked_few m p = taken_either (eqb m.kind 0) None (Some m) tt p

pub made_few : (letter value a b c : ℕ) → FewTakenIf (made_by letter value a b c)
made_few letter value a b c =
    taken_either (eqb letter 112) _ _ (record { takes_few = omega arith; tag_few = omega arith })
    (taken_either (eqb letter 110) _ _ (record { takes_few = omega arith; tag_few = omega arith })
    (taken_either (eqb letter 33) _ _ (record { takes_few = omega arith; tag_few = omega arith })
    (taken_either (eqb letter 40) _ _ (marked_few (node 3 (b / 256) (a / 2) (c / 2) 0) (record { takes_few = omega arith; tag_few = omega arith }))
    (taken_either (eqb letter 60) _ _ (record { takes_few = omega arith; tag_few = omega arith })
    (taken_either (eqb letter 91) _ _ (marked_few (node 3 (b / 256) (b % 256) (a / 2) (c / 2)) (record { takes_few = omega arith; tag_few = omega arith }))
    (taken_either (eqb letter 47) _ _ (record { takes_few = omega arith; tag_few = omega arith })
    (taken_either (eqb letter 64) _ _ (record { takes_few = omega arith; tag_few = omega arith })
    (taken_either (eqb letter 63) _ _ (record { takes_few = omega arith; tag_few = omega arith })
    (taken_either (eqb letter 123) _ _ (record { takes_few = omega arith; tag_few = omega arith }) tt)))))))))

put_few : (m : Marks) → FewPut m
put_few Nothing = record { puts_few = λ items. omega arith }
put_few (One mark) = record { puts_few = λ items. omega arith }
put_few (Two under upper) = record { puts_few = λ items. omega arith }

pub marks_few : (letter value a b : ℕ) → FewPut (marks_by letter value a b)
marks_few letter value a b = put_few (marks_by letter value a b)

-- the same of what the code has of the letter
pub taken_few_of : (m : Made) (letter value a b c : ℕ) → Some m ≡ made_by letter value a b c → FewTaken m
taken_few_of m letter value a b c e = subst FewTakenIf (sym e) (made_few letter value a b c)

pub put_few_of : (m : Marks) (letter value a b : ℕ) → m ≡ marks_by letter value a b → (items : List ℕ) → length (put m items) ≤ length items + 2
put_few_of m letter value a b e = (subst FewPut (sym e) (marks_few letter value a b)).puts_few

-- an item stored below the stack is its uppermost
pub drop_put : (xs : List ℕ) (k v : ℕ) → k < length xs → drop k (set xs k v) ≡ v ∷ drop (suc k) xs
drop_put [] k v h = absurd (not-suc-le-zero h)
drop_put (x ∷ xs) zero v h = refl
drop_put (x ∷ xs) (suc k) v h = drop_put xs k v (le_of_suc-le-suc h)

-- the items on top of the stack
module _ (items : List ℕ) (at : ℕ) (s : State) (held : drop at items ≡ s.items) where
  item_held : (k : ℕ) → get_or s.items k 0 ≡ get_or items (at + k) 0
  item_held k = ap (λ (xs : List ℕ). get_or xs k 0) (sym held) ∙ get_or-drop at items k 0

  top_held : get_or s.items 0 0 ≡ get_or items at 0
  top_held = item_held 0 ∙ ap (λ (k : ℕ). get_or items k 0) (add-zero at)

module _ (word count : ℕ) (cells items : List ℕ) (at : ℕ) where
  abbrev made : Option Made
  made = made_by (word / 256) (word % 256) (get_or items at 0) (get_or items (at + 1) 0) (get_or items (at + 2) 0)

  abbrev marks : Marks
  marks = marks_by (word / 256) (word % 256) (get_or items at 0) (get_or items (at + 1) 0)

  -- the token's cell or marks, by the items that the numbers hold
  taken_held : (s : State) → drop at items ≡ s.items → taken_word word s ≡ cell_or made marks s
  unfolding taken_word
  taken_held s held = rw (top_held items at s held, item_held items at s held 1, item_held items at s held 2)

  -- no cell: the marks lie on the stack then
  pub marks_took : (k : Marks) → k ≡ marks → None ≡ made → (at' : ℕ) (items' : List ℕ) → at ≤ at' + 2 → at' ≤ at → length items' ≡ length items
      → drop at' items' ≡ put k (drop at items) → Took word cells count items at at' count cells items'
  marks_took k e none at' items' low high long stacked = record {
    low = low;
    high = omega (arith, high);
    one_more = omega arith;
    same_long = long;
    after = λ s out l held.
        subst (λ (t : State). Holding t out count cells at' items')
        (sym (taken_held s held.items_are ∙ ap (λ (m : Option Made). cell_or m marks s) (sym none) ∙ ap (λ (k : Marks). with_marks k s) (sym e)))
        (record {
          count_is = held.count_is;
          cells_are = held.cells_are;
          items_are = stacked ∙ ap (put k) held.items_are;
          four_each = held.four_each;
        });
  }

  module _ (two : 2 ≤ at) (room : at + 3 ≤ length items) where
    pub one_stored : (mark : ℕ) → drop (at - 1) (set items (at - 1) mark) ≡ mark ∷ drop at items
    one_stored mark = drop_put items (at - 1) mark (omega (arith, two, room)) ∙ ap (λ (k : ℕ). mark ∷ drop k items) over
      where
        over : suc (at - 1) ≡ at
        over = omega (arith, two)

    pub both_stored : (under upper : ℕ) → drop (at - 2) (set (set items (at - 1) under) (at - 2) upper) ≡ upper ∷ under ∷ drop at items
    both_stored under upper =
        drop_put (set items (at - 1) under) (at - 2) upper (simp length-set (omega (arith, two, room)))
        ∙ ap (λ (k : ℕ). upper ∷ drop k (set items (at - 1) under)) below
        ∙ ap (λ (xs : List ℕ). upper ∷ xs) (one_stored under)
      where
        below : suc (at - 2) ≡ at - 1
        below = omega (arith, two)

    pub cell_took : (m : Made) → Some m ≡ made → count < 1024
        → Took word cells count items at (at + m.takes - 1) (count + 1) (put_from cells (4 * count) 0 (m.kind ∷ m.x ∷ m.y ∷ m.z ∷ []))
        (set items (at + m.takes - 1) (2 * (256 + count) + m.tag))
    cell_took m e fits = record {
      low = omega (arith, few, two);
      high = omega (arith, few, two);
      one_more = omega arith;
      same_long = simp length-set;
      after = λ s out l held.
          subst (λ (t : State). Holding t out (count + 1) (put_from cells (4 * count) 0 cell) (at + m.takes - 1) (set items (at + m.takes - 1) (2 * (256 + count) + m.tag)))
          (sym (taken_held s held.items_are ∙ ap (λ (m : Option Made). cell_or m marks s) (sym e)))
          (record {
            count_is = omega (arith, held.count_is);
            cells_are = stored s out l held;
            items_are = stacked s held;
            four_each = length-append s.cells cell ∙ omega (arith, held.four_each);
          });
    }
      where
        few : m.takes ≤ 3
        few = (taken_few_of m (word / 256) (word % 256) (get_or items at 0) (get_or items (at + 1) 0) (get_or items (at + 2) 0) e).takes_few

        cell : List ℕ
        cell = m.kind ∷ m.x ∷ m.y ∷ m.z ∷ []

        stored : (s : State) (out : List ℕ) → length out ≡ 4096 → Holding s out count cells at items
            → put_from cells (4 * count) 0 cell ≡ onto (s.cells ++ cell) out
        stored s out l held =
            ap (λ (xs : List ℕ). put_from xs (4 * count) 0 cell) held.cells_are
            ∙ ap (λ (k : ℕ). put_from (onto s.cells out) k 0 cell) (ap (λ (n : ℕ). 4 * n) held.count_is ∙ sym held.four_each)
            ∙ onto_more s.cells cell out (omega (arith, held.four_each, held.count_is, fits, l))

        stacked : (s : State) → {out : List ℕ} → Holding s out count cells at items
            → drop (at + m.takes - 1) (set items (at + m.takes - 1) (2 * (256 + count) + m.tag)) ≡ (with_cell m s).items
        stacked s held =
            drop_put items (at + m.takes - 1) (2 * (256 + count) + m.tag) (omega (arith, few, two, room))
            ∙ ap (λ (k : ℕ). (2 * (256 + count) + m.tag) ∷ drop k items) next
            ∙ ap (λ (xs : List ℕ). (2 * (256 + count) + m.tag) ∷ xs) (sym (drop-drop m.takes at items) ∙ ap (drop m.takes) held.items_are)
            ∙ ap (λ (n : ℕ). (2 * (256 + n) + m.tag) ∷ drop m.takes s.items) held.count_is
          where
            next : suc (at + m.takes - 1) ≡ at + m.takes
            next = omega (arith, two)

-- the tokens from the last down to i are taken
pub record Going (tokens : List ℕ) (n : ℕ) (lent cells items : List ℕ) (at count i : ℕ) : Type 0 where
  pub left : i ≤ n
  pub long : length items ≡ 4099
  pub low : 2 * i ≤ at
  pub high : at + 2 * i ≤ 4096
  pub few : count + i ≤ 1024
  pub held : Holding (built_of (drop i (take n tokens))) lent count cells at items

drop_replicate : (k n v : ℕ) → drop k (replicate n v) ≡ replicate (n - k) v
drop_replicate zero n v = ap (λ (m : ℕ). replicate m v) (sym (sub-zero n))
drop_replicate (suc k) zero v = ap (λ (m : ℕ). replicate m v) (sym (zero-sub (suc k)))
drop_replicate (suc k) (suc n) v = drop_replicate k n v ∙ ap (λ (m : ℕ). replicate m v) shorter
  where
    shorter : n - k ≡ suc n - suc k
    shorter = omega arith

module _ (tokens lent : List ℕ) (n : ℕ) (fits : n ≤ 1024) (tokens_long : length tokens ≡ 1024) (lent_long : length lent ≡ 4096) where
  front_long : length (take n tokens) ≡ n
  front_long = length-take n tokens ∙ min-eq_left (omega (arith, fits, tokens_long))

  pub going_start : Going tokens n lent lent (replicate 4099 0) 2048 0 n
  unfolding built_of built_from start onto
  going_start = record {
    left = omega arith;
    long = length-replicate {A = ℕ} 4099 0;
    low = omega (arith, fits);
    high = omega (arith, fits);
    few = omega (arith, fits);
    held = subst (λ (ws : List ℕ). Holding (built_from start ws) lent 0 lent 2048 (replicate 4099 0)) (sym none_left)
        (record { count_is = refl; cells_are = refl; items_are = drop_replicate 2048 4099 0; four_each = refl });
  }
    where
      none_left : drop n (take n tokens) ≡ []
      none_left = ap (λ (k : ℕ). drop k (take n tokens)) (sym front_long) ∙ drop-length (take n tokens)

  pub going_on_law : (cells items cells' items' : List ℕ) (at count at' count' i : ℕ) → 0 < i → Going tokens n lent cells items at count i
      → Took (get_or tokens (i - 1) 0) cells count items at at' count' cells' items' → Going tokens n lent cells' items' at' count' (i - 1)
  unfolding built_of built_from
  going_on_law cells items cells' items' at count at' count' i some g t = record {
    left = omega (arith, g.left);
    long = t.same_long ∙ g.long;
    low = omega (arith, g.low, t.low);
    high = omega (arith, g.high, t.high);
    few = omega (arith, g.few, t.one_more);
    held = subst (λ (ws : List ℕ). Holding (built_from start ws) lent count' cells' at' items') (sym one_left)
        (t.after (built_from start (drop i (take n tokens))) lent lent_long g.held);
  }
    where
      behind : suc (i - 1) ≡ i
      behind = omega (arith, some)

      one_left : drop (i - 1) (take n tokens) ≡ get_or tokens (i - 1) 0 ∷ drop i (take n tokens)
      one_left =
          drop-cons (take n tokens) (i - 1) 0 (omega (arith, front_long, g.left, some))
          ∙ ap (λ (w : ℕ). w ∷ drop (suc (i - 1)) (take n tokens)) (get_or-take n tokens (i - 1) 0 (omega (arith, g.left, some)))
          ∙ ap (λ (k : ℕ). get_or tokens (i - 1) 0 ∷ drop k (take n tokens)) behind

  pub going_end : (cells items : List ℕ) (at count i : ℕ) → i ≤ 0 → Going tokens n lent cells items at count i
      → (count ≡ (built_of (take n tokens)).count) × (cells ≡ onto (built_of (take n tokens)).cells lent)
  going_end cells items at count i none g =
      let end : i ≡ 0 = omega (arith, none) in
      let h = subst (λ (k : ℕ). Holding (built_of (drop k (take n tokens))) lent count cells at items) end g.held in
      (h.count_is, h.cells_are)
