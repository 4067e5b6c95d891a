-- The stack of cells, step by step: it begins with the root; an open part is put on top; a cell whose parts have numbers is placed and taken
-- off; in the end the entries are the root's.
-- Assumes nothing.
use Rattle.std.specs.Prelude.{◌≡◌, refl, Bool, true, false, Result, Ok, Err, ℕ, suc, ◌+◌, ◌-◌, ◌*◌, ◌≤◌, ◌<◌, ltb, eqb, set, take, drop, replicate}
use Rattle.std.proofs.Common.{sym, ◌∙◌, arith, lt-ltb, le-ltb, eq-eqb, ne_eqb, eqb-true, ltb-true, ltb-false, length-take, length-append, drop_of_length-le, drop-cons, get_or-set_same, get_or-set_other}
use Rattle.std.proofs.Math.Path.{ap, subst}
use mathlib.Core.List.{List, [], ◌∷◌, ◌++◌, append-nil, append_assoc}
use Rattle.std.proofs.Math.Nat.{min-eq_left}
use Rattle.std.proofs.lemmas.Bool.{eqb-false}
use Rattle.std.proofs.Math.ListN.{length, get_or, length-set, length-replicate, get_or-eq_default}
use Rattle.std.proofs.lemmas.List.{get_or-replicate}
use Rattle.std.proofs.Math.Seq.{length_front, take-append_seam}
use Rattle.wire.specs.Choice.{pick}
use Rattle.wire.specs.Blocks.{put_from}
use Rattle.wire.specs.Onto.{onto}
use Rattle.typed_file.specs.Trees.{Tree, tree, entry}
use Rattle.typed_file.specs.Entries.{Entry, Found, find_from, Completed, placed, place, complete, entries_of, entry_bytes}
use Rattle.typed_file.specs.Completion.{Stands, Grown, grown_on, completes, complete_distinct, still}
use Rattle.text_cells.specs.Cells.{CellIs, cell_once}
use Rattle.text_cells.specs.Held.{drop_put}
use Rattle.text_entries.specs.declared.TooMany.{TooMany}
use Rattle.text_entries.specs.declared.Open.{Open}
use Rattle.text_entries.specs.Placing.{entry_of, entries_from, number_found, within_room, stored_if, entries_held, bytes_four, entry_stored, Below, among}
use Rattle.text_entries.specs.Opening.{OpenAt, fields_open, fields_numbered}
use Rattle.text_entries.specs.Completing.{fields_of, count_after, ok_is, no_ok, complete_all, AllCells, Going, zeros, zeros_set}

-- ---- laws

-- ---- the top of the stack
pub record Top (cells stack : List ℕ) (trees : List Tree) (at : ℕ) : Type 0 where
  pub top : Tree
  pub others : List Tree
  pub is : CellIs cells (get_or stack at 0) top
  pub below : AllCells cells (drop (suc at) stack) others
  pub split : trees ≡ top ∷ others

pub top_of : (cells stack : List ℕ) (trees : List Tree) (at : ℕ) → at < length stack → AllCells cells (drop at stack) trees → Top cells stack trees at
top_of cells stack trees at l h = go trees (subst (λ (cs : List ℕ). AllCells cells cs trees) (drop-cons stack at 0 l) h)
  where
    go : (ts : List Tree) → AllCells cells (get_or stack at 0 ∷ drop (suc at) stack) ts → Top cells stack ts at
    go [] g = absurd g
    go (t ∷ ts) g = record { top = t; others = ts; is = g.0; below = g.1; split = refl }

-- its kind is a byte
pub kind_small : (cells : List ℕ) (t : Tree) (c : ℕ) → CellIs cells c t → get_or cells (4 * c) 0 < 256
kind_small cells (tree k a b d) c h = omega (arith, h.1.0, h.1.1)

-- what is still to be completed only adds entries
all_grown : (ts : List Tree) (es : List Entry) → Grown es (complete_all ts es)
all_grown [] es = record { new = []; is = sym (append-nil es) }
all_grown (t ∷ ts) es = grown_on es (complete t es).entries (complete_all ts (complete t es).entries) (completes t es).1 (all_grown ts (complete t es).entries)

-- whether there is room
no_room : (n : ℕ) (u : TooMany) → within_room n ≡ Err u → n ≡ 255
no_room n u e = go (eqb n 255) refl
  where
    go : (t : Bool) → eqb n 255 ≡ t → n ≡ 255
    go true h = eqb-true n 255 h
    go false h = absurd (no_ok u n (sym (rw h at e)))

some_room : (n m : ℕ) → within_room n ≡ Ok m → (n ≡ m) × (n ≡ 255 → ⊥)
some_room n m e = go (eqb n 255) refl
  where
    go : (t : Bool) → eqb n 255 ≡ t → (n ≡ m) × (n ≡ 255 → ⊥)
    go true h = absurd (no_ok _ m (rw h at e))
    go false h = (ok_is n m (rw h at e), eqb-false n 255 h)

-- the lent numbers and the stack at first
abbrev pub blank : List ℕ
blank = replicate 1024 0

module _ {cells lent : List ℕ} {root : Tree} (lent_long : length lent ≡ 1020) where
  -- the root alone
  pub going_start : (count : ℕ) → 1 ≤ count → count ≤ 1024 → CellIs cells (count - 1) root
      → Going cells lent root blank (set blank 1023 (count - 1)) lent 1023 0
  unfolding onto
  going_start count some few is = record {
    few = omega arith;
    numbers_long = long;
    stack_long = length-set blank 1023 (count - 1) ∙ long;
    place = omega arith;
    small = λ c. omega (arith, nought c);
    low = λ j l m. let last : 1023 ≡ j = omega (arith, l, m) in
        subst (λ (i : ℕ). get_or (set blank 1023 (count - 1)) i 0 ≤ i) last (omega (arith, on_top, few));
    rising = λ i j l m o. absurd (omega (arith, l, m, o));
    without = λ j l m. nought (get_or (set blank 1023 (count - 1)) j 0);
    es = [];
    count_is = refl;
    entries_are = refl;
    distinct = λ i j e h k. absurd h;
    numbered = λ c t h g. absurd (g (nought c));
    trees = root ∷ [];
    stacked = subst (λ (cs : List ℕ). AllCells cells cs (root ∷ [])) (sym alone) (is, tt);
    rest = refl;
  }
    where
      long : length blank ≡ 1024
      long = length-replicate {A = ℕ} 1024 0

      nought : (c : ℕ) → get_or blank c 0 ≡ 0
      nought c = go (ltb c 1024) refl
        where
          go : (t : Bool) → ltb c 1024 ≡ t → get_or blank c 0 ≡ 0
          go true e = get_or-replicate {A = ℕ} 1024 c 0 0 (ltb-true c 1024 e)
          go false e = get_or-eq_default blank 0 {n = c} (omega (arith, ltb-false c 1024 e, long))

      on_top : get_or (set blank 1023 (count - 1)) 1023 0 ≡ count - 1
      on_top = get_or-set_same blank 1023 (count - 1) 0 (omega (arith, long))

      alone : drop 1023 (set blank 1023 (count - 1)) ≡ (count - 1) ∷ []
      alone =
          drop_put blank 1023 (count - 1) (omega (arith, long))
          ∙ ap (λ (l : List ℕ). (count - 1) ∷ l) (drop_of_length-le blank {i = 1024} (omega (arith, long)))

  module _ {numbers stack entries : List ℕ} {at n : ℕ} (g : Going cells lent root numbers stack entries at n) where
    pub entries_long : length entries ≡ 1020
    unfolding onto
    entries_long =
        ap length g.entries_are
        ∙ length_front lent (entry_bytes g.es) (length (entry_bytes g.es))
        (sym (length-take (length (entry_bytes g.es)) lent ∙ min-eq_left (omega (arith, bytes_four g.es, g.count_is, g.few, lent_long))))
        ∙ lent_long

    -- all is completed
    pub going_end : 1024 ≤ at → (n ≡ length (entries_of root)) × (entries ≡ onto (entry_bytes (entries_of root)) lent)
    going_end l = go g.trees (subst (λ (cs : List ℕ). AllCells cells cs g.trees) (drop_of_length-le stack {i = at} (omega (arith, l, g.stack_long))) g.stacked) g.rest
      where
        go : (ts : List Tree) → AllCells cells [] ts → complete_all ts g.es ≡ entries_of root
            → (n ≡ length (entries_of root)) × (entries ≡ onto (entry_bytes (entries_of root)) lent)
        go [] h e = (g.count_is ∙ ap length e, g.entries_are ∙ ap (λ (es : List Entry). onto (entry_bytes es) lent) e)
        go (t ∷ ts) h e = absurd h

    module _ (l : at < 1024) where
      abbrev cell : ℕ
      cell = get_or stack at 0

      pub head : Top cells stack g.trees at
      head = top_of cells stack g.trees at (omega (arith, l, g.stack_long)) g.stacked

      pub cell_below : cell < 1024
      cell_below = omega (arith, l, g.low at (omega arith) l)

      pub cell_is : CellIs cells cell head.top
      cell_is = head.is

      -- the cell on top is completed next
      completed_next : complete_all head.others (complete head.top g.es).entries ≡ entries_of root
      completed_next = subst (λ (ts : List Tree). complete_all ts g.es ≡ entries_of root) head.split g.rest

      open_at : (o : Open) → fields_of cells numbers cell ≡ Err o → OpenAt cells numbers g.es cell head.top o.0
      open_at o e = go head.top head.is
        where
          go : (t : Tree) → CellIs cells cell t → OpenAt cells numbers g.es cell t o.0
          go (tree k a b d) is = fields_open cells numbers g.es g.distinct g.small g.numbered k a b d cell is o e

      module _ (first : Open) (e : fields_of cells numbers cell ≡ Err first) where
        abbrev p : ℕ
        p = first.0

        abbrev pushed : List ℕ
        pushed = set stack (at - 1) p

        own : p < at
        own = omega (arith, (open_at first e).before, g.low at (omega arith) l)

        at_top : get_or pushed (at - 1) 0 ≡ p
        at_top = get_or-set_same stack (at - 1) p 0 (omega (arith, l, g.stack_long))

        elsewhere : (j : ℕ) → at ≤ j → get_or pushed j 0 ≡ get_or stack j 0
        elsewhere j m = get_or-set_other stack (at - 1) j p 0 (λ q. omega (arith, m, q, own))

        -- by whether a place of the stack is the new one
        at_place : (P : ℕ → ℕ → Type 0) (j : ℕ) → at - 1 ≤ j → P (at - 1) p → (at ≤ j → P j (get_or stack j 0)) → P j (get_or pushed j 0)
        at_place P j m new old = go (eqb j (at - 1)) refl
          where
            go : (t : Bool) → eqb j (at - 1) ≡ t → P j (get_or pushed j 0)
            go true q =
                let same = eqb-true j (at - 1) q in
                subst (λ (i : ℕ). P i (get_or pushed i 0)) (sym same) (subst (λ (v : ℕ). P (at - 1) v) (sym at_top) new)
            go false q =
                let on : at ≤ j = omega (arith, m, eqb-false j (at - 1) q) in
                subst (λ (v : ℕ). P j v) (sym (elsewhere j on)) (old on)

        under : (j : ℕ) → at ≤ j → j < 1024 → p < get_or stack j 0
        under j m o = go (eqb j at) refl
          where
            go : (t : Bool) → eqb j at ≡ t → p < get_or stack j 0
            go true q = omega (arith, (open_at first e).before, ap (λ (i : ℕ). get_or stack i 0) (eqb-true j at q))
            go false q =
                omega (arith, (open_at first e).before, g.rising at j (omega arith) (omega (arith, m, eqb-false j at q)) o)

        pub going_open : (1 ≤ at) × Going cells lent root numbers pushed entries (at - 1) n
        going_open = (
          omega (arith, own),
          record {
            few = g.few;
            numbers_long = g.numbers_long;
            stack_long = length-set stack (at - 1) p ∙ g.stack_long;
            place = omega (arith, l);
            small = g.small;
            low = λ j m o. at_place (λ i v. v ≤ i) j m (omega (arith, own)) (λ q. g.low j q o);
            rising = λ i j m o r.
                subst (λ (v : ℕ). get_or pushed i 0 < v) (sym (elsewhere j (omega (arith, m, o, own))))
                (at_place (λ k v. v < get_or stack j 0) i m (under j (omega (arith, m, o, own)) r) (λ q. g.rising i j q o r));
            without = λ j m o. at_place (λ i v. get_or numbers v 0 ≡ 0) j m (open_at first e).without (λ q. g.without j q o);
            es = g.es;
            count_is = g.count_is;
            entries_are = g.entries_are;
            distinct = g.distinct;
            numbered = g.numbered;
            trees = (open_at first e).part ∷ g.trees;
            stacked = subst (λ (cs : List ℕ). AllCells cells cs ((open_at first e).part ∷ g.trees)) (sym over) ((open_at first e).cell, g.stacked);
            rest =
                subst (λ (ts : List Tree). complete_all ts (complete (open_at first e).part g.es).entries ≡ entries_of root) (sym head.split)
                (ap (λ (c : Completed). complete_all head.others c.entries) (open_at first e).same ∙ completed_next);
          },
        )
          where
            over : drop (at - 1) pushed ≡ p ∷ drop at stack
            over =
                drop_put stack (at - 1) p (omega (arith, l, g.stack_long))
                ∙ ap (λ (k : ℕ). p ∷ drop k stack) next
              where
                next : suc (at - 1) ≡ at
                next = omega (arith, own)

      -- ---- a cell is placed
      module _ (fields : List ℕ) (e : fields_of cells numbers cell ≡ Ok fields) where
        abbrev x : ℕ
        x = get_or fields 0 0

        abbrev y : ℕ
        y = get_or fields 1 0

        abbrev z : ℕ
        z = get_or fields 2 0

        abbrev new : Entry
        new = entry_of (get_or cells (4 * cell) 0) x y z

        abbrev four : List ℕ
        four = get_or cells (4 * cell) 0 ∷ x ∷ y ∷ z ∷ []

        -- what the search in the bytes found
        abbrev found : Found
        found = find_from (entries_from n 0 entries) new 0

        abbrev number : ℕ
        number = number_found found n

        held : entries_from n 0 entries ≡ g.es
        held = ap (λ (m : ℕ). entries_from m 0 entries) g.count_is ∙ ap (entries_from (length g.es) 0) g.entries_are ∙ entries_held g.es lent

        -- the completion of the cell, by it
        abbrev done : Completed
        done = complete head.top g.es

        done_is : done ≡ placed found new g.es
        done_is = go head.top head.is ∙ ap (λ (es : List Entry). placed (find_from es new 0) new g.es) (sym held)
          where
            go : (t : Tree) → CellIs cells cell t → complete t g.es ≡ place new g.es
            go (tree k a b d) is =
                fields_numbered cells numbers g.es g.distinct g.small g.numbered k a b d cell is fields e
                ∙ ap (λ (k : ℕ). place (entry_of k x y z) g.es) (sym is.1.0)

        below : Below n found
        below = among entries new n

        number_is : number ≡ done.at
        number_is = go found ∙ sym (ap (λ (c : Completed). c.at) done_is)
          where
            go : (f : Found) → number_found f n ≡ (placed f new g.es).at
            go (Found.at i) = refl
            go Found.nowhere = g.count_is

        number_few : number ≤ n
        number_few = go found below
          where
            go : (f : Found) → Below n f → number_found f n ≤ n
            go (Found.at i) l = omega (arith, l)
            go Found.nowhere l = omega arith

        -- the entries grow by it, or not
        module _ (room : number ≡ 255 → ⊥) where
          stored : stored_if found n four entries ≡ onto (entry_bytes done.entries) lent
          stored = go found room ∙ sym (ap (λ (c : Completed). onto (entry_bytes c.entries) lent) done_is)
            where
              go : (f : Found) → (number_found f n ≡ 255 → ⊥) → stored_if f n four entries ≡ onto (entry_bytes (placed f new g.es).entries) lent
              go (Found.at i) r = g.entries_are
              go Found.nowhere r =
                  let fits : n < 255 = omega (arith, g.few, r) in
                  rw (lt-ltb n 255 fits)
                  (ap (λ (bs : List ℕ). put_from bs (4 * n) 0 four) g.entries_are
                  ∙ ap (λ (m : ℕ). put_from (onto (entry_bytes g.es) lent) (4 * m) 0 four) g.count_is
                  ∙ entry_stored g.es new lent (omega (arith, fits, g.count_is, lent_long)))

          counted : count_after n number ≡ length done.entries
          counted = go found below ∙ sym (ap (λ (c : Completed). length c.entries) done_is)
            where
              go : (f : Found) → Below n f → count_after n (number_found f n) ≡ length (placed f new g.es).entries
              go (Found.at i) l = rw (ne_eqb i n (λ q. omega (arith, l, q))) g.count_is
              go Found.nowhere l = rw (eq-eqb n n refl) (omega (arith, g.count_is, length-append g.es (new ∷ [])))

          abbrev told : List ℕ
          told = set numbers cell (number + 1)

          told_here : get_or told cell 0 ≡ number + 1
          told_here = get_or-set_same numbers cell (number + 1) 0 (omega (arith, cell_below, g.numbers_long))

          -- by whether a cell is the one that was placed
          at_cell : (P : ℕ → Type 0) (c : ℕ) → (c ≡ cell → P (number + 1)) → ((c ≡ cell → ⊥) → P (get_or numbers c 0)) → P (get_or told c 0)
          at_cell P c this other = go (eqb c cell) refl
            where
              go : (t : Bool) → eqb c cell ≡ t → P (get_or told c 0)
              go true q =
                  let same = eqb-true c cell q in
                  subst P (sym (ap (λ (d : ℕ). get_or told d 0) same ∙ told_here)) (this same)
              go false q =
                  let differs = eqb-false c cell q in
                  subst P (sym (get_or-set_other numbers cell c (number + 1) 0 differs)) (other differs)

          few_then : count_after n number ≤ 255
          few_then = go (eqb number n) refl
            where
              go : (t : Bool) → eqb number n ≡ t → pick t (n + 1) n ≤ 255
              go true q = omega (arith, eqb-true number n q, g.few, room)
              go false q = g.few

          -- a cell with a number stands, the placed one too
          stands : (c : ℕ) (t : Tree) → CellIs cells c t → (get_or told c 0 ≡ 0 → ⊥) → Stands done.entries t (get_or told c 0 - 1)
          stands c t is =
              at_cell (λ v. (v ≡ 0 → ⊥) → Stands done.entries t (v - 1)) c
              (λ same _.
              let tree_is = cell_once t head.top cells cell (subst (λ (d : ℕ). CellIs cells d t) same is) head.is in
              subst (λ (u : Tree). Stands done.entries u (number + 1 - 1)) (sym tree_is)
              (subst (λ (m : ℕ). Stands done.entries head.top m) shown (completes head.top g.es).0))
              (λ _ some. still (entry t) g.es done.entries (get_or numbers c 0 - 1) (completes head.top g.es).1 (g.numbered c t is some))
            where
              shown : done.at ≡ number + 1 - 1
              shown = sym number_is ∙ omega arith

          pub going_placed : Going cells lent root told stack (stored_if found n four entries) (at + 1) (count_after n number)
          going_placed = record {
            few = few_then;
            numbers_long = length-set numbers cell (number + 1) ∙ g.numbers_long;
            stack_long = g.stack_long;
            place = omega (arith, l);
            small = λ c. at_cell (λ v. v ≤ 255) c (λ _. omega (arith, number_few, g.few, room)) (λ _. g.small c);
            low = λ j m o. g.low j (omega (arith, m)) o;
            rising = λ i j m o r. g.rising i j (omega (arith, m)) o r;
            without = λ j m o.
                at_cell (λ v. v ≡ 0) (get_or stack j 0) (λ same. absurd (omega (arith, same, g.rising at j (omega arith) (omega (arith, m)) o)))
                (λ _. g.without j (omega (arith, m)) o);
            es = done.entries;
            count_is = counted;
            entries_are = stored;
            distinct = complete_distinct head.top g.es g.distinct;
            numbered = stands;
            trees = head.others;
            stacked = subst (λ (k : ℕ). AllCells cells (drop k stack) head.others) next head.below;
            rest = completed_next;
          }
            where
              next : suc at ≡ at + 1
              next = omega arith

          -- and one cell less has no number
          pub fewer : zeros told + 1 ≡ zeros numbers
          fewer = zeros_set numbers cell number (omega (arith, cell_below, g.numbers_long)) (g.without at (omega arith) l)

        -- the 256th is not
        pub going_full : number ≡ 255
            → (255 < length (entries_of root)) × (stored_if found n four entries ≡ onto (entry_bytes (take 255 (entries_of root))) lent)
        going_full full = go found below full (done_is)
          where
            more : (es : List Entry) → done.entries ≡ es → Grown es (entries_of root)
            more es q =
                subst (λ (fs : List Entry). Grown es fs) (sym (ap (complete_all head.others) q) ∙ completed_next) (all_grown head.others es)

            go : (f : Found) → Below n f → number_found f n ≡ 255 → done ≡ placed f new g.es
                → (255 < length (entries_of root)) × (stored_if f n four entries ≡ onto (entry_bytes (take 255 (entries_of root))) lent)
            go (Found.at i) l q d = absurd (omega (arith, l, q, g.few))
            go Found.nowhere l q d =
                let grown = more (g.es ++ (new ∷ [])) (ap (λ (c : Completed). c.entries) d) in
                let all : entries_of root ≡ g.es ++ ((new ∷ []) ++ grown.new) = grown.is ∙ append_assoc g.es (new ∷ []) grown.new in
                let long : length g.es ≡ 255 = sym g.count_is ∙ q in
                let front : take 255 (entries_of root) ≡ g.es
                = ap (take 255) all ∙ ap (λ (m : ℕ). take m (g.es ++ ((new ∷ []) ++ grown.new))) (sym long) ∙ take-append_seam g.es ((new ∷ []) ++ grown.new) in (
                  omega (arith, ap length all, length-append g.es ((new ∷ []) ++ grown.new), long),
                  rw (le-ltb n 255 (omega (arith, q))) (g.entries_are ∙ ap (λ (es : List Entry). onto (entry_bytes es) lent) (sym front)),
                )

        -- the same of what the code has: the kind, the number, the bytes and how many entries there are then
        module _ (kind : ℕ) (r : Result ℕ TooMany) (bs : List ℕ) (k : kind ≡ get_or cells (4 * cell) 0)
            (numbers_it : r ≡ within_room (number_found (find_from (entries_from n 0 entries) (entry_of kind x y z) 0) n))
            (stores_it : bs ≡ stored_if (find_from (entries_from n 0 entries) (entry_of kind x y z) 0) n (kind ∷ x ∷ y ∷ z ∷ []) entries) where
          number_told : r ≡ within_room number
          number_told = subst (λ (m : ℕ). r ≡ within_room (number_found (find_from (entries_from n 0 entries) (entry_of m x y z) 0) n)) k numbers_it

          bytes_told : bs ≡ stored_if found n four entries
          bytes_told = subst (λ (m : ℕ). bs ≡ stored_if (find_from (entries_from n 0 entries) (entry_of m x y z) 0) n (m ∷ x ∷ y ∷ z ∷ []) entries) k stores_it

          pub full_step : (u : TooMany) → r ≡ Err u → (255 < length (entries_of root)) × (bs ≡ onto (entry_bytes (take 255 (entries_of root))) lent)
          full_step u full = let h = going_full (no_room number u (sym number_told ∙ full)) in (h.0, bytes_told ∙ h.1)

          pub few_step : (m : ℕ) → r ≡ Ok m → m ≤ 254
          few_step m some =
              let h = some_room number m (sym number_told ∙ some) in omega (arith, h.0, h.1, number_few, g.few)

          pub placed_step : (m n' : ℕ) → r ≡ Ok m → n' ≡ count_after n m
              → Going cells lent root (set numbers cell (m + 1)) stack bs (at + 1) n' × (zeros (set numbers cell (m + 1)) + 1 ≡ zeros numbers)
          placed_step m n' some c =
              let h = some_room number m (sym number_told ∙ some) in (
                subst (λ (l : ℕ). Going cells lent root (set numbers cell (m + 1)) stack bs (at + 1) l) (sym (c ∙ ap (count_after n) (sym h.0)))
                    (subst (λ (l : ℕ). Going cells lent root (set numbers cell (l + 1)) stack bs (at + 1) (count_after n number)) h.0
                    (subst (λ (l : List ℕ). Going cells lent root (set numbers cell (number + 1)) stack l (at + 1) (count_after n number)) (sym bytes_told) (going_placed h.1))),
                subst (λ (l : ℕ). zeros (set numbers cell (l + 1)) + 1 ≡ zeros numbers) h.0 (fewer h.1),
              )
