-- The cells of a typed pattern, made from its tokens by a machine with a stack, the last token first: as an executable definition.
-- Assumes nothing.
use Rattle.std.specs.Prelude.{List, [], ◌∷◌, ◌++◌, ℕ, suc, ◌+◌, ◌*◌, ◌/◌, ◌%◌, Option, Some, None, eqb, get_or, drop, replicate}
use Rattle.wire.specs.Choice.{pick}
use Rattle.text_cells.specs.declared.letters.Made.{Made}
use Rattle.text_cells.specs.declared.letters.Marks.{Marks}
use Rattle.text_cells.specs.declared.letters.Marks.TheVariants.{Nothing, One, Two}

abbrev pub node : ℕ → ℕ → ℕ → ℕ → ℕ → Made
node takes kind x y z = record { takes = takes; tag = 1; kind = kind; x = x; y = y; z = z }

abbrev pub path : ℕ → ℕ → ℕ → ℕ → Made
path takes kind x y = record { takes = takes; tag = 0; kind = kind; x = x; y = y; z = 0 }

-- the cell of two parts, whose kind stands between them; none where no kind does
abbrev pub marked : Made → Option Made
marked m = pick (eqb m.kind 0) None (Some m)

-- the cell that a letter makes of its number and the three items on top of the stack, if it makes one
abbrev pub made_by : ℕ → ℕ → ℕ → ℕ → ℕ → Option Made
made_by letter value a b c =
    pick (eqb letter 112) (Some (node 0 1 value 0 0))
    (pick (eqb letter 110) (Some (node 0 2 value 0 0))
    (pick (eqb letter 33) (Some (node 1 3 (a / 2) 0 0))
    (pick (eqb letter 40) (marked (node 3 (b / 256) (a / 2) (c / 2) 0))
    (pick (eqb letter 60) (Some (node 1 5 value (a / 2) 0))
    (pick (eqb letter 91) (marked (node 3 (b / 256) (b % 256) (a / 2) (c / 2)))
    (pick (eqb letter 47) (Some (path 1 8 value (a / 2)))
    (pick (eqb letter 64) (Some (path 1 9 value (a / 2)))
    (pick (eqb letter 63) (Some (path 2 10 (a / 2) (b / 2)))
    (pick (eqb letter 123) (Some (path 3 11 (a / 2) (b / 2)))
    None)))))))))

abbrev pub bar_mark : ℕ → ℕ → ℕ
bar_mark a b = pick (eqb (a % 2) 0) b 3072

-- what a letter that makes no cell puts on the stack: the mark of a node's kind, or of a comparison's and its channel; the end of path where a
-- row ends; at the bar and the end of a brace what follows it, once more for the path that ends there
abbrev pub marks_by : ℕ → ℕ → ℕ → ℕ → Marks
marks_by letter value a b =
    pick (eqb letter 38) (One 1024)
    (pick (eqb letter 124) (One (bar_mark a b))
    (pick (eqb letter 125) (One a)
    (pick (eqb letter 93) (One 510)
    (pick (eqb letter 61) (Two (1536 + value) 510)
    (pick (eqb letter 35) (Two (1792 + value) 510) Nothing)))))

-- the cells, four numbers each, how many they are, and the items on the stack, the uppermost first
pub record State : Type 0 where
  pub count : ℕ
  pub cells : List ℕ
  pub items : List ℕ

-- the field that refers to cell c
abbrev pub part_field : ℕ → ℕ
part_field c = 256 + c

abbrev pub with_cell : Made → State → State
with_cell m s =
    record {
      count = suc s.count;
      cells = s.cells ++ (m.kind ∷ m.x ∷ m.y ∷ m.z ∷ []);
      items = (2 * part_field s.count + m.tag) ∷ drop m.takes s.items;
    }

-- the items with marks on them
abbrev pub put : Marks → List ℕ → List ℕ
put Nothing items = items
put (One mark) items = mark ∷ items
put (Two under upper) items = upper ∷ under ∷ items

abbrev pub with_marks : Marks → State → State
with_marks m s = record { count = s.count; cells = s.cells; items = put m s.items }

abbrev pub cell_or : Option Made → Marks → State → State
cell_or None marks s = with_marks marks s
cell_or (Some m) marks s = with_cell m s

abbrev pub taken : ℕ → ℕ → State → State
taken letter value s =
    let a = get_or s.items 0 0 in
    let b = get_or s.items 1 0 in
    cell_or (made_by letter value a b (get_or s.items 2 0)) (marks_by letter value a b) s

-- a token as one number, its letter by 256 and its value
unfoldable pub taken_word : ℕ → State → State
taken_word w s = taken (w / 256) (w % 256) s

unfoldable pub built_from : State → List ℕ → State
built_from s [] = s
built_from s (w ∷ ws) = taken_word w (built_from s ws)

-- the stack begins with items that no text asks for
unfoldable pub start : State
start = record { count = 0; cells = []; items = replicate 2051 0 }

-- the cells of tokens
unfoldable pub built_of : List ℕ → State
built_of ws = built_from start ws
