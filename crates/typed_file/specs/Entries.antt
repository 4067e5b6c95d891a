-- The file: "each entry stands after its parts, which are completed in the order of its fields x, y, z; each different entry stands once, at
-- its first completion; the root is last".
-- Assumes nothing.
use Rattle.std.specs.Prelude.{Bool, true, false, ◌&&◌, List, [], ◌∷◌, ◌++◌, ℕ, suc, eqb, length}
use Rattle.wire.specs.Fields.{word_bytes}
use Rattle.pattern.specs.File.Reading.{mark}
use Rattle.typed_file.specs.Trees.{Tree, tree, Part, number, entry}

-- "four bytes: kind, x, y, z"
pub record Entry : Type 0 where
  pub kind : ℕ
  pub x : ℕ
  pub y : ℕ
  pub z : ℕ

abbrev pub same_entry : Entry → Entry → Bool
same_entry e f = eqb e.kind f.kind && (eqb e.x f.x && (eqb e.y f.y && eqb e.z f.z))

-- where an entry stands among others, the first of them counted as k
pub data Found : Type 0 where
  at : ℕ → Found
  nowhere : Found

abbrev pub found_or : Bool → ℕ → Found → Found
found_or true k f = at k
found_or false k f = f

abbrev pub find_from : List Entry → Entry → ℕ → Found
find_from [] e k = nowhere
find_from (f ∷ fs) e k = found_or (same_entry f e) k (find_from fs e (suc k))

-- what was completed: its number, and the entries that stand then
pub record Completed : Type 0 where
  pub at : ℕ
  pub entries : List Entry

-- "each different entry stands once, at its first completion"
abbrev pub placed : Found → Entry → List Entry → Completed
placed (at i) e es = record { at = i; entries = es }
placed nowhere e es = record { at = length es; entries = es ++ (e ∷ []) }

abbrev pub place : Entry → List Entry → Completed
place e es = placed (find_from es e 0) e es

-- "its parts, which are completed in the order of its fields x, y, z", and then the entry itself; a number is what it is
abbrev mutual
  pub complete : Tree → List Entry → Completed
  complete (tree k a b c) es =
      let p = complete_part a es in
      let q = complete_part b p.entries in
      let r = complete_part c q.entries in
      place (record { kind = k; x = p.at; y = q.at; z = r.at }) r.entries

  pub complete_part : Part → List Entry → Completed
  complete_part (number n) es = record { at = n; entries = es }
  complete_part (entry t) es = complete t es

abbrev pub entries_of : Tree → List Entry
entries_of t = (complete t []).entries

abbrev pub entry_bytes : List Entry → List ℕ
entry_bytes [] = []
entry_bytes (e ∷ es) = e.kind ∷ e.x ∷ e.y ∷ e.z ∷ entry_bytes es

-- "Mark `PAT`, 16-bit version 1, one byte n", then the entries
abbrev pub file_of : List Entry → List ℕ
file_of es = mark ++ word_bytes 1 ++ (length es ∷ entry_bytes es)
