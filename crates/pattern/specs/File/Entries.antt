-- The entries of a pattern file, from its bytes.
-- Assumes nothing.
use Rattle.std.specs.Prelude.{Bool, ◌&&◌, List, ℕ, ◌+◌, ◌*◌, ◌≤◌, length, get_or, eqb}
use Rattle.pattern.specs.declared.entry.Entry.{Entry}
use Rattle.pattern.specs.File.Table.{kind_of}

-- "one byte n (1 to 255)"
abbrev pub max_entries : ℕ
max_entries = 255

-- "then n entries of four bytes: kind, x, y, z", after the first six bytes: where entry k begins
abbrev pub offset : ℕ → ℕ
offset k = 6 + 4 * k

-- entry k: its kind and its fields
abbrev pub entry_at : List ℕ → ℕ → Entry
entry_at bs k =
    record {
      kind = kind_of (get_or bs (offset k) 0);
      x = get_or bs (offset k + 1) 0;
      y = get_or bs (offset k + 2) 0;
      z = get_or bs (offset k + 3) 0;
    }

-- entries j and k have the same four bytes
unfoldable pub same_bytes : List ℕ → ℕ → ℕ → Bool
same_bytes bs j k =
    eqb (get_or bs (offset j) 0) (get_or bs (offset k) 0) && eqb (get_or bs (offset j + 1) 0) (get_or bs (offset k + 1) 0)
    && eqb (get_or bs (offset j + 2) 0) (get_or bs (offset k + 2) 0) && eqb (get_or bs (offset j + 3) 0) (get_or bs (offset k + 3) 0)

-- ---- laws

-- the file is long enough for entry k
abbrev pub HasEntry : List ℕ → ℕ → Type 0
HasEntry bs k = 10 + 4 * k ≤ length bs
