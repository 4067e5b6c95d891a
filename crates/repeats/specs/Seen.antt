-- Slots of entries, and an array in which those of earlier entries are marked: refusal 7 asks it before it compares.
-- Assumes nothing.
use Rattle.std.specs.Prelude.{◌≡◌, List, ℕ, ◌*◌, ◌/◌, ◌%◌, ◌<◌, get_or}
use Rattle.wire.specs.Fields.{word32_at}
use Rattle.pattern.specs.File.Entries.{offset}

-- how many slots there are
abbrev pub slots : ℕ
slots = 2048

-- the slot of an entry whose four bytes are the number w. Any function of w would do: which one it is costs or saves time only
unfoldable pub slot_of : ℕ → ℕ
slot_of w = w * 2654435761 / 2097152 % slots

-- the slot of entry k
abbrev pub slot_at : List ℕ → ℕ → ℕ
slot_at bs k = slot_of (word32_at bs (offset k))

-- the slot of each entry below k is marked. A slot that is marked needlessly costs time, never an answer: so nothing is said of the others
abbrev pub Seen : List ℕ → ℕ → List ℕ → Type 0
Seen bs k seen = (j : ℕ) → j < k → get_or seen (slot_at bs j) 0 ≡ 1
