-- Reading a pattern: 01's refusals 1 to 8, in its order, as an executable definition.
-- Assumes nothing.
use Rattle.std.specs.Prelude.{Bool, true, not, ◌||◌, List, ℕ, ◌+◌, ◌-◌, ◌*◌, length, get_or, leb, ltb, eqb, Result, Ok, Err}
use Rattle.wire.specs.Choice.{pick}
use Rattle.wire.specs.Fields.{text, begins_with, word_at}
use Rattle.pattern.specs.declared.table.Sort.{Sort}
use Rattle.pattern.specs.declared.table.Field.{Field}
use Rattle.pattern.specs.declared.finding.PatternRefusal.{PatternRefusal}
use Rattle.pattern.specs.File.Types.{max_name, max_property, max_axis, max_channel}
use Rattle.pattern.specs.Checks.Finding.{Finding, found, refused, Check, refuses_if, ◌then◌, unless}
use Rattle.pattern.specs.Checks.Range.{some_below, each_below}
use Rattle.pattern.specs.File.Table.{end_of_path, sort_of, is_neither, is_node, is_path}
use Rattle.pattern.specs.File.Fields.{each_field}
use Rattle.pattern.specs.File.Entries.{max_entries, entry_at, same_bytes}

-- the mark `PAT`
abbrev pub mark : List ℕ
mark = text "PAT"

-- the number of entries, "one byte n"
abbrev pub count_of : List ℕ → ℕ
count_of bs = get_or bs 5 0

-- "1: under 6 bytes or wrong mark."
abbrev pub mark_check : List ℕ → Check
mark_check bs = refuses_if (ltb (length bs) 6 || not (begins_with mark bs)) 1 0

-- "2: version."
abbrev pub version_check : List ℕ → Check
version_check bs = refuses_if (not (eqb (word_at bs 3) 1)) 2 0

-- "3: n zero or length not 6 + 4n." n is one byte, which a list of numbers does not say by itself
abbrev pub count_check : List ℕ → Check
count_check bs = refuses_if (eqb (count_of bs) 0 || (ltb max_entries (count_of bs) || not (eqb (length bs) (6 + 4 * count_of bs)))) 3 0

unfoldable pub header_check : List ℕ → Check
header_check bs = mark_check bs then version_check bs then count_check bs

-- a field within the range of what it holds; an unused one is zero. A reference has no range of its own: it is check 6's
abbrev pub in_range : Field → ℕ → Bool
in_range Field.Unused v = eqb v 0
in_range Field.Property v = leb v max_property
in_range Field.Name v = leb v max_name
in_range Field.Axis v = leb v max_axis
in_range Field.Channel v = leb v max_channel
in_range Field.Node v = true
in_range Field.Path v = true

abbrev pub sort_at : List ℕ → ℕ → Sort
sort_at bs k = sort_of (entry_at bs k).kind

-- the sort of an entry before k; there is none at or after k
abbrev pub earlier_sort : List ℕ → ℕ → ℕ → Sort
earlier_sort bs k v = pick (ltb v k) (sort_at bs v) Sort.Neither

-- a field of entry k, if it is a reference, is "an earlier entry of the wanted sort (path end excepted)"
abbrev pub refers_back : List ℕ → ℕ → Field → ℕ → Bool
refers_back bs k Field.Unused v = true
refers_back bs k Field.Property v = true
refers_back bs k Field.Name v = true
refers_back bs k Field.Axis v = true
refers_back bs k Field.Channel v = true
refers_back bs k Field.Node v = is_node (earlier_sort bs k v)
refers_back bs k Field.Path v = eqb v end_of_path || is_path (earlier_sort bs k v)

-- "equal to an earlier entry"
abbrev pub repeats_at : List ℕ → ℕ → Bool
repeats_at bs k = some_below k (λ j. same_bytes bs j k)

-- "Then entry by entry, place the entry number: 4, kind;"
abbrev pub kind_check : List ℕ → ℕ → Check
kind_check bs k = refuses_if (is_neither (sort_at bs k)) 4 k

-- "5, a field out of range or an unused one not zero;"
abbrev pub field_check : List ℕ → ℕ → Check
field_check bs k = refuses_if (not (each_field in_range (entry_at bs k))) 5 k

-- "6, a reference that isn't an earlier entry of the wanted sort (path end excepted);"
abbrev pub reference_check : List ℕ → ℕ → Check
reference_check bs k = refuses_if (not (each_field (refers_back bs k) (entry_at bs k))) 6 k

-- "7, equal to an earlier entry."
abbrev pub repeat_check : List ℕ → ℕ → Check
repeat_check bs k = refuses_if (repeats_at bs k) 7 k

unfoldable pub entry_check : List ℕ → ℕ → Check
entry_check bs k = kind_check bs k then field_check bs k then reference_check bs k then repeat_check bs k

-- "8, place n − 1: the root is a path."
unfoldable pub root_check : List ℕ → Check
root_check bs = refuses_if (is_path (sort_at bs (count_of bs - 1))) 8 (count_of bs - 1)

-- refusals 1 to 8, which every judgement begins with
unfoldable pub pattern_check : List ℕ → Check
pattern_check bs = header_check bs then each_below (count_of bs) (entry_check bs) then root_check bs

-- "Reading a pattern gives n."
unfoldable pub reading_of : List ℕ → Finding ℕ
reading_of bs = unless (pattern_check bs) (count_of bs)

-- 01's number and place of each refusal of reading
abbrev pub refusal_of : PatternRefusal → ℕ × ℕ
refusal_of PatternRefusal.Mark = (1, 0)
refusal_of PatternRefusal.Version = (2, 0)
refusal_of PatternRefusal.Count = (3, 0)
refusal_of (PatternRefusal.Kind k) = (4, k)
refusal_of (PatternRefusal.Field k) = (5, k)
refusal_of (PatternRefusal.Reference k) = (6, k)
refusal_of (PatternRefusal.Repeat k) = (7, k)
refusal_of (PatternRefusal.RootPath k) = (8, k)

abbrev pub refusal_number : PatternRefusal → ℕ
refusal_number refusal = (refusal_of refusal).0

abbrev pub refusal_place : PatternRefusal → ℕ
refusal_place refusal = (refusal_of refusal).1

-- the finding of reading
abbrev pub finding_of : Result ℕ PatternRefusal → Finding ℕ
finding_of (Ok n) = found n
finding_of (Err refusal) = refused (refusal_number refusal) (refusal_place refusal)
