-- The layout of a model file: its header, and where each field of its records stands.
-- Assumes nothing.
use Rattle.std.specs.Prelude.{◌≡◌, List, ℕ, ◌+◌, ◌*◌, ◌<◌, get_or}
use Rattle.wire.specs.Fields.{text, word_at, word_bytes, word32_at}
use Rattle.wire.specs.Blocks.{put_from}

-- 01: "Mark `DAT`"
abbrev pub mark : List ℕ
mark = text "DAT"

-- 01: "node count n (one byte, 1 to 64)"
abbrev pub node_count : List ℕ → ℕ
node_count ds = get_or ds 5 0

abbrev pub max_nodes : ℕ
max_nodes = 64

-- 01: "name count m (one byte, up to 128)"
abbrev pub name_count : List ℕ → ℕ
name_count ds = get_or ds 6 0

abbrev pub max_names : ℕ
max_names = 128

-- 01: "16-bit edge count k (up to 4096)"
abbrev pub edge_count : List ℕ → ℕ
edge_count ds = word_at ds 7

-- the file with k as that count
abbrev pub with_edge_count : List ℕ → ℕ → List ℕ
with_edge_count ds k = put_from ds 7 0 (word_bytes k)

abbrev pub max_edges : ℕ
max_edges = 4096

-- "Then n records of 12 bytes (32-bit little-endian property set, bit p for property p; four 16-bit values, channels 0 to 3 in
-- order), m of 2 (name, node), k of 3 (from, axis, to).":
-- where the record of node u begins, behind the header
abbrev pub node_record : ℕ → ℕ
node_record u = 9 + 12 * u

-- where name record j begins, behind the nodes'
abbrev pub name_record : List ℕ → ℕ → ℕ
name_record ds j = node_record (node_count ds) + 2 * j

-- where edge record i begins, behind the names'
abbrev pub edge_record : List ℕ → ℕ → ℕ
edge_record ds i = name_record ds (name_count ds) + 3 * i

-- the length that the counts ask for: nothing stands behind the edges'
abbrev pub length_of : List ℕ → ℕ
length_of ds = edge_record ds (edge_count ds)

-- "32-bit little-endian property set" of node u
abbrev pub property_set : List ℕ → ℕ → ℕ
property_set ds u = word32_at ds (node_record u)

-- "four 16-bit values, channels 0 to 3 in order": the value of node u on channel e
abbrev pub value_on : List ℕ → ℕ → ℕ → ℕ
value_on ds e u = word_at ds (node_record u + 4 + 2 * e)

-- "(name, node)": of name record j
abbrev pub name_of : List ℕ → ℕ → ℕ
name_of ds j = get_or ds (name_record ds j) 0

abbrev pub node_of_record : List ℕ → ℕ → ℕ
node_of_record ds j = get_or ds (name_record ds j + 1) 0

-- "(from, axis, to)": of edge record i
abbrev pub from_of : List ℕ → ℕ → ℕ
from_of ds i = get_or ds (edge_record ds i) 0

abbrev pub axis_of : List ℕ → ℕ → ℕ
axis_of ds i = get_or ds (edge_record ds i + 1) 0

abbrev pub to_of : List ℕ → ℕ → ℕ
to_of ds i = get_or ds (edge_record ds i + 2) 0

-- 02, Job 4: "nodes and names copied as they are": the same bytes stand before the edge records of two files, but for the count of the edges
abbrev pub SameFront : List ℕ → List ℕ → Type 0
SameFront ds es = (k : ℕ) → k < edge_record ds 0 → (k ≡ 7 → ⊥) → (k ≡ 8 → ⊥) → get_or ds k 0 ≡ get_or es k 0
