-- The working area of judging a model: a set for each node entry of the pattern.
-- Assumes nothing.
use Rattle.std.specs.Prelude.{◌≡◌, Bool, true, false, List, ℕ, ◌+◌, ◌≤◌, ◌<◌, length}
use Rattle.std.proofs.Math.Path.{refl}
use Rattle.std.proofs.Common.{sym, ◌∙◌, ap, ap₂, arith}
use Rattle.std.specs.Int.{from_bool}
use Rattle.wire.specs.Choice.{pick}
use Rattle.nodeset.specs.Below.{count_below, count_le, count_next, count_more, counts_differ}
use Rattle.nodeset.specs.Stored.{table_bytes}
use Rattle.pattern.specs.declared.table.Sort.{Sort}
use Rattle.pattern.specs.File.Table.{is_node}
use Rattle.pattern.specs.File.Reading.{count_of, sort_at}

-- entry k is a node entry, of whatever kind
abbrev pub is_node_at : List ℕ → ℕ → Bool
is_node_at bs k = is_node (sort_at bs k)

-- how many the pattern has. 02, Job 5: "each node entry of the pattern": whether the root reaches it or not, and no path
abbrev pub node_entries : List ℕ → ℕ
node_entries bs = count_below (count_of bs) (is_node_at bs)

-- ---- laws

-- the bytes of all sets
abbrev pub area_bytes : List ℕ → ℕ
area_bytes bs = table_bytes (node_entries bs)

-- where the set of node entry k stands while a model is judged: behind those of the node entries before it
abbrev pub place_of : List ℕ → ℕ → ℕ
place_of bs k = count_below k (is_node_at bs)

counted : (b : Bool) → from_bool b ≡ pick b 1 0
counted true = refl
counted false = refl

module _ (bs : List ℕ) where
  pub place_first : place_of bs 0 ≡ 0
  unfolding count_below
  place_first = refl

  -- counted entry by entry
  pub place_next : (k place one : ℕ) → place ≡ place_of bs k → one ≡ from_bool (is_node_at bs k) → place + one ≡ place_of bs (k + 1)
  place_next k place one a b = ap₂ (λ (x y : ℕ). x + y) a (b ∙ counted (is_node_at bs k)) ∙ sym (count_next k (is_node_at bs))

  -- each set has room in an area that is long enough
  pub set_room : (area : List ℕ) → area_bytes bs ≤ length area → (k : ℕ) → k < count_of bs → sort_at bs k ≡ Sort.Node
      → table_bytes (place_of bs k + 1) ≤ length area
  set_room area long k l node = omega (arith, long, count_more (is_node_at bs) k (count_of bs) l (ap is_node node))

  -- and its own place
  pub places_differ : (j k : ℕ) → sort_at bs j ≡ Sort.Node → sort_at bs k ≡ Sort.Node → (j ≡ k → ⊥) → place_of bs j ≡ place_of bs k → ⊥
  places_differ j k a b = counts_differ (is_node_at bs) j k (ap is_node a) (ap is_node b)

  pub nodes_few : (k : ℕ) → place_of bs k ≤ k
  nodes_few k = count_le k (is_node_at bs)
