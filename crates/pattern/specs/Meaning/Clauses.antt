-- 01's reading of an entry ("Meaning"), clause by clause, in its words, and 02's of either (Job 6). The promises are stated by source 000's
-- clauses (`Logic.Semantics`); that these say the same is `published`.
-- Assumes nothing.
use Rattle.std.specs.Prelude.{◌≡◌, ◌⊎◌, ◌↔◌, List, ℕ, ◌<◌}
use Rattle.pattern.specs.declared.table.Kind.{Kind}
use Rattle.pattern.specs.declared.table.Sort.{Sort}
use Rattle.pattern.specs.Logic.Semantics.{Model, Naming}
use Rattle.pattern.specs.File.Table.{end_of_path}
use Rattle.pattern.specs.File.Entries.{entry_at}
use Rattle.pattern.specs.File.Reading.{sort_at}

module _ (M : Model) (nom : Naming M) where
  -- What a node entry says of node u, given what the entries that it refers to mean: H for nodes, L for paths. A path entry is never asked.
  abbrev pub NodeMeans : (ℕ → M.Node → Type 0) → (ℕ → M.Node → M.Node → Type 0) → Kind → ℕ → ℕ → ℕ → M.Node → Type 0
  NodeMeans H L Kind.Property x y z u = M.label x u
  NodeMeans H L Kind.Name x y z u = nom x ≡ u
  NodeMeans H L Kind.Not x y z u = H x u → ⊥
  NodeMeans H L Kind.Both x y z u = H x u × H y u
  -- "After holds where some successor has φ."
  NodeMeans H L Kind.After x y z u = (v : M.Node) × (M.edge x u v × H y v)
  -- "Same (differ) holds at u if some end of α and some end of β from u have equal (unequal) values on the channel."
  NodeMeans H L Kind.Same x y z u = (v : M.Node) × ((w : M.Node) × (L y u v × L z u w × M.alike x v w))
  NodeMeans H L Kind.Differ x y z u = (v : M.Node) × ((w : M.Node) × (L y u v × L z u w × (M.alike x v w → ⊥)))
  NodeMeans H L Kind.Step x y z u = ⊥
  NodeMeans H L Kind.Jump x y z u = ⊥
  NodeMeans H L Kind.Test x y z u = ⊥
  NodeMeans H L Kind.Fork x y z u = ⊥
  -- 02: "it holds where at least one part holds"
  NodeMeans H L Kind.Either x y z u = H x u ⊎ H y u
  NodeMeans H L Kind.Unknown x y z u = ⊥

  -- "From node u", a path entry leads to node v. A node entry is never asked.
  abbrev pub PathMeans :
      (ℕ → M.Node → Type 0) → (ℕ → M.Node → M.Node → Type 0) → Kind → ℕ → ℕ → ℕ → M.Node → M.Node → Type 0
  PathMeans H L Kind.Property x y z u v = ⊥
  PathMeans H L Kind.Name x y z u v = ⊥
  PathMeans H L Kind.Not x y z u v = ⊥
  PathMeans H L Kind.Both x y z u v = ⊥
  PathMeans H L Kind.After x y z u v = ⊥
  PathMeans H L Kind.Same x y z u v = ⊥
  PathMeans H L Kind.Differ x y z u v = ⊥
  -- "step to wherever α leads from a successor on that axis"
  PathMeans H L Kind.Step x y z u v = (w : M.Node) × (M.edge x u w × L y w v)
  -- "jump to wherever α leads from the named node"
  PathMeans H L Kind.Jump x y z u v = L y (nom x) v
  -- "test to wherever α leads from u if φ holds at u"
  PathMeans H L Kind.Test x y z u v = H x u × L y u v
  -- "fork to the ends of either path"
  PathMeans H L Kind.Fork x y z u v = L x u v ⊎ L y u v
  PathMeans H L Kind.Either x y z u v = ⊥
  PathMeans H L Kind.Unknown x y z u v = ⊥

  -- "What a node entry means and where a path leads are defined by each other": H and L are the meanings of the entries of a pattern if
  -- they meet these equations.
  pub record Meaning (bs : List ℕ) (n : ℕ) (H : ℕ → M.Node → Type 0) (L : ℕ → M.Node → M.Node → Type 0) : Type 0 where
    -- "end leads to u"
    pub ends : (u v : M.Node) → L end_of_path u v ↔ (u ≡ v)
    pub nodes : (k : ℕ) → k < n → sort_at bs k ≡ Sort.Node → (u : M.Node)
        → H k u ↔ NodeMeans H L (entry_at bs k).kind (entry_at bs k).x (entry_at bs k).y (entry_at bs k).z u
    pub paths : (k : ℕ) → k < n → sort_at bs k ≡ Sort.Path → (u v : M.Node)
        → L k u v ↔ PathMeans H L (entry_at bs k).kind (entry_at bs k).x (entry_at bs k).y (entry_at bs k).z u v
