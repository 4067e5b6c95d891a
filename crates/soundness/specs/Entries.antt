-- The entries that formed lines speak of: what they refer to, and what they mean in a model, by their kind.
-- Assumes nothing.
use Rattle.std.specs.Prelude.{◌≡◌, ◌↔◌, List, ℕ, ◌<◌}
use Rattle.std.proofs.Common.{subst, inl, inr, lt_trans}
use Rattle.pattern.specs.declared.table.Kind.{Kind}
use Rattle.pattern.specs.declared.table.Sort.{Sort}
use Rattle.pattern.specs.Logic.Semantics.{Model, Naming}
use Rattle.pattern.specs.File.Table.{end_of_path, form_of}
use Rattle.pattern.specs.File.Entries.{entry_at}
use Rattle.pattern.specs.File.Fields.{OfReferences, map_references}
use Rattle.pattern.specs.File.Reading.{sort_at}
use Rattle.pattern.specs.File.Valid.{Valid, Within, EarlierPath, within_at, refers_at}
use Rattle.pattern.specs.Meaning.Clauses.{NodeMeans, PathMeans}
use Rattle.pattern.specs.Meaning.Agreement.{HoldsAt, LeadsAt}
use Rattle.pattern.proofs.Meaning.Agreement.{published}
use Rattle.lines.specs.Formed.{IsNode, IsPath}

-- what entry k refers to, read by the table's row for a kind: node entries and paths of the pattern
abbrev pub References : List ℕ → ℕ → ℕ → Kind → Type 0
References bs n k κ =
    OfReferences (IsNode bs n) (IsPath bs n) (record { kind = κ; x = (entry_at bs k).x; y = (entry_at bs k).y; z = (entry_at bs k).z })

module _ {bs : List ℕ} {n : ℕ} (ok : Valid bs n) where
  -- an entry of a valid pattern refers to its node entries and paths
  pub references_of : (k : ℕ) → k < n → (κ : Kind) → (entry_at bs k).kind ≡ κ → References bs n k κ
  references_of k l κ of_kind =
      subst (References bs n k) of_kind (map_references (λ v g. (lt_trans g.0 l, g.1)) path (entry_at bs k) (refers_at ok k l))
    where
      path : (v : ℕ) → EarlierPath bs k v → IsPath bs n v
      path v (inl e) = inl e
      path v (inr g) = inr (lt_trans g.0 l, g.1)

  -- the first field is in the range of what it holds
  pub first_within : (k : ℕ) → k < n → (κ : Kind) → (entry_at bs k).kind ≡ κ → Within (form_of κ).x (entry_at bs k).x
  first_within k l κ of_kind = subst (λ (κ' : Kind). Within (form_of κ').x (entry_at bs k).x) of_kind (within_at ok k l).0

  -- a path that isn't at its end has an entry
  pub on_path : (v : ℕ) → IsPath bs n v → (v ≡ end_of_path → ⊥) → (v < n) × (sort_at bs v ≡ Sort.Path)
  on_path v (inl e) on = absurd (on e)
  on_path v (inr h) on = h

-- 01's clause of each kind for entry k
module _ (bs : List ℕ) (M : Model) (nom : Naming M) (k : ℕ) where
  abbrev pub NodeSays : Kind → M.Node → Type 0
  NodeSays κ u = NodeMeans M nom (HoldsAt M nom bs) (LeadsAt M nom bs) κ (entry_at bs k).x (entry_at bs k).y (entry_at bs k).z u

  abbrev pub PathSays : Kind → M.Node → M.Node → Type 0
  PathSays κ u v = PathMeans M nom (HoldsAt M nom bs) (LeadsAt M nom bs) κ (entry_at bs k).x (entry_at bs k).y (entry_at bs k).z u v

module _ {bs : List ℕ} {n : ℕ} (ok : Valid bs n) (M : Model) (nom : Naming M) where
  -- a node entry holds, and a path leads, where the clause of its kind says
  pub node_says : (φ : ℕ) → IsNode bs n φ → (κ : Kind) → (entry_at bs φ).kind ≡ κ → (u : M.Node)
      → HoldsAt M nom bs φ u ↔ NodeSays bs M nom φ κ u
  node_says φ f κ of_kind u =
      subst (λ (κ' : Kind). HoldsAt M nom bs φ u ↔ NodeSays bs M nom φ κ' u) of_kind ((published M nom ok).nodes φ f.0 f.1 u)

  pub path_says : (α : ℕ) → (α < n) × (sort_at bs α ≡ Sort.Path) → (κ : Kind) → (entry_at bs α).kind ≡ κ → (u v : M.Node)
      → LeadsAt M nom bs α u v ↔ PathSays bs M nom α κ u v
  path_says α f κ of_kind u v =
      subst (λ (κ' : Kind). LeadsAt M nom bs α u v ↔ PathSays bs M nom α κ' u v) of_kind ((published M nom ok).paths α f.0 f.1 u v)
