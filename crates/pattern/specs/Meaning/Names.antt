-- Which names a pattern uses, and that they are in range.
-- Assumes nothing.
use Rattle.std.specs.Prelude.{◌≡◌, Bool, true, ◌&&◌, ◌||◌, ◌⊎◌, List, ℕ, ◌≤◌, ◌<◌, eqb}
use Rattle.std.proofs.Common.{subst, eqb-true}
use Rattle.std.proofs.lemmas.Bool.{false≢true}
use Rattle.pattern.specs.declared.table.Kind.{Kind}
use Rattle.pattern.specs.File.Types.{max_name}
use Rattle.pattern.specs.Checks.Tests.{and_is_true}
use Rattle.pattern.specs.Checks.Range.{some_below, some_found}
use Rattle.pattern.specs.File.Entries.{entry_at}
use Rattle.pattern.specs.File.Reading.{count_of}
use Rattle.pattern.specs.File.Table.{end_of_path, same_kind, form_of}
use Rattle.pattern.specs.File.Valid.{Valid, Within, within_at}

-- an entry of this kind has a name: it is "of kind 2 or 9"
abbrev pub bears_name : Kind → Bool
bears_name κ = same_kind κ Kind.Name || same_kind κ Kind.Jump

-- an entry of this kind with x for its first field has the name i
abbrev pub has_name : Kind → ℕ → ℕ → Bool
has_name κ x i = bears_name κ && eqb x i

-- entry k has the name
abbrev pub entry_uses : List ℕ → ℕ → ℕ → Bool
entry_uses bs i k = has_name (entry_at bs k).kind (entry_at bs k).x i

-- "A name is used in the pattern if an entry of kind 2 or 9 has it, whether the root reaches that entry or not."
unfoldable pub uses_name : List ℕ → ℕ → Bool
uses_name bs i = some_below (count_of bs) (entry_uses bs i)

-- ---- laws

-- a reference of a pattern of n entries: the end of path, or an entry
abbrev pub Reference : ℕ → ℕ → Type 0
Reference n v = (v ≡ end_of_path) ⊎ (v < n)

-- a field that is a name is in range where the entry's fields are
name_within : (κ : Kind) {x : ℕ} → Within (form_of κ).x x → bears_name κ ≡ true → x ≤ max_name
name_within Kind.Property w h = absurd (false≢true h)
name_within Kind.Name w h = w
name_within Kind.Not w h = absurd (false≢true h)
name_within Kind.Both w h = absurd (false≢true h)
name_within Kind.After w h = absurd (false≢true h)
name_within Kind.Same w h = absurd (false≢true h)
name_within Kind.Differ w h = absurd (false≢true h)
name_within Kind.Step w h = absurd (false≢true h)
name_within Kind.Jump w h = w
name_within Kind.Test w h = absurd (false≢true h)
name_within Kind.Fork w h = absurd (false≢true h)
name_within Kind.Either w h = absurd (false≢true h)
name_within Kind.Unknown w h = absurd (false≢true h)

-- the name of an entry that has one is in range
pub name_at : {bs : List ℕ} {n : ℕ} → Valid bs n → (k : ℕ) → k < n → bears_name (entry_at bs k).kind ≡ true → (entry_at bs k).x ≤ max_name
name_at {bs} ok k l = name_within (entry_at bs k).kind (within_at ok k l).0

module _ {bs : List ℕ} {n : ℕ} (ok : Valid bs n) (i : ℕ) where
  -- a name that is used is in range
  pub used_in_range : uses_name bs i ≡ true → i ≤ max_name
  unfolding uses_name
  used_in_range h =
      let r = some_found (entry_uses bs i) (count_of bs) h in
      let e = entry_at bs r.0 in
      let b = and_is_true (bears_name e.kind) (eqb e.x i) r.2 in
      rw (eqb-true e.x i b.1) at (name_at ok r.0 (subst (λ (m : ℕ). r.0 < m) ok.count_is r.1) b.0)
