-- Parts of a table that are made entry by entry: the entries of some kinds ask for the part of their first field. A part is whatever is said of
-- the table for a number.
-- Assumes nothing.
use Rattle.std.specs.Prelude.{◌≡◌, Bool, true, false, List, ℕ, ◌+◌, ◌<◌}
use Rattle.std.proofs.Common.{sym, ◌∙◌, ap, subst, below_more}
use Rattle.std.proofs.lemmas.Bool.{false≢true}
use Rattle.pattern.specs.declared.table.Kind.{Kind}
use Rattle.pattern.specs.File.Table.{form_of}
use Rattle.pattern.specs.File.Entries.{entry_at}
use Rattle.pattern.specs.File.Reading.{count_of}
use Rattle.pattern.specs.File.Valid.{Valid, Within, within_at}
use Rattle.relations.specs.Tables.{Uses}

-- from one table to the next the part of x is made, if it is wanted, and the parts that were made stay so
pub record Grown (Part : ℕ → List ℕ → Type 0) (wanted : Bool) (x : ℕ) (xs ys : List ℕ) : Type 0 where
  pub made : wanted ≡ true → Part x ys
  pub kept : (q : ℕ) → Part q xs → Part q ys

-- the parts that the entries below k ask for are made
abbrev pub MadeBelow : (Part : ℕ → List ℕ → Type 0) (asks : Kind → Bool) → (bs : List ℕ) → ℕ → List ℕ → Type 0
MadeBelow Part asks bs k ys = (j : ℕ) → j < k → asks (entry_at bs j).kind ≡ true → Part (entry_at bs j).x ys

-- ---- laws
module _ (Part : ℕ → List ℕ → Type 0) where
  -- nothing is to be done where no part is wanted, or where it is made
  pub grown_past : (wanted : Bool) (x : ℕ) (xs : List ℕ) → wanted ≡ false → Grown Part wanted x xs xs
  grown_past wanted x xs e = record { made = λ h. absurd (false≢true (sym e ∙ h)); kept = λ q h. h }

  pub grown_already : (wanted : Bool) (x : ℕ) (xs : List ℕ) → Part x xs → Grown Part wanted x xs xs
  grown_already wanted x xs there = record { made = λ h. there; kept = λ q h. h }

  -- the next entry
  pub made_more : (asks : Kind → Bool) (bs : List ℕ) (k : ℕ) (xs ys : List ℕ) → Grown Part (asks (entry_at bs k).kind) (entry_at bs k).x xs ys
      → MadeBelow Part asks bs k xs → MadeBelow Part asks bs (k + 1) ys
  made_more asks bs k xs ys g before =
      below_more (λ j. asks (entry_at bs j).kind ≡ true → Part (entry_at bs j).x ys) k
      (λ j l t. g.kept (entry_at bs j).x (before j l t)) g.made

  -- what the pattern uses is made
  pub made_used : (asks : Kind → Bool) (bs ys : List ℕ) → MadeBelow Part asks bs (count_of bs) ys → (κ : Kind) → asks κ ≡ true → (x : ℕ)
      → Uses bs κ x → Part x ys
  made_used asks bs ys all κ asked x (k, (l, kind, first)) = subst (λ (y : ℕ). Part y ys) first (all k l (ap asks kind ∙ asked))

-- the first field of an entry of a valid pattern is in range, and so are the numbers that it uses
pub first_within : {bs : List ℕ} → Valid bs (count_of bs) → (k : ℕ) → k < count_of bs → (κ : Kind) → (entry_at bs k).kind ≡ κ
    → Within (form_of κ).x (entry_at bs k).x
first_within {bs} valid k l κ kind = subst (λ (t : Kind). Within (form_of t).x (entry_at bs k).x) kind (within_at valid k l).0

pub used_within : {bs : List ℕ} → Valid bs (count_of bs) → (κ : Kind) (x : ℕ) → Uses bs κ x → Within (form_of κ).x x
used_within {bs} valid κ x (k, (l, kind, first)) = subst (Within (form_of κ).x) first (first_within valid k l κ kind)
