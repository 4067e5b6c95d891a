-- The set of the names of the name records, as it is made record by record.
-- Assumes nothing.
use Rattle.std.specs.Prelude.{◌≡◌, Bool, ◌||◌, List, ℕ, ◌+◌, ◌≤◌, eqb}
use Rattle.std.proofs.Common.{sym, ◌∙◌}
use Rattle.std.proofs.Math.Path.{ap}
use Rattle.pattern.specs.File.Types.{max_name}
use Rattle.pattern.specs.Checks.Range.{some_below, some_next}
use Rattle.names.specs.declared.NameSet.{NameSet}
use Rattle.names.specs.Set.{SetOf, has, no_name, insert, has_none, has_insert}
use Rattle.model_records.specs.Layout.{name_of}
use Rattle.model_records.specs.Contents.{record_lists, is_listed_below}

-- ---- laws

module _ (ds : List ℕ) where
  pub listed_none : (s : NameSet) → s ≡ no_name → SetOf (is_listed_below ds 0) s
  unfolding some_below
  listed_none s e i = ap (λ (t : NameSet). has t i) e ∙ has_none i

  -- the next record: its name is in the set
  pub listed_more : (j name : ℕ) (s t : NameSet) → name ≡ name_of ds j → name_of ds j ≤ max_name → t ≡ insert s name
      → SetOf (is_listed_below ds j) s → SetOf (is_listed_below ds (j + 1)) t
  listed_more j name s t read within grown before i =
      ap (λ (r : NameSet). has r i) (grown ∙ ap (insert s) read)
      ∙ has_insert s (name_of ds j) i within
      ∙ ap (λ (b : Bool). b || eqb (name_of ds j) i) (before i)
      ∙ sym (some_next (record_lists ds i) j)
