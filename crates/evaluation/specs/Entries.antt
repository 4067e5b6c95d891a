-- The fields of an entry of a valid pattern whose kind is known, and 01's clause for it.
-- Assumes nothing.
use Rattle.std.specs.Prelude.{◌≡◌, refl, true, ◌↔◌, List, ℕ, ◌+◌, ◌≤◌, ◌<◌}
use Rattle.std.proofs.Common.{◌∙◌, ap, subst, inl, inr, lt_of_lt_of_le, arith, eq-eqb}
use Rattle.nodeset.specs.Stored.{table_bytes}
use Rattle.pattern.specs.declared.table.Kind.{Kind}
use Rattle.pattern.specs.declared.table.Sort.{Sort}
use Rattle.pattern.specs.declared.entry.Entry.{Entry}
use Rattle.pattern.specs.File.Table.{end_of_path, sort_of}
use Rattle.pattern.specs.File.Fields.{OfFields, OfReferences}
use Rattle.pattern.specs.File.Entries.{entry_at}
use Rattle.pattern.specs.File.Valid.{Valid, Within, EarlierNode, EarlierPath, within_at, refers_at}
use Rattle.pattern.specs.Logic.Finite.{Finite, Named, NodeOf, model_of, naming_of}
use Rattle.pattern.specs.Checks.Range.{some_at}
use Rattle.pattern.specs.File.Reading.{count_of}
use Rattle.pattern.specs.Meaning.Names.{bears_name, entry_uses, uses_name}
use Rattle.pattern.specs.Meaning.Clauses.{NodeMeans, PathMeans}
use Rattle.pattern.proofs.Meaning.Agreement.{published}
use Rattle.relations.specs.Tables.{Uses}
use Rattle.evaluation.specs.Standing.{pending_bytes, Holding, Leading}

-- a reference of the pattern has its place among the pending sets
pub reference_fits : {bs : List ℕ} {n : ℕ} → Valid bs n → (r : ℕ) → EarlierPath bs n r → table_bytes (r + 1) ≤ pending_bytes
reference_fits valid r (inl e) = omega (arith, e)
reference_fits valid r (inr h) = omega (arith, h.0, valid.header.one_byte, valid.count_is)

-- a reference to an entry before k is one of the pattern
pub earlier_path : (bs : List ℕ) (k n r : ℕ) → k ≤ n → EarlierPath bs k r → EarlierPath bs n r
earlier_path bs k n r l (inl e) = inl e
earlier_path bs k n r l (inr h) = inr (lt_of_lt_of_le h.0 l, h.1)

-- "end leads to u"
pub end_leads : {bs : List ℕ} {n : ℕ} → Valid bs n → (F : Finite) (ok : Named F) (u v : NodeOf F) → Leading F ok bs end_of_path u v ↔ (u ≡ v)
end_leads valid F ok u v = (published (model_of F) (naming_of F ok) valid).ends u v

-- entry k with the kind written out
abbrev with_kind : List ℕ → ℕ → Kind → Entry
with_kind bs k κ = record { kind = κ; x = (entry_at bs k).x; y = (entry_at bs k).y; z = (entry_at bs k).z }

module _ {bs : List ℕ} {n : ℕ} (valid : Valid bs n) (k : ℕ) (l : k < n) (κ : Kind) (kind : (entry_at bs k).kind ≡ κ) where
  -- its references stand before it and are of the sort that the table says
  pub refers_as : OfReferences (EarlierNode bs k) (EarlierPath bs k) (with_kind bs k κ)
  refers_as =
      subst (λ (κ' : Kind). OfReferences (EarlierNode bs k) (EarlierPath bs k) (with_kind bs k κ')) kind (refers_at valid k l)

  -- its other fields are in range
  pub within_as : OfFields Within (with_kind bs k κ)
  within_as = subst (λ (κ' : Kind). OfFields Within (with_kind bs k κ')) kind (within_at valid k l)

  -- it is one that uses its first field so
  pub uses_first : Uses bs κ (entry_at bs k).x
  uses_first = (k, (omega (arith, l, valid.count_is), kind, refl))

  pub uses_its_name : bears_name κ ≡ true → uses_name bs (entry_at bs k).x ≡ true
  unfolding uses_name
  uses_its_name bears =
      some_at (entry_uses bs (entry_at bs k).x) (count_of bs) k (omega (arith, l, valid.count_is))
      (rw (kind, bears) (eq-eqb (entry_at bs k).x (entry_at bs k).x refl))

  module _ (F : Finite) (ok : Named F) where
    pub node_clause : sort_of κ ≡ Sort.Node → (u : NodeOf F)
        → Holding F ok bs k u
        ↔ NodeMeans (model_of F) (naming_of F ok) (Holding F ok bs) (Leading F ok bs) κ (entry_at bs k).x (entry_at bs k).y (entry_at bs k).z u
    node_clause node u =
        subst (λ (κ' : Kind).
        Holding F ok bs k u
        ↔ NodeMeans (model_of F) (naming_of F ok) (Holding F ok bs) (Leading F ok bs) κ' (entry_at bs k).x (entry_at bs k).y (entry_at bs k).z u) kind
        ((published (model_of F) (naming_of F ok) valid).nodes k l (ap sort_of kind ∙ node) u)

    pub path_clause : sort_of κ ≡ Sort.Path → (u v : NodeOf F)
        → Leading F ok bs k u v
        ↔ PathMeans (model_of F) (naming_of F ok) (Holding F ok bs) (Leading F ok bs) κ (entry_at bs k).x (entry_at bs k).y (entry_at bs k).z u v
    path_clause path u v =
        subst (λ (κ' : Kind).
        Leading F ok bs k u v
        ↔ PathMeans (model_of F) (naming_of F ok) (Holding F ok bs) (Leading F ok bs) κ' (entry_at bs k).x (entry_at bs k).y (entry_at bs k).z u v) kind
        ((published (model_of F) (naming_of F ok) valid).paths k l (ap sort_of kind ∙ path) u v)
