-- The table of a model that a file gives, as it is made for a pattern: the rows of the properties, those of the names, and the whole.
-- Assumes nothing.
use Rattle.std.specs.Prelude.{◌≡◌, Bool, true, false, List, ℕ, ◌≤◌, ◌<◌, length, eqb, ltb}
use Rattle.std.proofs.Math.Path.{refl, sym, subst}
use Rattle.std.proofs.Common.{◌∙◌, ap, arith}
use borrow.Author.Tests.{eqb-true, eqb-false, ltb-true, lt-ltb}
use Rattle.nodeset.specs.declared.NodeSet.{NodeSet}
use Rattle.nodeset.specs.Set.{has, below, has_below}
use Rattle.nodeset.specs.Members.{HasExactly}
use Rattle.nodeset.specs.Stored.{table_bytes, set_at, put, put_same, put_other}
use Rattle.pattern.specs.declared.table.Kind.{Kind}
use Rattle.pattern.specs.File.Types.{max_axis, max_property}
use Rattle.pattern.specs.File.Table.{same_kind, same_kind_law}
use Rattle.pattern.specs.File.Entries.{entry_at}
use Rattle.pattern.specs.File.Reading.{count_of}
use Rattle.pattern.specs.File.Valid.{Valid}
use Rattle.relations.specs.Tables.{successors_row, property_row, name_row, nodes_row, model_rows, Tabled}
use Rattle.relations.specs.Filled.{Filled, exactly_put}
use Rattle.model_records.specs.Layout.{node_count, name_count, edge_count, name_of, node_of_record}
use Rattle.model_records.specs.Contents.{leads_in, has_property, is_listed, model_from, NamesListed}
use Rattle.model_records.specs.Valid.{ValidModel, all_named, edge_in, listed, listed_found}
use Rattle.model_tables.specs.Entries.{Grown, MadeBelow, made_used, first_within, used_within}
use Rattle.model_tables.specs.Successors.{Linked}

-- 01, "bit p for property p": the nodes with property p
abbrev pub WithProperty : List ℕ → ℕ → ℕ → Type 0
WithProperty ds p u = (u < node_count ds) × (has_property ds p u ≡ true)

-- the row of property p has the nodes with it
abbrev pub PropertyMade : List ℕ → ℕ → List ℕ → Type 0
PropertyMade ds p ys = HasExactly (WithProperty ds p) (set_at ys (property_row p))

-- an entry of the kind has a property
abbrev pub is_property : Kind → Bool
is_property κ = same_kind κ Kind.Property

-- the rows of the successors, which stand before all others, stay
abbrev pub SuccessorsStay : List ℕ → List ℕ → Type 0
SuccessorsStay xs ys = (i : ℕ) → i < property_row 0 → set_at ys i ≡ set_at xs i

-- where the node of name record j is stored
abbrev pub listed_row : List ℕ → ℕ → ℕ
listed_row ds j = name_row (name_of ds j)

-- 01, "(name, node)": the row of each listed name gets the node of its record
abbrev pub NamesAtRecords : List ℕ → List ℕ → List ℕ → Type 0
NamesAtRecords ds xs ys = Filled (listed_row ds) (λ j u. u ≡ node_of_record ds j) (name_count ds) xs ys

-- ---- laws
-- the property of an entry that has one is in range
pub property_within : {bs : List ℕ} → Valid bs (count_of bs) → (k : ℕ) → k < count_of bs → is_property (entry_at bs k).kind ≡ true
    → (entry_at bs k).x ≤ max_property
property_within {bs} valid k l h = first_within valid k l Kind.Property (same_kind_law (entry_at bs k).kind Kind.Property h)

-- the row of a property is stored
pub property_grown : (ds : List ℕ) (wanted : Bool) (p : ℕ) (xs : List ℕ) (s : NodeSet) → p ≤ max_property → table_bytes model_rows ≤ length xs
    → HasExactly (WithProperty ds p) s → Grown (PropertyMade ds) wanted p xs (put xs (property_row p) s)
property_grown ds wanted p xs s b l h = record { made = λ w. own; kept = λ q m. go q m (eqb q p) refl }
  where
    own : PropertyMade ds p (put xs (property_row p) s)
    own = exactly_put (WithProperty ds p) xs (property_row p) s (omega (arith, b, l)) h

    go : (q : ℕ) → PropertyMade ds q xs → (t : Bool) → eqb q p ≡ t → PropertyMade ds q (put xs (property_row p) s)
    go q m true e = subst (λ (r : ℕ). PropertyMade ds r (put xs (property_row p) s)) (sym (eqb-true q p e)) own
    go q m false e =
        subst (HasExactly (WithProperty ds q)) (sym (put_other xs (property_row p) (property_row q) s (λ r. eqb-false q p e (omega (arith, r))))) m

pub successors_stay : (p : ℕ) (xs : List ℕ) (s : NodeSet) → SuccessorsStay xs (put xs (property_row p) s)
successors_stay p xs s i l = put_other xs (property_row p) i s (λ e. omega (arith, l, e))

module _ {ds : List ℕ} (ok : ValidModel ds) where
  -- records of different names have different rows
  pub listed_apart : (n : ℕ) → n < name_count ds → (j : ℕ) → j < n → listed_row ds j ≡ listed_row ds n → ⊥
  listed_apart n l j g e = (ok.names n l).different j g (omega (arith, e))

  -- the table is whole: the successors, the properties, the listed names, and all nodes
  pub tabled : (bs t₀ t₁ t₂ t₃ : List ℕ) → Valid bs (count_of bs) → NamesListed bs ds → Linked ds (edge_count ds) t₀ t₁
      → MadeBelow (PropertyMade ds) is_property bs (count_of bs) t₂ → SuccessorsStay t₁ t₂ → NamesAtRecords ds t₂ t₃
      → table_bytes model_rows ≤ length t₃ → Tabled (model_from ds) bs (put t₃ nodes_row (below (node_count ds)))
  unfolding leads_in
  tabled bs t₀ t₁ t₂ t₃ valid all_listed links props stay lists l =
      record {
        narrow = ok.header.narrow;
        successors = λ a u b w v. (λ h. let e = sym (leads a u b w v) ∙ h in ((edge_in ok a u v e).2, e), λ h. leads a u b w v ∙ h.1);
        properties = λ p used.
            subst (HasExactly (WithProperty ds p)) (sym (kept (property_row p) (omega (arith, used_within valid Kind.Property p used))))
            (made_used (PropertyMade ds) is_property bs t₂ props Kind.Property refl p used);
        names = λ i used u. let r = name i (all_listed i used) in
            (λ h. let e = (r u).0 h in (subst (λ (w : ℕ). w < node_count ds) (sym e) (all_named ok i), sym e), λ h. (r u).1 (sym h.1));
        nodes = λ u. (λ h. (ltb-true u (node_count ds) (sym (all u) ∙ h), tt), λ h. all u ∙ lt-ltb u (node_count ds) h.0);
      }
    where
      last : (i : ℕ) → i < nodes_row → set_at (put t₃ nodes_row (below (node_count ds))) i ≡ set_at t₃ i
      last i b = put_other t₃ nodes_row i (below (node_count ds)) (λ e. omega (arith, b, e))

      -- the rows before the names' are those that the properties left
      kept : (i : ℕ) → i < name_row 0 → set_at (put t₃ nodes_row (below (node_count ds))) i ≡ set_at t₂ i
      kept i b = last i (omega (arith, b)) ∙ lists.rest i (λ j g e. omega (arith, b, e))

      leads : (a u : ℕ) → a ≤ max_axis → u < node_count ds → (v : ℕ)
          → has (set_at (put t₃ nodes_row (below (node_count ds))) (successors_row a u)) v ≡ leads_in ds a u v
      leads a u b w v =
          let n = ok.header.narrow in
          ap (λ (s : NodeSet). has s v)
          (kept (successors_row a u) (omega (arith, b, w, n)) ∙ stay (successors_row a u) (omega (arith, b, w, n)))
          ∙ links.rows a u (omega (arith, w, n)) v

      -- the row of a listed name has the node of its record, which is the name's
      name : (i : ℕ) → is_listed ds i ≡ true → HasExactly (λ u. u ≡ (model_from ds).named i) (set_at (put t₃ nodes_row (below (node_count ds))) (name_row i))
      name i e =
          let r = listed_found ds i e in
          subst (λ (n : ℕ). HasExactly (λ u. u ≡ (model_from ds).named n) (set_at (put t₃ nodes_row (below (node_count ds))) (name_row n))) r.2
          (subst (λ (w : ℕ). HasExactly (λ u. u ≡ w) (set_at (put t₃ nodes_row (below (node_count ds))) (listed_row ds r.0))) (sym (listed ok r.0 r.1))
          (subst (HasExactly (λ u. u ≡ node_of_record ds r.0))
          (sym (last (listed_row ds r.0) (omega (arith, (ok.names r.0 r.1).name_within)))) (lists.rows r.0 r.1)))

      all : (u : ℕ) → has (set_at (put t₃ nodes_row (below (node_count ds))) nodes_row) u ≡ ltb u (node_count ds)
      all u = put_same t₃ nodes_row (below (node_count ds)) l u ∙ has_below (node_count ds) u ok.header.narrow
