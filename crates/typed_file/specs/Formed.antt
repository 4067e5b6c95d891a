-- Trees whose fields are what 01's table says. The tree of a text whose numbers are in their ranges is one, and its entry is a node.
-- Assumes nothing.
use Rattle.std.specs.Prelude.{◌≡◌, refl, List, [], ◌∷◌, ℕ, ◌+◌, ◌≤◌, ltb}
use Rattle.std.proofs.Common.{ltb-false}
use Rattle.pattern.specs.declared.table.Sort.{Sort}
use Rattle.pattern.specs.declared.table.Field.{Field}
use Rattle.pattern.specs.Checks.Finding.{passes, refuses_if, then_passes, refuses_if_passes}
use Rattle.pattern.specs.File.Table.{end_of_path, kind_of, sort_of, form_of}
use Rattle.pattern.specs.File.Fields.{OfReference}
use Rattle.pattern.specs.File.Valid.{Within}
use Rattle.typed_text.specs.Text.{NodeText, RowText}
use Rattle.typed_text.specs.Tokens.{Token, node_tokens, row_tokens, tokens_of, limit_of, range_check}
use Rattle.typed_file.specs.Trees.{Tree, tree, Part, number, entry, unused, node_tree, row_tree}

-- the field refers to an entry of a sort of which P holds
abbrev pub Refers : Field → (Sort → Type 0) → Type 0
Refers Field.Unused P = ⊥
Refers Field.Property P = ⊥
Refers Field.Name P = ⊥
Refers Field.Axis P = ⊥
Refers Field.Channel P = ⊥
Refers Field.Node P = P Sort.Node
Refers Field.Path P = P Sort.Path

abbrev mutual
  -- an entry of this sort with fields by the table
  pub Formed : Sort → Tree → Type 0
  Formed s (tree k a b c) =
      (sort_of (kind_of k) ≡ s) × PartOk (form_of (kind_of k)).x a × PartOk (form_of (kind_of k)).y b × PartOk (form_of (kind_of k)).z c

  -- a part that the field can hold: a number in its range, the end of path for a path, or an entry of the sort that it refers to
  pub PartOk : Field → Part → Type 0
  PartOk F (number n) = Within F n × OfReference (λ v. ⊥) (λ v. v ≡ end_of_path) F n
  PartOk F (entry t) = Refers F (λ s. Formed s t)

-- "Fields not listed are zero."
zero : PartOk Field.Unused unused
zero = (refl, tt)

end : PartOk Field.Path (number end_of_path)
end = (tt, refl)

-- each number is in its range
abbrev pub InRange : List Token → Type 0
InRange [] = Unit {0}
InRange (t ∷ ts) = (t.value ≤ limit_of t.letter) × InRange ts

pub within_ranges : (ts : List Token) → range_check ts ≡ passes → InRange ts
within_ranges [] h = tt
within_ranges (t ∷ ts) h =
    let a = then_passes (refuses_if (ltb (limit_of t.letter) t.value) 31 (t.place + 1)) (range_check ts) h in
    (ltb-false (limit_of t.letter) t.value (refuses_if_passes _ 31 (t.place + 1) a.0), within_ranges ts a.1)

mutual
  node_formed : (t : NodeText) (i : ℕ) (ys : List Token) → InRange (node_tokens t i ys) → Formed Sort.Node (node_tree t) × InRange ys
  node_formed (NodeText.property k) i ys h = ((refl, (h.0, tt), zero, zero), h.1)
  node_formed (NodeText.name k) i ys h = ((refl, (h.0, tt), zero, zero), h.1)
  node_formed (NodeText.not t) i ys h = let a = node_formed t _ ys h.1 in ((refl, a.0, zero, zero), a.1)
  node_formed (NodeText.both t u) i ys h =
      let a = node_formed t _ _ h.1 in
      let b = node_formed u _ _ a.1.1 in
      ((refl, a.0, b.0, zero), b.1.1)
  node_formed (NodeText.either t u) i ys h =
      let a = node_formed t _ _ h.1 in
      let b = node_formed u _ _ a.1.1 in
      ((refl, a.0, b.0, zero), b.1.1)
  node_formed (NodeText.after k t) i ys h = let a = node_formed t _ ys h.1.1 in ((refl, (h.0, tt), a.0, zero), a.1)
  node_formed (NodeText.same r k q) i ys h =
      let a = row_formed r _ _ h.1 in
      let b = row_formed q _ _ a.1.1 in
      ((refl, (a.1.0, tt), a.0 _ end, b.0 _ end), b.1.1)
  node_formed (NodeText.differ r k q) i ys h =
      let a = row_formed r _ _ h.1 in
      let b = row_formed q _ _ a.1.1 in
      ((refl, (a.1.0, tt), a.0 _ end, b.0 _ end), b.1.1)

  -- a row, whatever path follows it
  row_formed : (r : RowText) (i : ℕ) (ys : List Token) → InRange (row_tokens r i ys)
      → ((rest : Part) → PartOk Field.Path rest → PartOk Field.Path (row_tree r rest)) × InRange ys
  row_formed RowText.end i ys h = (λ rest ok. ok, h)
  row_formed (RowText.step k r) i ys h = let a = row_formed r _ ys h.1 in (λ rest ok. (refl, (h.0, tt), a.0 rest ok, zero), a.1)
  row_formed (RowText.jump k r) i ys h = let a = row_formed r _ ys h.1 in (λ rest ok. (refl, (h.0, tt), a.0 rest ok, zero), a.1)
  row_formed (RowText.test t r) i ys h =
      let a = node_formed t _ _ h.1 in
      let b = row_formed r _ ys a.1 in
      (λ rest ok. (refl, a.0, b.0 rest ok, zero), b.1)
  row_formed (RowText.brace a b r) i ys h =
      let p = row_formed a _ _ h.1 in
      let q = row_formed b _ _ p.1.1 in
      let s = row_formed r _ ys q.1.1 in
      (λ rest ok. let behind = s.0 rest ok in (refl, p.0 (row_tree r rest) behind, q.0 (row_tree r rest) behind, zero), s.1)

pub formed : (t : NodeText) → range_check (tokens_of t) ≡ passes → Formed Sort.Node (node_tree t)
formed t h = (node_formed t 0 [] (within_ranges (tokens_of t) h)).0
