-- The rows of a path, from those of the paths that it goes on by: 01's clause of its kind gives the ends from each node.
-- Assumes nothing.
use Rattle.std.specs.Prelude.{Option, Some, None, ◌≡◌, refl, Bool, true, false, ◌⊎◌, ◌↔◌, List, ℕ, ◌+◌, ◌<◌}
use Rattle.std.specs.Coded.{le_prop}
use Rattle.std.proofs.Math.Logic.{∥∥₁_elim}
use Rattle.std.proofs.Common.{sym, ◌∙◌, ap, subst, inl, inr, le_of_lt, lt_trans}
use Rattle.std.proofs.lemmas.Bool.{false≢true}
use Rattle.std.proofs.Math.Logic.Iff
use Rattle.nodeset.specs.declared.NodeSet.{NodeSet}
use Rattle.nodeset.specs.Set.{has}
use Rattle.nodeset.specs.Stored.{set_at}
use Rattle.nodeset.specs.Members.{HasExactly}
use Rattle.pattern.specs.declared.table.Kind.{Kind}
use Rattle.pattern.specs.declared.entry.Entry.{Entry}
use Rattle.pattern.specs.declared.table.Sort.{Sort}
use Rattle.pattern.specs.File.Entries.{entry_at}
use Rattle.pattern.specs.File.Fields.{OfReferences, each_field}
use Rattle.pattern.specs.File.Reading.{count_of, sort_at}
use Rattle.pattern.specs.File.Valid.{Valid, EarlierPath}
use Rattle.pattern.specs.Logic.Finite.{NodeOf, node_same, naming_of}
use Rattle.relations.specs.declared.kinds.PathKind.{PathKind}
use Rattle.relations.specs.Kinds.{path_kind_of, IsPathKind, path_kind_is}
use Rattle.relations.specs.Tables.{IsSet, successors_row, name_row}
use Rattle.relations.specs.Filled.{Filled}
use Rattle.path_rows.specs.Paths.{RowBy, InRange, Bounded}
use Rattle.evaluation.specs.Standing.{Holding, Leading, Lent, Standing, Evaluates, Ends}
use Rattle.slots.specs.declared.marks.Marks.{Marks}
use Rattle.slots.specs.Marks.{PathOf, first_row, is_held, field_held, each_held}
use Rattle.evaluation.specs.Entries.{earlier_path, refers_as, within_as, uses_its_name, path_clause}
use Rattle.evaluation.specs.Nodes.{again}
use Rattle.evaluation.specs.Evaluated.{lent_valid}

-- a path entry goes on by y; a fork goes on by x too, and for the other kinds y stands again
abbrev pub other_path : Option PathKind → ℕ → ℕ → ℕ
other_path (Some PathKind.Fork) x y = x
other_path (Some PathKind.Step) x y = y
other_path (Some PathKind.Jump) x y = y
other_path (Some PathKind.Test) x y = y
other_path None x y = y

-- the set of the nodes at which the test of a path holds, if it has one
abbrev pub TestSet : (bs table alike : List ℕ) → ℕ → Option PathKind → ℕ → NodeSet → Type 0
TestSet bs table alike n (Some PathKind.Test) x s = Evaluates bs table alike n x s
TestSet bs table alike n (Some PathKind.Step) x s = Unit {0}
TestSet bs table alike n (Some PathKind.Jump) x s = Unit {0}
TestSet bs table alike n (Some PathKind.Fork) x s = Unit {0}
TestSet bs table alike n None x s = Unit {0}

-- the test of a path is a node entry, if it has one
abbrev pub TestNode : List ℕ → Option PathKind → ℕ → Type 0
TestNode bs (Some PathKind.Test) x = (x < count_of bs) × (sort_at bs x ≡ Sort.Node)
TestNode bs (Some PathKind.Step) x = Unit {0}
TestNode bs (Some PathKind.Jump) x = Unit {0}
TestNode bs (Some PathKind.Fork) x = Unit {0}
TestNode bs None x = Unit {0}

-- a slot that was filled with the rows of path entry k, if it could be; other rows stay
pub record SlotFilled (bs table alike : List ℕ) (n k slot : ℕ) (before after : List ℕ) (filled : Bool) : Type 0 where
  pub ends : filled ≡ true → (u : ℕ) → u < n → Ends bs table alike n k u (set_at after (first_row n slot + u))
  pub rest : (i : ℕ) → ((u : ℕ) → u < n → i ≡ first_row n slot + u → ⊥) → set_at after i ≡ set_at before i

-- entry k, a path, read as e, of this kind
pub record PathRead (bs table alike : List ℕ) (n k : ℕ) (e : Entry) (kind : Option PathKind) : Type 0 where
  pub lent : Lent bs table alike n
  pub within : k < count_of bs
  pub path : sort_at bs k ≡ Sort.Path
  pub same : e ≡ entry_at bs k
  pub by : kind ≡ path_kind_of e.kind

-- ---- laws
module _ {bs table alike : List ℕ} {n k : ℕ} {e : Entry} {kind : Option PathKind} (q : PathRead bs table alike n k e kind) where
  ok : Valid bs (count_of bs)
  ok = lent_valid q.lent

  kind_is : IsPathKind kind (entry_at bs k).kind
  kind_is = path_kind_is (entry_at bs k).kind kind (q.by ∙ ap (λ (e' : Entry). path_kind_of e'.kind) q.same)

  -- what the fields of a path are
  pub within_ranges : InRange kind e.x
  within_ranges = rw q.same (go kind kind_is)
    where
      go : (t : Option PathKind) → IsPathKind t (entry_at bs k).kind → InRange t (entry_at bs k).x
      go (Some PathKind.Step) is = (within_as ok k q.within Kind.Step is).0
      go (Some PathKind.Jump) is = (within_as ok k q.within Kind.Jump is).0
      go (Some PathKind.Test) is = tt
      go (Some PathKind.Fork) is = tt
      go None is = tt

  pub bounded : Bounded kind table n e.x
  bounded = rw q.same (go kind kind_is)
    where
      below : (w : Standing bs table alike n) (v : ℕ) → v < w.model.size → v < n
      below w v l = subst (λ (m : ℕ). v < m) w.size_is l

      go : (t : Option PathKind) → IsPathKind t (entry_at bs k).kind → Bounded t table n (entry_at bs k).x
      go (Some PathKind.Step) is = λ u v l h.
          ∥∥₁_elim q.lent.stands le_prop
          (λ w. below w v ((w.tabled.successors (entry_at bs k).x u (within_as ok k q.within Kind.Step is).0 (rw w.size_is l) v).0 h).0)
      go (Some PathKind.Jump) is = λ v h.
          ∥∥₁_elim q.lent.stands le_prop
          (λ w. below w v ((w.tabled.names (entry_at bs k).x (uses_its_name ok k q.within Kind.Jump is refl) v).0 h).0)
      go (Some PathKind.Test) is = tt
      go (Some PathKind.Fork) is = tt
      go None is = tt

  pub test_node : TestNode bs kind e.x
  test_node = rw q.same (go kind kind_is)
    where
      go : (t : Option PathKind) → IsPathKind t (entry_at bs k).kind → TestNode bs t (entry_at bs k).x
      go (Some PathKind.Step) is = tt
      go (Some PathKind.Jump) is = tt
      go (Some PathKind.Test) is = let r = (refers_as ok k q.within Kind.Test is).0 in (lt_trans r.0 q.within, r.1)
      go (Some PathKind.Fork) is = tt
      go None is = tt

  -- the paths that it goes on by are paths of the pattern
  pub goes_on_by : PathOf bs (other_path kind e.x e.y) × PathOf bs e.y
  goes_on_by = rw q.same (go kind kind_is)
    where
      early : (r : ℕ) → EarlierPath bs k r → PathOf bs r
      early r h = earlier_path bs k (count_of bs) r (le_of_lt q.within) h

      go : (t : Option PathKind) → IsPathKind t (entry_at bs k).kind → PathOf bs (other_path t (entry_at bs k).x (entry_at bs k).y) × PathOf bs (entry_at bs k).y
      go (Some PathKind.Step) is = let r = early (entry_at bs k).y (refers_as ok k q.within Kind.Step is).1 in (r, r)
      go (Some PathKind.Jump) is = let r = early (entry_at bs k).y (refers_as ok k q.within Kind.Jump is).1 in (r, r)
      go (Some PathKind.Test) is = let r = early (entry_at bs k).y (refers_as ok k q.within Kind.Test is).1 in (r, r)
      go (Some PathKind.Fork) is =
          let r = refers_as ok k q.within Kind.Fork is in (early (entry_at bs k).x r.0, early (entry_at bs k).y r.1)
      go None is = absurd (is q.path)

  -- and where all that it refers to have their rows, these have theirs
  pub goes_on_held : (marks : Marks) → each_field (field_held marks) (entry_at bs k) ≡ true
      → (is_held marks (other_path kind e.x e.y) ≡ true) × (is_held marks e.y ≡ true)
  goes_on_held marks h = rw q.same (go kind kind_is)
    where
      parts : (κ : Kind) → (entry_at bs k).kind ≡ κ
          → OfReferences (λ v. Unit {0}) (λ v. is_held marks v ≡ true) (record { kind = κ; x = (entry_at bs k).x; y = (entry_at bs k).y; z = (entry_at bs k).z })
      parts κ is =
          subst (λ (κ' : Kind). OfReferences (λ v. Unit {0}) (λ v. is_held marks v ≡ true) (record { kind = κ'; x = (entry_at bs k).x; y = (entry_at bs k).y; z = (entry_at bs k).z })) is
          (each_held marks (entry_at bs k) h)

      go : (t : Option PathKind) → IsPathKind t (entry_at bs k).kind
          → (is_held marks (other_path t (entry_at bs k).x (entry_at bs k).y) ≡ true) × (is_held marks (entry_at bs k).y ≡ true)
      go (Some PathKind.Step) is = let r = parts Kind.Step is in (r.1, r.1)
      go (Some PathKind.Jump) is = let r = parts Kind.Jump is in (r.1, r.1)
      go (Some PathKind.Test) is = let r = parts Kind.Test is in (r.1, r.1)
      go (Some PathKind.Fork) is = let r = parts Kind.Fork is in (r.0, r.1)
      go None is = absurd (is q.path)

  -- the set of a row by the clause is the set of ends
  module _ (rows : List ℕ) (held : NodeSet) (first second : ℕ)
      (α : (u : ℕ) → u < n → Ends bs table alike n (other_path kind e.x e.y) u (set_at rows (first + u)))
      (β : (u : ℕ) → u < n → Ends bs table alike n e.y u (set_at rows (second + u))) (test : TestSet bs table alike n kind e.x held) where
    row_ends : (u : ℕ) → u < n → (s : NodeSet) → HasExactly (RowBy kind table rows e.x held first second u) s → Ends bs table alike n k u s
    row_ends u l s row w m v =
        Iff.trans (row v)
        (subst (λ (e' : Entry). RowBy kind table rows e'.x held first second u v ↔ ((b : v < w.model.size) × Leading w.model w.named bs k (u, m) (v, b))) (sym q.same)
        (go kind kind_is (subst (λ (e' : Entry). (u : ℕ) → u < n → Ends bs table alike n (other_path kind e'.x e'.y) u (set_at rows (first + u))) q.same α)
        (subst (λ (e' : Entry). (u : ℕ) → u < n → Ends bs table alike n e'.y u (set_at rows (second + u))) q.same β)
        (subst (λ (e' : Entry). TestSet bs table alike n kind e'.x held) q.same test)))
      where
        -- the row of a node that has the rest's ends from it
        rest : ((u' : ℕ) → u' < n → Ends bs table alike n (entry_at bs k).y u' (set_at rows (second + u'))) → (u' : NodeOf w.model)
            → (has (set_at rows (second + u'.0)) v ≡ true) ↔ ((b : v < w.model.size) × Leading w.model w.named bs (entry_at bs k).y u' (v, b))
        rest β' u' = β' u'.0 (subst (λ (c : ℕ). u'.0 < c) w.size_is u'.1) w u'.1 v

        go : (t : Option PathKind) → IsPathKind t (entry_at bs k).kind
            → ((u' : ℕ) → u' < n → Ends bs table alike n (other_path t (entry_at bs k).x (entry_at bs k).y) u' (set_at rows (first + u')))
            → ((u' : ℕ) → u' < n → Ends bs table alike n (entry_at bs k).y u' (set_at rows (second + u'))) → TestSet bs table alike n t (entry_at bs k).x held
            → RowBy t table rows (entry_at bs k).x held first second u v ↔ ((b : v < w.model.size) × Leading w.model w.named bs k (u, m) (v, b))
        go (Some PathKind.Step) is α' β' t' = (there, back)
          where
            row_of : IsSet w.model (λ z. w.model.edge (entry_at bs k).x u z.0 ≡ true) (set_at table (successors_row (entry_at bs k).x u))
            row_of = w.tabled.successors (entry_at bs k).x u (within_as ok k q.within Kind.Step is).0 m

            there : RowBy (Some PathKind.Step) table rows (entry_at bs k).x held first second u v → (b : v < w.model.size) × Leading w.model w.named bs k (u, m) (v, b)
            there (z, (edge, h)) =
                let a = (row_of z).0 edge in
                let r = (rest β' (z, a.0)).0 h in
                (r.0, (path_clause ok k q.within Kind.Step is w.model w.named refl (u, m) (v, r.0)).1 ((z, a.0), (a.1, r.1)))

            back : (b : v < w.model.size) × Leading w.model w.named bs k (u, m) (v, b) → RowBy (Some PathKind.Step) table rows (entry_at bs k).x held first second u v
            back (b, lead) =
                let c = (path_clause ok k q.within Kind.Step is w.model w.named refl (u, m) (v, b)).0 lead in
                (c.0.0, ((row_of c.0.0).1 (c.0.1, c.1.0), (rest β' c.0).1 (b, c.1.1)))
        go (Some PathKind.Jump) is α' β' t' = (there, back)
          where
            row_of : IsSet w.model (λ z. w.model.named (entry_at bs k).x ≡ z.0) (set_at table (name_row (entry_at bs k).x))
            row_of = w.tabled.names (entry_at bs k).x (uses_its_name ok k q.within Kind.Jump is refl)

            there : RowBy (Some PathKind.Jump) table rows (entry_at bs k).x held first second u v → (b : v < w.model.size) × Leading w.model w.named bs k (u, m) (v, b)
            there (z, (at, h)) =
                let a = (row_of z).0 at in
                let r = (rest β' (z, a.0)).0 h in
                let here : naming_of w.model w.named (entry_at bs k).x ≡ (z, a.0) = node_same w.model a.1 in
                (r.0, (path_clause ok k q.within Kind.Jump is w.model w.named refl (u, m) (v, r.0)).1 (subst (λ (p : NodeOf w.model). Leading w.model w.named bs (entry_at bs k).y p (v, r.0)) (sym here) r.1))

            back : (b : v < w.model.size) × Leading w.model w.named bs k (u, m) (v, b) → RowBy (Some PathKind.Jump) table rows (entry_at bs k).x held first second u v
            back (b, lead) =
                let c = (path_clause ok k q.within Kind.Jump is w.model w.named refl (u, m) (v, b)).0 lead in
                let z = naming_of w.model w.named (entry_at bs k).x in
                (z.0, ((row_of z.0).1 (z.1, refl), (rest β' z).1 (b, c)))
        go (Some PathKind.Test) is α' β' t' = (there, back)
          where
            there : RowBy (Some PathKind.Test) table rows (entry_at bs k).x held first second u v → (b : v < w.model.size) × Leading w.model w.named bs k (u, m) (v, b)
            there (at, h) =
                let r = (rest β' (u, m)).0 h in
                let a = (t' w u).0 at in
                (r.0, (path_clause ok k q.within Kind.Test is w.model w.named refl (u, m) (v, r.0)).1 (again w.model (Holding w.model w.named bs (entry_at bs k).x) u a.0 m a.1, r.1))

            back : (b : v < w.model.size) × Leading w.model w.named bs k (u, m) (v, b) → RowBy (Some PathKind.Test) table rows (entry_at bs k).x held first second u v
            back (b, lead) =
                let c = (path_clause ok k q.within Kind.Test is w.model w.named refl (u, m) (v, b)).0 lead in
                ((t' w u).1 (m, c.0), (rest β' (u, m)).1 (b, c.1))
        go (Some PathKind.Fork) is α' β' t' = (there, back)
          where
            left : (has (set_at rows (first + u)) v ≡ true) ↔ ((b : v < w.model.size) × Leading w.model w.named bs (entry_at bs k).x (u, m) (v, b))
            left = α' u (subst (λ (c : ℕ). u < c) w.size_is m) w m v

            there : RowBy (Some PathKind.Fork) table rows (entry_at bs k).x held first second u v → (b : v < w.model.size) × Leading w.model w.named bs k (u, m) (v, b)
            there (inl h) =
                let r = left.0 h in
                (r.0, (path_clause ok k q.within Kind.Fork is w.model w.named refl (u, m) (v, r.0)).1 (inl r.1))
            there (inr h) =
                let r = (rest β' (u, m)).0 h in
                (r.0, (path_clause ok k q.within Kind.Fork is w.model w.named refl (u, m) (v, r.0)).1 (inr r.1))

            back : (b : v < w.model.size) × Leading w.model w.named bs k (u, m) (v, b) → RowBy (Some PathKind.Fork) table rows (entry_at bs k).x held first second u v
            back (b, lead) = which ((path_clause ok k q.within Kind.Fork is w.model w.named refl (u, m) (v, b)).0 lead)
              where
                which : Leading w.model w.named bs (entry_at bs k).x (u, m) (v, b) ⊎ Leading w.model w.named bs (entry_at bs k).y (u, m) (v, b)
                    → RowBy (Some PathKind.Fork) table rows (entry_at bs k).x held first second u v
                which (inl h) = inl (left.1 (b, h))
                which (inr h) = inr ((rest β' (u, m)).1 (b, h))
        go None is α' β' t' = absurd (is q.path)

  -- the slot is filled where the rows of the paths that it goes on by are those of their ends
  pub slot_filled : (rows rows' : List ℕ) (held : NodeSet) (first second slot : ℕ)
      → ((u : ℕ) → u < n → Ends bs table alike n (other_path kind e.x e.y) u (set_at rows (first + u)))
      → ((u : ℕ) → u < n → Ends bs table alike n e.y u (set_at rows (second + u))) → TestSet bs table alike n kind e.x held
      → Filled (λ u. first_row n slot + u) (RowBy kind table rows e.x held first second) n rows rows' → SlotFilled bs table alike n k slot rows rows' true
  slot_filled rows rows' held first second slot α β test f =
      record {
        ends = λ done u l. row_ends rows held first second α β test u l (set_at rows' (first_row n slot + u)) (f.rows u l);
        rest = f.rest;
      }

-- it is as it was where they aren't
pub slot_left : (bs table alike : List ℕ) (n k slot : ℕ) (rows : List ℕ) → SlotFilled bs table alike n k slot rows rows false
slot_left bs table alike n k slot rows = record { ends = λ done. absurd (false≢true done); rest = λ i never. refl }
