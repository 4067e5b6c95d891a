-- What the fields of a cell say of its completion: an open part may be completed first, and a cell whose parts all have numbers is placed.
-- Assumes nothing.
use Rattle.std.specs.Prelude.{◌≡◌, Result, Ok, Err, List, [], ◌∷◌, ℕ, ◌+◌, ◌-◌, ◌*◌, ◌≤◌, ◌<◌, get_or}
use Rattle.std.proofs.Math.Path.{refl, subst}
use Rattle.std.proofs.Common.{sym}
use Rattle.typed_file.specs.Trees.{Tree, tree, Part, entry}
use Rattle.typed_file.specs.Entries.{Entry, place, complete}
use Rattle.typed_file.specs.Completion.{Stands, PartIs, Distinct, first_x, first_y, first_z, all_there}
use Rattle.text_cells.specs.Cells.{CellIs, FieldIs}
use Rattle.text_entries.specs.declared.Open.{Open}
use Rattle.text_entries.specs.Placing.{entry_of}
use Rattle.text_entries.specs.Completing.{number_of, unless_open, fields_of, ok_is, err_is, no_ok, part_number, part_open}

-- ---- laws

-- a part on top of a cell: completed before, it changes nothing of the cell's completion
pub record OpenAt (cells numbers : List ℕ) (es : List Entry) (c : ℕ) (t : Tree) (p : ℕ) : Type 0 where
  pub part : Tree
  pub cell : CellIs cells p part
  pub before : p < c
  pub without : get_or numbers p 0 ≡ 0
  pub same : complete t (complete part es).entries ≡ complete t es

module _ (cells numbers : List ℕ) (es : List Entry) (distinct : Distinct es) (small : (c : ℕ) → get_or numbers c 0 ≤ 255)
    (numbered : (c : ℕ) (t : Tree) → CellIs cells c t → (get_or numbers c 0 ≡ 0 → ⊥) → Stands es t (get_or numbers c 0 - 1)) where
  module _ (k : ℕ) (a b d : Part) (c : ℕ) (is : CellIs cells c (tree k a b d)) where
    abbrev f : ℕ
    f = get_or cells (4 * c + 1) 0

    abbrev g : ℕ
    g = get_or cells (4 * c + 2) 0

    abbrev h : ℕ
    h = get_or cells (4 * c + 3) 0

    -- a field with a number stands
    stands : (q : Part) (e n : ℕ) → FieldIs cells c e q → number_of numbers e ≡ Ok n → PartIs es q n
    stands q e n is t = part_number cells numbers es small numbered q c e n is t

    -- the open part, by the law for its field
    by : (q : Part) (e : ℕ) (o p : Open) → FieldIs cells c e q → number_of numbers e ≡ Err o → ◌≡◌ {A = Result (List ℕ) Open} (Err o) (Err p)
        → ((s : Tree) → q ≡ entry s → complete (tree k a b d) (complete s es).entries ≡ complete (tree k a b d) es)
        → OpenAt cells numbers es c (tree k a b d) p.0
    by q e o p is t same law =
        let found = part_open cells numbers es small numbered q c e o is t in
        subst (λ (p : Open). OpenAt cells numbers es c (tree k a b d) p.0) (err_is {A = List ℕ} o p same)
        (record { part = found.part; cell = found.cell; before = found.before; without = found.without; same = law found.part found.is_part })

    pub fields_open : (p : Open) → fields_of cells numbers c ≡ Err p → OpenAt cells numbers es c (tree k a b d) p.0
    fields_open p e = at_x (number_of numbers f) refl e
      where
        at_z : (x y : ℕ) → number_of numbers f ≡ Ok x → number_of numbers g ≡ Ok y → (r : Result ℕ Open) → number_of numbers h ≡ r
            → unless_open r (λ z. Ok (x ∷ y ∷ z ∷ [])) ≡ Err p → OpenAt cells numbers es c (tree k a b d) p.0
        at_z x y u v (Err o) w e =
            by d h o p is.4 w e
            (λ s i. subst (λ (q : Part). complete (tree k a b q) (complete s es).entries ≡ complete (tree k a b q) es) (sym i)
            (first_z es distinct s k a b x y (stands a f x is.2 u) (stands b g y is.3 v)))
        at_z x y u v (Ok z) w e = absurd (no_ok _ _ (sym e))

        at_y : (x : ℕ) → number_of numbers f ≡ Ok x → (r : Result ℕ Open) → number_of numbers g ≡ r
            → unless_open r (λ y. unless_open (number_of numbers h) (λ z. Ok (x ∷ y ∷ z ∷ []))) ≡ Err p → OpenAt cells numbers es c (tree k a b d) p.0
        at_y x u (Err o) v e =
            by b g o p is.3 v e
            (λ s i. subst (λ (q : Part). complete (tree k a q d) (complete s es).entries ≡ complete (tree k a q d) es) (sym i)
            (first_y es distinct s k a d x (stands a f x is.2 u)))
        at_y x u (Ok y) v e = at_z x y u v (number_of numbers h) refl e

        at_x : (r : Result ℕ Open) → number_of numbers f ≡ r
            → unless_open r (λ x. unless_open (number_of numbers g) (λ y. unless_open (number_of numbers h) (λ z. Ok (x ∷ y ∷ z ∷ [])))) ≡ Err p
            → OpenAt cells numbers es c (tree k a b d) p.0
        at_x (Err o) u e =
            by a f o p is.2 u e
            (λ s i. subst (λ (q : Part). complete (tree k q b d) (complete s es).entries ≡ complete (tree k q b d) es) (sym i) (first_x es distinct s k b d))
        at_x (Ok x) u e = at_y x u (number_of numbers g) refl e

    pub fields_numbered : (xs : List ℕ) → fields_of cells numbers c ≡ Ok xs
        → complete (tree k a b d) es ≡ place (entry_of k (get_or xs 0 0) (get_or xs 1 0) (get_or xs 2 0)) es
    fields_numbered xs e = at_x (number_of numbers f) refl e
      where
        Placed : Type 0
        Placed = complete (tree k a b d) es ≡ place (entry_of k (get_or xs 0 0) (get_or xs 1 0) (get_or xs 2 0)) es

        at_z : (x y : ℕ) → number_of numbers f ≡ Ok x → number_of numbers g ≡ Ok y → (r : Result ℕ Open) → number_of numbers h ≡ r
            → unless_open r (λ z. Ok (x ∷ y ∷ z ∷ [])) ≡ Ok xs → Placed
        at_z x y u v (Err o) w e = absurd (no_ok _ _ e)
        at_z x y u v (Ok z) w e =
            subst (λ (l : List ℕ). complete (tree k a b d) es ≡ place (entry_of k (get_or l 0 0) (get_or l 1 0) (get_or l 2 0)) es)
            (ok_is {E = Open} (x ∷ y ∷ z ∷ []) xs e)
            (all_there es distinct k a b d x y z (stands a f x is.2 u) (stands b g y is.3 v) (stands d h z is.4 w))

        at_y : (x : ℕ) → number_of numbers f ≡ Ok x → (r : Result ℕ Open) → number_of numbers g ≡ r
            → unless_open r (λ y. unless_open (number_of numbers h) (λ z. Ok (x ∷ y ∷ z ∷ []))) ≡ Ok xs → Placed
        at_y x u (Err o) v e = absurd (no_ok _ _ e)
        at_y x u (Ok y) v e = at_z x y u v (number_of numbers h) refl e

        at_x : (r : Result ℕ Open) → number_of numbers f ≡ r
            → unless_open r (λ x. unless_open (number_of numbers g) (λ y. unless_open (number_of numbers h) (λ z. Ok (x ∷ y ∷ z ∷ [])))) ≡ Ok xs
            → Placed
        at_x (Err o) u e = absurd (no_ok _ _ e)
        at_x (Ok x) u e = at_y x u (number_of numbers g) refl e
