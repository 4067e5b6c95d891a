-- Comparisons of two sides: where the sides lead, and what becomes of a comparison when they change.
-- Assumes nothing.
use Rattle.std.specs.Prelude.{◌≡◌, refl, ◌↔◌, List, ℕ}
use Rattle.std.proofs.Common.{sym, subst}
use Rattle.pattern.specs.declared.types.Comparison.{Comparison}
use Rattle.pattern.specs.Logic.Semantics.{Model, Naming, Compared}
use Rattle.pattern.proofs.Logic.Compared.{compared_sym}
use Rattle.pattern.specs.File.Types.{channel_number}
use Rattle.pattern.specs.File.Table.{end_of_path}
use Rattle.pattern.specs.File.Valid.{Valid}
use Rattle.pattern.specs.Meaning.Agreement.{LeadsAt}
use Rattle.pattern.proofs.Meaning.Agreement.{published}
use Rattle.lines.specs.declared.line.CompareLine.{CompareLine}
use Rattle.lines.specs.declared.line.Side.{Side}
use Rattle.soundness.specs.Cases.{AlikeSides}

module _ (bs : List ℕ) (M : Model) (nom : Naming M) where
  -- the path of the side leads from its name to y
  abbrev pub SideEnds : Side → M.Node → Type 0
  SideEnds s y = LeadsAt M nom bs s.path (nom s.name.number) y

  -- some ends of the two compare so; `Compares l` is this of the parts of l
  abbrev pub Meet : Comparison → ℕ → Side → Side → Type 0
  Meet c e s t = (y : M.Node) × ((z : M.Node) × (SideEnds s y × SideEnds t z × Compared M c e y z))

  -- the sides exchanged
  pub meet_swap : (c : Comparison) (e : ℕ) (s t : Side) → Meet c e s t → Meet c e t s
  meet_swap c e s t h = (h.1.0, (h.0, (h.1.1.1, h.1.1.0, compared_sym M e c h.0 h.1.0 h.1.1.2)))

  -- another left side, which leads wherever the first does
  pub meet_left : (c : Comparison) (e : ℕ) (s s' t : Side) → ((y : M.Node) → SideEnds s y → SideEnds s' y) → Meet c e s t → Meet c e s' t
  meet_left c e s s' t lead h = (h.0, (h.1.0, (lead h.0 h.1.1.0, h.1.1.1, h.1.1.2)))

  -- alike sides
  pub meet_alike : {c d : Comparison} → c ≡ d → (l q : CompareLine) → AlikeSides l q
      → Meet c (channel_number l.channel) l.left l.right ≡ Meet d (channel_number q.channel) q.left q.right
  meet_alike same l q alike =
      λ k. (y : M.Node) × ((z : M.Node)
      × (LeadsAt M nom bs (alike.1.1 k) (nom (alike.1.0 k)) y × LeadsAt M nom bs (alike.2.1 k) (nom (alike.2.0 k)) z
      × Compared M (same k) (alike.0 k) y z))

-- both at their ends: the nodes of the two names compare so
module _ {bs : List ℕ} {n : ℕ} (ok : Valid bs n) (M : Model) (nom : Naming M) where
  -- "end leads to u"
  at_the_end : (s : Side) → s.path ≡ end_of_path → (y : M.Node) → SideEnds bs M nom s y ↔ (nom s.name.number ≡ y)
  at_the_end s e y =
      let u = nom s.name.number in
      subst (λ (v : ℕ). LeadsAt M nom bs v u y ↔ (u ≡ y)) (sym e) ((published M nom ok).ends u y)

  module _ (c : Comparison) (e : ℕ) (s t : Side) (ends : (s.path ≡ end_of_path) × (t.path ≡ end_of_path)) where
    abbrev u : M.Node
    u = nom s.name.number

    abbrev v : M.Node
    v = nom t.name.number

    pub to_meet : Compared M c e u v → Meet bs M nom c e s t
    to_meet h = (u, (v, ((at_the_end s ends.0 u).1 refl, (at_the_end t ends.1 v).1 refl, h)))

    pub of_meet : Meet bs M nom c e s t → Compared M c e u v
    of_meet h =
        let p : u ≡ h.0 = (at_the_end s ends.0 h.0).0 h.1.1.0 in
        let q : v ≡ h.1.0 = (at_the_end t ends.1 h.1.0).0 h.1.1.1 in
        subst (λ (X : Type 0). X) (λ k. Compared M c e (sym p k) (sym q k)) h.1.1.2
