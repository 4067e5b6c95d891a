-- A name moved to another node, as a tableau's fresh names want it, and the lines that don't notice.
-- Assumes nothing.
use Rattle.std.specs.Prelude.{◌≡◌, refl, Bool, true, false, ℕ, eqb}
use Rattle.std.proofs.Common.{sym, ◌∙◌, ap, inl, inr, eq-eqb, ne_eqb}
use Rattle.std.proofs.Math.Path.{subst}
use Rattle.std.proofs.lemmas.Bool.{false≢true}
use mathlib.Core.List.{List, [], ◌∷◌}
use Rattle.wire.specs.Choice.{pick}
use Rattle.pattern.specs.Logic.Semantics.{Model, Naming, Holds, Leads, Compared}
use Rattle.pattern.specs.Checks.Tests.{or_left, or_right}
use Rattle.pattern.specs.File.Types.{channel_number}
use Rattle.pattern.specs.File.Valid.{Valid}
use Rattle.pattern.specs.Meaning.Expression.{node_at, path_at}
use Rattle.pattern.specs.Meaning.Agreement.{HoldsAt, LeadsAt}
use Rattle.pattern.specs.Meaning.Names.{uses_name, Reference}
use Rattle.pattern.proofs.Meaning.Names.{node_coincides, path_coincides}
use Rattle.lines.specs.declared.line.Line.{Line}
use Rattle.lines.specs.Lines.{line_has, branch_has}
use Rattle.lines.specs.Formed.{IsNode, IsPath, Formed, AllFormed}
use Rattle.lines.specs.Truth.{Signed, True, AllTrue}

-- the naming with name i moved to node y
abbrev pub renamed : (M : Model) → Naming M → ℕ → M.Node → Naming M
renamed M nom i y j = pick (eqb j i) y (nom j)

-- ---- laws
module _ (M : Model) (nom : Naming M) (i : ℕ) (y : M.Node) where
  -- name i is that of y, and every other name stays
  pub renamed_same : renamed M nom i y i ≡ y
  renamed_same = rw (eq-eqb i i refl)

  pub renamed_other : (j : ℕ) → eqb j i ≡ false → renamed M nom i y j ≡ nom j
  renamed_other j other = rw other

  -- a test that passes at j and not at i says that the name j isn't moved
  renamed_apart : (test : ℕ → Bool) → test i ≡ false → (j : ℕ) → test j ≡ true → nom j ≡ renamed M nom i y j
  renamed_apart test out j inside =
      sym (renamed_other j (ne_eqb j i (λ e. false≢true (sym out ∙ ap test (sym e) ∙ inside))))

-- a path is a reference of the pattern
reference : (bs : List ℕ) (n v : ℕ) → IsPath bs n v → Reference n v
reference bs n v (inl e) = inl e
reference bs n v (inr h) = inr h.0

-- coincidence for lines: namings that agree on the names that the pattern uses and on those of a line make it true alike
module _ {bs : List ℕ} {n : ℕ} (ok : Valid bs n) (M : Model) (g h : Naming M)
    (agree : (i : ℕ) → uses_name bs i ≡ true → g i ≡ h i) where
  holds_coincides : (φ : ℕ) → IsNode bs n φ → (u v : M.Node) → u ≡ v → HoldsAt M g bs φ u ≡ HoldsAt M h bs φ v
  holds_coincides φ f u v e =
      node_coincides ok M g h agree φ f.0 u ∙ ap (λ (w : M.Node). Holds M h (node_at bs φ) w) e

  leads_coincides : (α : ℕ) → IsPath bs n α → (u v : M.Node) → u ≡ v → (w : M.Node)
      → LeadsAt M g bs α u w ≡ LeadsAt M h bs α v w
  leads_coincides α f u v e w =
      path_coincides ok M g h agree α (reference bs n α f) u w ∙ ap (λ (x : M.Node). Leads M h (path_at bs α) x w) e

  line_coincides : (l : Line) → Formed bs n l → ((j : ℕ) → line_has l j ≡ true → g j ≡ h j) → True bs M g l ≡ True bs M h l
  line_coincides (Line.Has l) f own =
      let i = l.name.number in
      λ k. Signed l.sign (holds_coincides l.node f (g i) (h i) (own i (eq-eqb i i refl)) k)
  line_coincides (Line.Is l) f own =
      let i = l.first.number in
      let j = l.second.number in
      λ k. Signed l.sign (own i (or_left _ _ (eq-eqb i i refl)) k ≡ own j (or_right (eqb i j) _ (eq-eqb j j refl)) k)
  line_coincides (Line.Edge l) f own =
      let i = l.from.number in
      let j = l.to.number in
      λ k. M.edge l.axis.number (own i (or_left _ _ (eq-eqb i i refl)) k) (own j (or_right (eqb i j) _ (eq-eqb j j refl)) k)
  line_coincides (Line.Compare l) f own =
      let i = l.left.name.number in
      let j = l.right.name.number in
      λ k. Signed l.sign
      ((y : M.Node) × ((z : M.Node)
      × (leads_coincides l.left.path f.0 (g i) (h i) (own i (or_left _ _ (eq-eqb i i refl))) y k
      × leads_coincides l.right.path f.1 (g j) (h j) (own j (or_right (eqb i j) _ (eq-eqb j j refl))) z k
      × Compared M l.comparison (channel_number l.channel) y z)))

  -- lines stay true under a naming that agrees on their names
  pub still_true : (b : List Line) → AllFormed bs n b → ((j : ℕ) → branch_has b j ≡ true → g j ≡ h j) → AllTrue bs M g b → AllTrue bs M h b
  unfolding branch_has
  still_true [] f own t = tt
  still_true (l ∷ ls) f own t = (
    subst (λ (X : Type 0). X) (line_coincides l f.0 (λ j e. own j (or_left (line_has l j) (branch_has ls j) e))) t.0,
    still_true ls f.1 (λ j e. own j (or_right (line_has l j) (branch_has ls j) e)) t.1,
  )

-- name i moved to node y, where the pattern doesn't use it
module _ {bs : List ℕ} {n : ℕ} (ok : Valid bs n) (M : Model) (nom : Naming M) (i : ℕ) (y : M.Node) (unused : uses_name bs i ≡ false) where
  agree : (j : ℕ) → uses_name bs j ≡ true → nom j ≡ renamed M nom i y j
  agree = renamed_apart M nom i y (uses_name bs) unused

  -- what entries mean stays
  pub moved_holds : (φ : ℕ) → IsNode bs n φ → {u v : M.Node} → u ≡ v → HoldsAt M nom bs φ u → HoldsAt M (renamed M nom i y) bs φ v
  moved_holds φ f {u} {v} e h = subst (λ (X : Type 0). X) (holds_coincides ok M nom (renamed M nom i y) agree φ f u v e) h

  pub moved_leads : (α : ℕ) → IsPath bs n α → {u v : M.Node} → u ≡ v → (w : M.Node) → LeadsAt M nom bs α u w
      → LeadsAt M (renamed M nom i y) bs α v w
  moved_leads α f {u} {v} e w h = subst (λ (X : Type 0). X) (leads_coincides ok M nom (renamed M nom i y) agree α f u v e w) h
