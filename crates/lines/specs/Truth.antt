-- What a line says in a data model under a naming: 01's "Lines and steps", one clause a form.
-- Assumes nothing.
use Rattle.std.specs.Prelude.{◌≡◌, ◌↔◌, List, [], ◌∷◌, ◌++◌, ℕ, zero, suc, ◌<◌, length}
use Rattle.std.proofs.Common.{sym, subst, not-suc-le-zero, le_of_suc-le-suc}
use Rattle.pattern.specs.declared.types.Sign.{Sign}
use Rattle.pattern.specs.File.Types.{channel_number, opposite}
use Rattle.pattern.specs.Logic.Semantics.{Model, Naming, Compared}
use Rattle.pattern.specs.Meaning.Agreement.{HoldsAt, LeadsAt}
use Rattle.lines.specs.declared.line.Line.{Line}
use Rattle.lines.specs.declared.line.CompareLine.{CompareLine}
use Rattle.lines.specs.Lines.{line_on}

-- a statement made, or denied
abbrev pub Signed : Sign → Type 0 → Type 0
Signed Sign.Positive A = A
Signed Sign.Negative A = A → ⊥

-- the pattern's bytes, a model and a naming
module _ (bs : List ℕ) (M : Model) (nom : Naming M) where
  -- "A comparison holds if some end of α from i and some end of β from j compare so"
  abbrev pub Compares : CompareLine → Type 0
  Compares l =
      (y : M.Node) × ((z : M.Node)
      × (LeadsAt M nom bs l.left.path (nom l.left.name.number) y × LeadsAt M nom bs l.right.path (nom l.right.name.number) z
      × Compared M l.comparison (channel_number l.channel) y z))

  abbrev pub True : Line → Type 0
  -- "i has or lacks φ"
  True (Line.Has l) = Signed l.sign (HoldsAt M nom bs l.node (nom l.name.number))
  -- "i is or is not j"
  True (Line.Is l) = Signed l.sign (nom l.first.number ≡ nom l.second.number)
  -- "axis a leads from i to j"
  True (Line.Edge l) = M.edge l.axis.number (nom l.from.number) (nom l.to.number)
  -- "barred means that none do"
  True (Line.Compare l) = Signed l.sign (Compares l)

  -- every line of a branch is true
  abbrev pub AllTrue : List Line → Type 0
  AllTrue [] = Unit {0}
  AllTrue (l ∷ ls) = True l × AllTrue ls

  -- ---- laws of branches
  -- each line of a branch that is true
  pub true_at : (b : List Line) → AllTrue b → (j : ℕ) → j < length b → True (line_on b j)
  true_at [] t j h = absurd (not-suc-le-zero h)
  true_at (l ∷ ls) t zero h = t.0
  true_at (l ∷ ls) t (suc j) h = true_at ls t.1 j (le_of_suc-le-suc h)

  -- lines added to a branch
  pub true_append : (b c : List Line) → AllTrue b → AllTrue c → AllTrue (b ++ c)
  true_append [] c t u = u
  true_append (l ∷ ls) c t u = (t.0, true_append ls c t.1 u)

-- ---- laws of signs
module _ {A : Type 0} where
  -- with a positive sign it is made, with a negative one denied; and back
  pub held : {s : Sign} → s ≡ Sign.Positive → Signed s A → A
  held e h = subst (λ (t : Sign). Signed t A) e h

  pub barred : {s : Sign} → s ≡ Sign.Negative → Signed s A → A → ⊥
  barred e h = subst (λ (t : Sign). Signed t A) e h

  pub to_held : {s : Sign} → s ≡ Sign.Positive → A → Signed s A
  to_held e h = subst (λ (t : Sign). Signed t A) (sym e) h

  pub to_barred : {s : Sign} → s ≡ Sign.Negative → (A → ⊥) → Signed s A
  to_barred e h = subst (λ (t : Sign). Signed t A) (sym e) h

-- statements that say the same, with one sign
pub signed_map : (s : Sign) {A B : Type 0} → A ↔ B → Signed s A → Signed s B
signed_map Sign.Positive e h = e.0 h
signed_map Sign.Negative e h = λ b. h (e.1 b)

-- a denial that is made denies the statement; one that is denied makes it, as far as ⊥ goes
pub denied : (A : Type 0) (s : Sign) → Signed s (A → ⊥) → (Signed (opposite s) A → ⊥) → ⊥
denied A Sign.Positive h never = never h
denied A Sign.Negative h never = h never

-- one statement made and denied
pub opposites : (s t : Sign) {A B : Type 0} → t ≡ opposite s → A ≡ B → Signed s A → Signed t B → ⊥
opposites Sign.Positive t e same h g = barred e g (subst (λ (X : Type 0). X) same h)
opposites Sign.Negative t e same h g = h (subst (λ (X : Type 0). X) (sym same) (held e g))
