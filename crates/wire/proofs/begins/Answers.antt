-- `wire::begins` meets its contract: std's `starts_with` asks the same of each byte, from the mark's side.
-- Assumes nothing.
use Rattle.std.proofs.Common.{◌≡◌, refl, sym, ◌∙◌, ap₂, Bool, true, false, ◌&&◌, List, [], ◌∷◌, ℕ, eqb, eqb-true, eq-eqb, ne_eqb, length, take}
use lib.Pointwise.{pointwise}
use Rattle.std.proofs.lemmas.Bool.{eqb-false}
use Rattle.wire.specs.Fields.{begins_with}
use Rattle.wire.proofs.begins.Goals as goal

turned : (a b : ℕ) → eqb a b ≡ eqb b a
turned a b = go (eqb a b) refl
  where
    go : (t : Bool) → eqb a b ≡ t → t ≡ eqb b a
    go true e = sym (eq-eqb b a (sym (eqb-true a b e)))
    go false e = sym (ne_eqb b a (λ d. eqb-false a b e (sym d)))

each : (m s : List ℕ) → pointwise eqb m (take (length m) s) ≡ begins_with m s
each [] s = refl
each (m ∷ ms) [] = refl
each (m ∷ ms) (b ∷ bs) = ap₂ (λ (x y : Bool). x && y) (turned m b) (each ms bs)

pub returns : goal.returns
returns c = c.starts_with.ensures.value ∙ each c.args.mark.now c.args.s.now
