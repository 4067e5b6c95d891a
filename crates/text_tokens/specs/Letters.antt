-- Letters to which no number belongs, the limits of those to which one does, and digits.
-- Assumes nothing.
use Rattle.std.specs.Prelude.{◌≡◌, refl, Bool, true, false, ◌&&◌, ℕ, ◌≤◌, ◌<◌, eqb, leb}
use Rattle.std.proofs.lemmas.Bool.{false≢true}
use Rattle.std.proofs.Common.{arith, ne_eqb, leb-true}
use Rattle.wire.specs.Choice.{pick}
use Rattle.typed_text.specs.Text.{is_digit}
use Rattle.typed_text.specs.Tokens.{limit_of}
use Rattle.typed_text.specs.Spelled.{takes_number}

module _ (c : ℕ) (p : c ≡ 112 → ⊥) (n : c ≡ 110 → ⊥) (a : c ≡ 60 → ⊥) (s : c ≡ 47 → ⊥) (j : c ≡ 64 → ⊥) (e : c ≡ 61 → ⊥) (d : c ≡ 35 → ⊥) where
  pub no_number : takes_number c ≡ false
  no_number = rw (ne_eqb c 112 p, ne_eqb c 110 n, ne_eqb c 60 a, ne_eqb c 47 s, ne_eqb c 64 j, ne_eqb c 61 e, ne_eqb c 35 d)

  pub no_limit : limit_of c ≡ 0
  no_limit = rw (ne_eqb c 112 p, ne_eqb c 110 n, ne_eqb c 64 j, ne_eqb c 60 a, ne_eqb c 47 s, ne_eqb c 61 e, ne_eqb c 35 d)

pick_low : (t : Bool) (x y : ℕ) → x < 255 → y < 255 → pick t x y < 255
pick_low true x y l m = l
pick_low false x y l m = m

-- every limit is below the value at which numbers are capped
pub limit_low : (c : ℕ) → limit_of c < 255
limit_low c =
    pick_low (eqb c 112) 31 _ (omega arith) (pick_low (eqb c 110) 127 _ (omega arith) (pick_low (eqb c 64) 127 _ (omega arith)
    (pick_low (eqb c 60) 7 _ (omega arith) (pick_low (eqb c 47) 7 _ (omega arith) (pick_low (eqb c 61) 3 _ (omega arith)
    (pick_low (eqb c 35) 3 0 (omega arith) (omega arith)))))))

pub digit_low : (d : ℕ) → is_digit d ≡ true → (48 ≤ d) × (d ≤ 57)
digit_low d h = go (leb 48 d) refl h
  where
    go : (t : Bool) → leb 48 d ≡ t → t && leb d 57 ≡ true → (48 ≤ d) × (d ≤ 57)
    go true e f = (leb-true 48 d e, leb-true d 57 f)
    go false e f = absurd (false≢true f)
