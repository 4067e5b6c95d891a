-- A line that was read, without its line feed.
-- Assumes nothing.
use Rattle.std.specs.Prelude.{◌≡◌, refl, List, [], ◌∷◌, ℕ, ◌-◌, eqb, length, take, get_or}
use Rattle.std.proofs.Common.{arith}
use Rattle.wire.specs.Choice.{pick}

-- one line feed at the end is no part of the line
abbrev pub without_line_feed : List ℕ → List ℕ
without_line_feed bs = let last = length bs - 1 in pick (eqb (get_or bs last 0) 10) (take last bs) bs

-- ---- laws

-- nothing was read
pub line_empty : (bs : List ℕ) → length bs ≡ 0 → bs ≡ without_line_feed bs
line_empty [] h = refl
line_empty (b ∷ bs) h = absurd (omega (arith, h))
