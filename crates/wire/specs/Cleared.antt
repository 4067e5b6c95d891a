-- A lent area whose front is left zero.
-- Assumes nothing.
use Rattle.std.specs.Prelude.{◌≡◌, List, ◌++◌, ℕ, ◌≤◌, length, replicate, take, drop}
use Rattle.std.proofs.Common.{◌∙◌, length-take}
use Rattle.std.proofs.Math.Nat.{min-eq_left}

-- the first n bytes zero, and the rest unchanged
unfoldable pub cleared : ℕ → List ℕ → List ℕ
cleared n xs = replicate n 0 ++ drop n xs

-- ---- laws

-- the first n bytes, lent: how many they are, and where they are handed back zero
pub front_length : (n : ℕ) (xs : List ℕ) → n ≤ length xs → length (take n xs) ≡ n
front_length n xs l = length-take n xs ∙ min-eq_left l

pub cleared_front : (n : ℕ) (xs ys : List ℕ) → n ≤ length xs → ys ≡ replicate (length (take n xs)) 0 → ys ++ drop n xs ≡ cleared n xs
unfolding cleared
cleared_front n xs ys l e = rw (e, front_length n xs l)
