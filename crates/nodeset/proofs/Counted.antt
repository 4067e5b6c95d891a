-- What the machine's counts of a word's bits say of the set that the word is, and the word of one bit.
-- Assumes nothing.
use mathlib.Core.Path.{◌≡◌, refl, sym, ap, ◌∙◌}
use mathlib.Core.Bool.{Bool, true, false}
use Prim.Native.Nat.{ℕ, ◌*◌, ◌%◌, ◌^◌, ◌≤◌, ◌<◌}
use Rattle.std.proofs.Common.{arith}
use native.Mathlib.Nat.{one-mul, mod-eq_of_lt}
use borrow.Author.Tests.{eqb-true, eqb-false, eq-eqb, ne_eqb}
use lib.Count.{ones, count_trailing_zeros}
use lib.Dec.{eqb}
use lib.Pow.{pow-lt}
use Rattle.nodeset.specs.declared.NodeSet.{NodeSet}
use Rattle.nodeset.specs.Below.{count_same, lowest_same}
use Rattle.nodeset.specs.Bits.{on, ones_count, zeros_lowest, none_zero}
use Rattle.nodeset.specs.Set.{width, has, lowest_of, size_of, is_empty, on_has_law}

-- the word whose bit u alone is 1
pub shifted : (u : ℕ) → u < width → 1 * 2 ^ u % 18446744073709551616 ≡ 2 ^ u
shifted u h = rw (one-mul (2 ^ u)) (mod-eq_of_lt (pow-lt {j = 64} h))

pub ones_size : (s : NodeSet) → s.bits < 2 ^ 64 → ones s.bits ≡ size_of s
ones_size s h = ones_count 64 s.bits h ∙ count_same 64 (λ k. on k s.bits) (has s) (on_has_law s)

pub zeros_least : (s : NodeSet) → count_trailing_zeros 64 s.bits ≡ lowest_of s
zeros_least s = zeros_lowest 64 s.bits ∙ lowest_same 64 (λ k. on k s.bits) (has s) (on_has_law s)

pub zero_empty : (s : NodeSet) → s.bits < 2 ^ 64 → eqb s.bits 0 ≡ is_empty s
unfolding ones
zero_empty s h = go (eqb s.bits 0) refl ∙ ap (λ (n : ℕ). eqb n 0) (ones_size s h)
  where
    none : ones 0 ≡ 0
    none = refl

    go : (t : Bool) → eqb s.bits 0 ≡ t → t ≡ eqb (ones s.bits) 0
    go true e = sym (eq-eqb (ones s.bits) 0 (ap ones (eqb-true s.bits 0 e) ∙ none))
    go false e = sym (ne_eqb (ones s.bits) 0 (λ z. eqb-false s.bits 0 e (none_zero 64 s.bits h z)))

-- a set with a node is not the word 0
pub nonzero : (s : NodeSet) → s.bits < 2 ^ 64 → is_empty s ≡ false → 1 ≤ s.bits
nonzero s h some = omega (arith, eqb-false s.bits 0 (zero_empty s h ∙ some))
