-- Sets of nodes: which nodes a set has, and the operations on sets by what they have. The definitions are made of bits;
-- the laws, `has-..`, say what each set has, and the rest of the program rests on them alone.
-- Assumes nothing.
use Rattle.std.specs.Prelude.{◌≡◌, refl, Bool, true, false, not, ◌&&◌, ◌||◌, ℕ, ◌-◌, ◌^◌, ◌≤◌, ◌<◌, eqb, ltb}
use Rattle.std.proofs.Common.{sym, ap, ap₂, ◌∙◌, lt_of_lt_of_le, arith, lt-ltb, le-ltb, ltb-true, ltb-false, eqb-true}
use Rattle.std.proofs.lemmas.Bool.{false≢true}
use Rattle.std.proofs.Math.Bool.{and-false}
use Rattle.std.specs.Int.Bits.{bit_and, bit_or, bit_xor}
use Rattle.nodeset.specs.declared.NodeSet.{NodeSet}
use Rattle.nodeset.specs.Below.{lowest_below, count_below, lowest_same}
use Rattle.nodeset.specs.Bits.{on, on_none, on_power, on_ones, on_or, on_and, on_minus, on_and_less}

-- 01: "node count n (one byte, 1 to 64)": the nodes that a set can have are the numbers below it
abbrev pub width : ℕ
width = 64

-- the set has the node
unfoldable pub has : NodeSet → ℕ → Bool
has s u = ltb u width && on u s.bits

-- 01: "met (lowest node, number of nodes)": its lowest node, the width if it has none, and how many it has
abbrev pub lowest_of : NodeSet → ℕ
lowest_of s = lowest_below width (has s)

abbrev pub size_of : NodeSet → ℕ
size_of s = count_below width (has s)

abbrev pub is_empty : NodeSet → Bool
is_empty s = eqb (size_of s) 0

-- ---- the sets that the code makes

-- no node
unfoldable pub empty_set : NodeSet
empty_set = record { bits = 0 }

-- the nodes below n
unfoldable pub below : ℕ → NodeSet
below n = record { bits = 2 ^ n - 1 }

-- the node u alone
unfoldable pub only : ℕ → NodeSet
only u = record { bits = 2 ^ u }

-- the set, and the node u
unfoldable pub insert : NodeSet → ℕ → NodeSet
insert s u = record { bits = bit_or s.bits (2 ^ u) }

-- the set with node u inserted if it is wanted
abbrev pub insert_if : Bool → NodeSet → ℕ → NodeSet
insert_if true s u = insert s u
insert_if false s u = s

-- the nodes that one of the two has
unfoldable pub union : NodeSet → NodeSet → NodeSet
union s t = record { bits = bit_or s.bits t.bits }

-- the nodes that both have
unfoldable pub meet : NodeSet → NodeSet → NodeSet
meet s t = record { bits = bit_and s.bits t.bits }

-- the nodes that the first has and the second has not
unfoldable pub minus : NodeSet → NodeSet → NodeSet
minus s t = record { bits = bit_xor s.bits (bit_and s.bits t.bits) }

-- the set without its lowest node
unfoldable pub but_lowest : NodeSet → NodeSet
but_lowest s = record { bits = bit_and s.bits (s.bits - 1) }

-- ---- sets as numbers

-- the number of a set, and the set of a number
unfoldable pub number_of : NodeSet → ℕ
number_of s = s.bits

unfoldable pub set_of : ℕ → NodeSet
set_of n = record { bits = n }

-- ---- laws

-- a set is that of its number
pub number_back : (s : NodeSet) → set_of (number_of s) ≡ s
unfolding number_of set_of
number_back s = refl

-- sets that compare equal are one set
pub equal_is : (s t : NodeSet) → eqb s.bits t.bits ≡ true → s ≡ t
unfolding number_of
equal_is s t h = sym (number_back s) ∙ ap set_of (eqb-true s.bits t.bits h) ∙ number_back t

pub has_beyond : (s : NodeSet) (u : ℕ) → width ≤ u → has s u ≡ false
unfolding has
has_beyond s u h = ap (λ (t : Bool). t && on u s.bits) (le-ltb u width h)

-- below the width, a set has the nodes of its word's bits
pub on_has_law : (s : NodeSet) (u : ℕ) → u < width → on u s.bits ≡ has s u
unfolding has
on_has_law s u h = sym (ap (λ (t : Bool). t && on u s.bits) (lt-ltb u width h))

-- a test that passes only below the width is not changed by the test of the width
within : (u : ℕ) (t : Bool) → (t ≡ true → u < width) → (ltb u width && t) ≡ t
within u true h = ap (λ (b : Bool). b && true) (lt-ltb u width (h refl))
within u false h = and-false (ltb u width)

spread_or : (b x y : Bool) → (b && (x || y)) ≡ ((b && x) || (b && y))
spread_or true x y = refl
spread_or false x y = refl

spread_and : (b x y : Bool) → (b && (x && y)) ≡ ((b && x) && (b && y))
spread_and true x y = refl
spread_and false x y = refl

spread_not : (b x y : Bool) → (b && (x && not y)) ≡ ((b && x) && not (b && y))
spread_not true x y = refl
spread_not false x y = refl

pub has_empty : (u : ℕ) → has empty_set u ≡ false
unfolding has empty_set
has_empty u = ap (λ (t : Bool). ltb u width && t) (on_none u) ∙ within u false (λ e. absurd (false≢true e))

pub has_below : (n u : ℕ) → n ≤ width → has (below n) u ≡ ltb u n
unfolding has below
has_below n u h =
    ap (λ (t : Bool). ltb u width && t) (on_ones n u) ∙ within u (ltb u n) (λ e. lt_of_lt_of_le (ltb-true u n e) h)

own : (u v : ℕ) → u < width → (ltb v width && on v (2 ^ u)) ≡ eqb v u
own u v h =
    ap (λ (t : Bool). ltb v width && t) (on_power u v) ∙ within v (eqb v u) (λ e. omega (arith, h, eqb-true v u e))

pub has_only : (u v : ℕ) → u < width → has (only u) v ≡ eqb v u
unfolding has only
has_only u v h = own u v h

pub has_insert : (s : NodeSet) (u v : ℕ) → u < width → has (insert s u) v ≡ eqb v u || has s v
unfolding has insert
has_insert s u v h =
    ap (λ (t : Bool). ltb v width && t) (on_or v s.bits (2 ^ u) ∙ swap (on v s.bits) (on v (2 ^ u)))
    ∙ spread_or (ltb v width) (on v (2 ^ u)) (on v s.bits)
    ∙ ap (λ (t : Bool). t || (ltb v width && on v s.bits)) (own u v h)
  where
    swap : (x y : Bool) → (x || y) ≡ (y || x)
    swap true true = refl
    swap true false = refl
    swap false true = refl
    swap false false = refl

pub has_union : (s t : NodeSet) (u : ℕ) → has (union s t) u ≡ has s u || has t u
unfolding has union
has_union s t u =
    ap (λ (b : Bool). ltb u width && b) (on_or u s.bits t.bits) ∙ spread_or (ltb u width) (on u s.bits) (on u t.bits)

pub has_meet : (s t : NodeSet) (u : ℕ) → has (meet s t) u ≡ has s u && has t u
unfolding has meet
has_meet s t u =
    ap (λ (b : Bool). ltb u width && b) (on_and u s.bits t.bits) ∙ spread_and (ltb u width) (on u s.bits) (on u t.bits)

pub has_minus : (s t : NodeSet) (u : ℕ) → has (minus s t) u ≡ has s u && not (has t u)
unfolding has minus
has_minus s t u =
    ap (λ (b : Bool). ltb u width && b) (on_minus u s.bits t.bits) ∙ spread_not (ltb u width) (on u s.bits) (on u t.bits)

pub has_but_lowest : (s : NodeSet) (u : ℕ) → has (but_lowest s) u ≡ has s u && not (eqb u (lowest_of s))
unfolding but_lowest
has_but_lowest s u = go (ltb u width) refl
  where
    inside : u < width → has (but_lowest s) u ≡ has s u && not (eqb u (lowest_of s))
    inside h =
        sym (on_has_law (but_lowest s) u h)
        ∙ on_and_less width s.bits u h
        ∙ ap₂ (λ (t : Bool) (l : ℕ). t && not (eqb u l)) (on_has_law s u h) (lowest_same width (λ k. on k s.bits) (has s) (on_has_law s))

    go : (t : Bool) → ltb u width ≡ t → has (but_lowest s) u ≡ has s u && not (eqb u (lowest_of s))
    go true e = inside (ltb-true u width e)
    go false e = let far = ltb-false u width e in rw (has_beyond (but_lowest s) u far, has_beyond s u far)
