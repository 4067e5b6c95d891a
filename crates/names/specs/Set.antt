-- Sets of names: which names a set has, and the operations on sets by what they have. A set is two sets of numbers, one for each half of
-- the names; the laws, `has-..`, say what each set has, and the rest of the program rests on them alone.
-- Assumes nothing.
use Rattle.std.specs.Prelude.{◌≡◌, refl, Bool, true, false, not, ◌&&◌, ◌||◌, List, [], ◌∷◌, ℕ, ◌+◌, ◌-◌, ◌≤◌, ◌<◌, eqb, ltb, get_or}
use Rattle.std.proofs.Common.{sym, ◌∙◌, ap, arith, eqb-true, eq-eqb, ne_eqb, ltb-true, ltb-false, lt-ltb, le-ltb}
use Rattle.std.proofs.lemmas.Bool.{eqb-false}
use Rattle.wire.specs.Choice.{pick}
use Rattle.nodeset.specs.Below.{lowest_below, lowest_same, lowest_wider, lowest_first, lowest_holds, lowest_past}
use Rattle.nodeset.specs.Set as half
use Rattle.nodeset.specs.Set.{width}
use Rattle.pattern.specs.Checks.Tests.{turned}
use Rattle.pattern.specs.File.Types.{max_name}
use Rattle.names.specs.declared.NameSet.{NameSet}

-- the set has the name: the low half has those below the width of a half, the high half the others, less that width
unfoldable pub has : NameSet → ℕ → Bool
has s i = pick (ltb i width) (half.has s.low i) (half.has s.high (i - width))

-- it is the set of the names that pass the test
abbrev pub SetOf : (ℕ → Bool) → NameSet → Type 0
SetOf test s = (i : ℕ) → has s i ≡ test i

-- its lowest name, one above 01's last name if it has none
abbrev pub lowest_of : NameSet → ℕ
lowest_of s = lowest_below (max_name + 1) (has s)

-- ---- the sets that the code makes

unfoldable pub no_name : NameSet
no_name = record { low = half.empty_set; high = half.empty_set }

-- the set, and the name
unfoldable pub insert : NameSet → ℕ → NameSet
insert s i =
    pick (ltb i width) (record { low = half.insert s.low i; high = s.high }) (record { low = s.low; high = half.insert s.high (i - width) })

-- the names that the first has and the second has not
unfoldable pub minus : NameSet → NameSet → NameSet
minus s t = record { low = half.minus s.low t.low; high = half.minus s.high t.high }

-- ---- sets as numbers

-- the numbers of a set, one for each half, and the set of two numbers
unfoldable pub numbers_of : NameSet → List ℕ
numbers_of s = half.number_of s.low ∷ half.number_of s.high ∷ []

unfoldable pub names_of : List ℕ → NameSet
names_of ns = record { low = half.set_of (get_or ns 0 0); high = half.set_of (get_or ns 1 0) }

-- ---- laws

-- a set is that of its numbers
pub numbers_back : (s : NameSet) → names_of (numbers_of s) ≡ s
unfolding numbers_of names_of
numbers_back s = rw (half.number_back s.low, half.number_back s.high) refl

pub has_low : (s : NameSet) (i : ℕ) → i < width → has s i ≡ half.has s.low i
unfolding has
has_low s i l = rw (lt-ltb i width l)

pub has_high : (s : NameSet) (i : ℕ) → width ≤ i → has s i ≡ half.has s.high (i - width)
unfolding has
has_high s i l = rw (le-ltb i width l)

-- no set has a number that is no name
pub has_beyond : (s : NameSet) (i : ℕ) → max_name < i → has s i ≡ false
has_beyond s i l = has_high s i (omega (arith, l)) ∙ half.has_beyond s.high (i - width) (omega (arith, l))

pub has_none : (i : ℕ) → has no_name i ≡ false
unfolding no_name
has_none i = go (ltb i width) refl
  where
    go : (b : Bool) → ltb i width ≡ b → has no_name i ≡ false
    go true e = has_low no_name i (ltb-true i width e) ∙ half.has_empty i
    go false e = has_high no_name i (ltb-false i width e) ∙ half.has_empty (i - width)

-- numbers of the high half are equal where they are less the width
same_less : (i j : ℕ) → width ≤ i → width ≤ j → eqb (j - width) (i - width) ≡ eqb j i
same_less i j l m = go (eqb j i) refl
  where
    go : (b : Bool) → eqb j i ≡ b → eqb (j - width) (i - width) ≡ b
    go true e = eq-eqb (j - width) (i - width) (ap (λ (k : ℕ). k - width) (eqb-true j i e))
    go false e = ne_eqb (j - width) (i - width) (λ d. eqb-false j i e (omega arith))

pub has_insert : (s : NameSet) (i j : ℕ) → i ≤ max_name → has (insert s i) j ≡ has s j || eqb i j
unfolding has insert
has_insert s i j l = go (ltb i width) (ltb j width) refl refl ∙ turned j i (has s j)
  where
    go : (a b : Bool) → ltb i width ≡ a → ltb j width ≡ b → has (insert s i) j ≡ eqb j i || has s j
    go true true e f = rw (e, f) (half.has_insert s.low i j (ltb-true i width e))
    go true false e f = rw (e, f, ne_eqb j i (λ d. omega (arith, ltb-true i width e, ltb-false j width f)))
    go false true e f = rw (e, f, ne_eqb j i (λ d. omega (arith, ltb-false i width e, ltb-true j width f)))
    go false false e f =
        let far = ltb-false i width e in
        rw (e, f)
        (half.has_insert s.high (i - width) (j - width) (omega (arith, far))
        ∙ ap (λ (t : Bool). t || half.has s.high (j - width)) (same_less i j far (ltb-false j width f)))

pub has_minus : (s t : NameSet) (i : ℕ) → has (minus s t) i ≡ has s i && not (has t i)
unfolding has minus
has_minus s t i = go (ltb i width) refl
  where
    go : (b : Bool) → ltb i width ≡ b → has (minus s t) i ≡ has s i && not (has t i)
    go true e = rw e (half.has_minus s.low t.low i)
    go false e = rw e (half.has_minus s.high t.high (i - width))

-- the lowest is that of the low half, if it has one
pub lowest_low : (s : NameSet) → half.lowest_of s.low < width → lowest_of s ≡ half.lowest_of s.low
lowest_low s l =
    let l' = rw (sym same) at l in
    lowest_wider width (max_name + 1) (has s) (lowest_below width (has s)) (omega arith) l' (lowest_holds width (has s) l') ∙ same
  where
    same : lowest_below width (has s) ≡ half.lowest_of s.low
    same = lowest_same width (has s) (half.has s.low) (has_low s)

-- and otherwise that of the high half, and the width
pub lowest_high : (s : NameSet) → width ≤ half.lowest_of s.low → lowest_of s ≡ width + half.lowest_of s.high
lowest_high s far =
    lowest_past width width (has s) (λ k l. has_low s k l ∙ lowest_first width (half.has s.low) k (omega arith))
    ∙ ap (λ (l : ℕ). width + l) (lowest_same width (λ k. has s (width + k)) (half.has s.high) (λ k l. has_high s (width + k) (omega arith) ∙ ap (half.has s.high) (omega arith)))
