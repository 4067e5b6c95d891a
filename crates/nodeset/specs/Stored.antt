-- Sets of nodes in lent bytes: a table of sets, one after the other, each of eight bytes with the lowest first.
-- Assumes nothing.
use Rattle.std.specs.Prelude.{◌≡◌, refl, Bool, true, false, ◌&&◌, List, [], ◌∷◌, ℕ, zero, suc, ◌+◌, ◌*◌, ◌/◌, ◌%◌, ◌^◌, ◌≤◌, ◌<◌, ltb, length, get_or, replicate}
use Rattle.std.proofs.Common.{sym, ap, ◌∙◌, add_comm, add-zero, zero-add, arith, ltb-true}
use Rattle.std.proofs.Math.Bool.{and-false}
use Rattle.std.proofs.lemmas.Nat.{mod-pow-add}
use Rattle.wire.specs.Fields.{word64_at}
use Rattle.wire.specs.Blocks.{put_from, length_from, from_out, from_in, apart}
use Rattle.nodeset.specs.declared.NodeSet.{NodeSet}
use Rattle.nodeset.specs.Bits.{on, on_none, on_rest}
use Rattle.nodeset.specs.Set.{width, has}

-- the bytes of a table of n sets: 02's "8 bytes for each node entry" are those of one
abbrev pub table_bytes : ℕ → ℕ
table_bytes n = 8 * n

-- the eight bytes of a number
abbrev pub bytes_of : ℕ → List ℕ
bytes_of x =
    x % 256 ∷ x / 256 % 256 ∷ x / 65536 % 256 ∷ x / 16777216 % 256 ∷ x / 4294967296 % 256 ∷ x / 1099511627776 % 256
    ∷ x / 281474976710656 % 256 ∷ x / 72057594037927936 % 256 ∷ []

-- set i of a table
unfoldable pub set_at : List ℕ → ℕ → NodeSet
set_at xs i = record { bits = word64_at xs (table_bytes i) }

-- the table with s as its set i
unfoldable pub put : List ℕ → ℕ → NodeSet → List ℕ
put xs i s = put_from xs (table_bytes i) 0 (bytes_of s.bits)

-- ---- laws

-- ---- a number, stored and read

-- the eight bytes of a number make its rest by 2 ^ 64
bytes_rest : (x : ℕ) → word64_at (bytes_of x) 0 ≡ x % 2 ^ 64
bytes_rest x =
    add (x / 72057594037927936 % 256 * 72057594037927936) (add (x / 281474976710656 % 256 * 281474976710656)
    (add (x / 1099511627776 % 256 * 1099511627776) (add (x / 4294967296 % 256 * 4294967296)
    (add (x / 16777216 % 256 * 16777216) (add (x / 65536 % 256 * 65536) (step 8) ∙ step 16) ∙ step 24) ∙ step 32) ∙ step 40) ∙ step 48) ∙ step 56
  where
    add : (c : ℕ) {a b : ℕ} → a ≡ b → a + c ≡ b + c
    add c e = ap (λ (y : ℕ). y + c) e

    step : (k : ℕ) → x % 2 ^ k + x / 2 ^ k % 2 ^ 8 * 2 ^ k ≡ x % 2 ^ (8 + k)
    step k = add_comm (x % 2 ^ k) (x / 2 ^ k % 2 ^ 8 * 2 ^ k) ∙ sym (mod-pow-add x 8 k)

-- equal bytes make equal numbers
word_same : (xs ys : List ℕ) (p q : ℕ) → ((k : ℕ) → k < 8 → get_or xs (p + k) 0 ≡ get_or ys (q + k) 0) → word64_at xs p ≡ word64_at ys q
word_same xs ys p q h =
    rw (
      sym (ap (λ (n : ℕ). get_or xs n 0) (add-zero p)) ∙ h 0 (omega arith) ∙ ap (λ (n : ℕ). get_or ys n 0) (add-zero q),
      h 1 (omega arith),
      h 2 (omega arith),
      h 3 (omega arith),
      h 4 (omega arith),
      h 5 (omega arith),
      h 6 (omega arith),
      h 7 (omega arith),
    ) refl

word_put : (xs : List ℕ) (p x : ℕ) → p + 8 ≤ length xs → word64_at (put_from xs p 0 (bytes_of x)) p ≡ x % 2 ^ 64
word_put xs p x h =
    word_same (put_from xs p 0 (bytes_of x)) (bytes_of x) p 0 (λ k l.
    ap (λ (n : ℕ). get_or (put_from xs p 0 (bytes_of x)) (n + k) 0) (sym (add-zero p))
    ∙ from_in xs p 0 (bytes_of x) k l (omega (arith, h)) ∙ ap (λ (n : ℕ). get_or (bytes_of x) n 0) (sym (zero-add k)))
    ∙ bytes_rest x

-- ---- sets, stored and read

pub length_put : (xs : List ℕ) (i : ℕ) (s : NodeSet) → length (put xs i s) ≡ length xs
unfolding put
length_put xs i s = length_from xs (table_bytes i) 0 (bytes_of s.bits)

pub put_same : (xs : List ℕ) (i : ℕ) (s : NodeSet) → table_bytes (i + 1) ≤ length xs → (u : ℕ) → has (set_at (put xs i s) i) u ≡ has s u
unfolding has set_at put
put_same xs i s h u = rw (word_put xs (table_bytes i) s.bits (omega (arith, h))) (low (ltb u width) refl)
  where
    low : (t : Bool) → ltb u width ≡ t → (t && on u (s.bits % 2 ^ 64)) ≡ (t && on u s.bits)
    low true e = on_rest 64 u s.bits (ltb-true u width e)
    low false e = refl

pub put_other : (xs : List ℕ) (i j : ℕ) (s : NodeSet) → (j ≡ i → ⊥) → set_at (put xs i s) j ≡ set_at xs j
unfolding set_at put
put_other xs i j s h =
    ap (λ (w : ℕ). record { bits = w }) (word_same (put_from xs (8 * i) 0 (bytes_of s.bits)) xs (8 * j) (8 * j) (λ k l. from_out xs (8 * i) 0 (bytes_of s.bits) (8 * j + k) (apart i j k h l)))

get_d_zeros : (m k : ℕ) → ◌≡◌ {A = ℕ} (get_or (replicate m 0) k 0) 0
get_d_zeros zero k = refl
get_d_zeros (suc m) zero = refl
get_d_zeros (suc m) (suc k) = get_d_zeros m k

pub has_zeros : (m i u : ℕ) → has (set_at (replicate m 0) i) u ≡ false
unfolding has set_at
has_zeros m i u = rw (word_same (replicate m 0) [] (8 * i) 0 (λ k l. get_d_zeros m (8 * i + k))) (rw (on_none u) (and-false (ltb u width)))
