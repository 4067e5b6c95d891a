-- The laws of a destination that receives a file: where its bytes are stored, more behind it, bytes inside it, and it is read off the front.
-- Assumes nothing.
use Rattle.std.specs.Prelude.{◌≡◌, refl, List, [], ◌∷◌, ◌++◌, ℕ, suc, ◌+◌, ◌≤◌, length, set, take, drop}
use Rattle.std.proofs.Common.{sym, ap, ◌∙◌, zero-add, arith, length-set, length-append}
use Rattle.std.proofs.lemmas.List.{set-append_left}
use Rattle.std.proofs.Math.Seq.{take-append_seam}
use Rattle.wire.specs.Blocks.{put_from, length_from}
use Rattle.wire.specs.Onto.{onto, put_more, put_from_at}

-- a destination receives the bytes stored at its front
pub onto_front : (bs out : List ℕ) → length bs ≤ length out → put_from out 0 0 bs ≡ onto bs out
unfolding onto
onto_front bs out l = put_from_at out 0 bs (omega (arith, l)) ∙ ap (λ (n : ℕ). bs ++ drop n out) (zero-add (length bs))

-- one that has received a file receives more bytes behind it
pub onto_more : (file bs out : List ℕ) → length file + length bs ≤ length out
    → put_from (onto file out) (length file) 0 bs ≡ onto (file ++ bs) out
onto_more file bs out l =
    ap (λ (ys : List ℕ). put_from ys (length file) 0 bs) (sym (onto_front file out (omega (arith, l))))
    ∙ ap (λ (n : ℕ). put_from (put_from out 0 0 file) n 0 bs) (sym (zero-add (length file)))
    ∙ put_more out 0 file bs ∙ onto_front (file ++ bs) out (omega (arith, l, length-append file bs))

-- and bytes inside it
put_inside : (xs ys : List ℕ) (p k : ℕ) (bs : List ℕ) → p + k + length bs ≤ length xs → put_from (xs ++ ys) p k bs ≡ put_from xs p k bs ++ ys
put_inside xs ys p k [] l = refl
put_inside xs ys p k (b ∷ bs) l =
    ap (λ (zs : List ℕ). put_from zs p (suc k) bs) (set-append_left xs ys (p + k) b (omega (arith, l)))
    ∙ put_inside (set xs (p + k) b) ys p (suc k) bs (omega (arith, l, length-set xs (p + k) b))

pub onto_inside : (file out : List ℕ) (p : ℕ) (bs : List ℕ) → p + length bs ≤ length file
    → put_from (onto file out) p 0 bs ≡ onto (put_from file p 0 bs) out
unfolding onto
onto_inside file out p bs l =
    put_inside file (drop (length file) out) p 0 bs (omega (arith, l))
    ∙ ap (λ (n : ℕ). put_from file p 0 bs ++ drop n out) (sym (length_from file p 0 bs))

-- the file can be read off the front of its destination
pub take_onto : (file out : List ℕ) → take (length file) (onto file out) ≡ file
unfolding onto
take_onto file out = take-append_seam file (drop (length file) out)
