-- One byte of a text, taken by the stack that the bytes of an array hold.
-- Assumes nothing.
use Rattle.std.specs.Prelude.{◌≡◌, refl, Bool, true, false, ◌&&◌, ◌||◌, List, [], ◌∷◌, ◌++◌, ℕ, zero, suc, Option, Some, None, ◌+◌, ◌-◌, ◌≤◌, ◌<◌, length, get_or, take, drop}
use Rattle.std.proofs.Common.{sym, ap, ◌∙◌, append_assoc, add-one, arith, drop-cons, drop_at, drop-drop, length-take-le, ne_eqb}
use Rattle.std.proofs.lemmas.Bool.{false≢true}
use Rattle.std.proofs.Math.Seq.{drop-length}
use Rattle.std.proofs.lemmas.List.{drop-append-le}
use Rattle.std.specs.List.{list_all}
use Rattle.wire.specs.Choice.{pick}
use Rattle.wire.specs.Blocks.{put_from}
use Rattle.wire.specs.Onto.{put_from_at}
use Rattle.typed_text.specs.Text.{is_digit}
use Rattle.typed_text.specs.Machine.{Want, digits, one_of, Next, none, some, node_takes, row_takes, takes, put_on, next, all_optional, Place, fault, end_place, next_place, place_from}
use Rattle.text_tokens.specs.declared.wants.Wants.{Wants}
use Rattle.text_tokens.specs.Stack.{want_of, wants, new_wants, taken, passable}

-- ---- what a byte is not

pub node_refuses : (b : ℕ) → (b ≡ 112 → ⊥) → (b ≡ 110 → ⊥) → (b ≡ 33 → ⊥) → (b ≡ 40 → ⊥) → (b ≡ 60 → ⊥) → (b ≡ 91 → ⊥) → node_takes b ≡ none
node_refuses b p n o c a r = rw (ne_eqb b 112 p, ne_eqb b 110 n, ne_eqb b 33 o, ne_eqb b 40 c, ne_eqb b 60 a, ne_eqb b 91 r)

pub row_refuses : (b : ℕ) → (b ≡ 47 → ⊥) → (b ≡ 64 → ⊥) → (b ≡ 63 → ⊥) → (b ≡ 123 → ⊥) → row_takes b ≡ none
row_refuses b s j t f = rw (ne_eqb b 47 s, ne_eqb b 64 j, ne_eqb b 63 t, ne_eqb b 123 f)

or_same : (t : Bool) → t || t ≡ t
or_same true = refl
or_same false = refl

-- a want other than those with a number of their own
pub itself : (w b : ℕ) → (w ≡ 1 → ⊥) → (w ≡ 2 → ⊥) → (w ≡ 3 → ⊥) → (w ≡ 4 → ⊥) → (w ≡ 5 → ⊥) → (w ≡ 6 → ⊥)
    → taken w b ≡ takes (one_of w w) b
itself zero b n1 n2 n3 n4 n5 n6 = rw or_same
itself (suc zero) b n1 n2 n3 n4 n5 n6 = absurd (n1 refl)
itself (suc (suc zero)) b n1 n2 n3 n4 n5 n6 = absurd (n2 refl)
itself (suc (suc (suc zero))) b n1 n2 n3 n4 n5 n6 = absurd (n3 refl)
itself (suc (suc (suc (suc zero)))) b n1 n2 n3 n4 n5 n6 = absurd (n4 refl)
itself (suc (suc (suc (suc (suc zero))))) b n1 n2 n3 n4 n5 n6 = absurd (n5 refl)
itself (suc (suc (suc (suc (suc (suc zero)))))) b n1 n2 n3 n4 n5 n6 = absurd (n6 refl)
itself (suc (suc (suc (suc (suc (suc (suc w))))))) b n1 n2 n3 n4 n5 n6 = rw or_same

-- only a row and digits may be nothing
pub needed : (w : ℕ) → (w ≡ 2 → ⊥) → (w ≡ 4 → ⊥) → passable w ≡ false
needed zero r d = refl
needed (suc zero) r d = refl
needed (suc (suc zero)) r d = absurd (r refl)
needed (suc (suc (suc zero))) r d = refl
needed (suc (suc (suc (suc zero)))) r d = absurd (d refl)
needed (suc (suc (suc (suc (suc zero))))) r d = refl
needed (suc (suc (suc (suc (suc (suc zero)))))) r d = refl
needed (suc (suc (suc (suc (suc (suc (suc w))))))) r d = refl

-- ---- the wants of a stack

wants_append : (xs ys : List ℕ) → wants (xs ++ ys) ≡ wants xs ++ wants ys
wants_append [] ys = refl
wants_append (x ∷ xs) ys = λ k. want_of x ∷ wants_append xs ys k

-- where digits are wanted, a byte that is taken is one
taken_digit : (t : Bool) (ws : List Want) → pick t (some (digits ∷ [])) none ≡ some ws → t ≡ true
taken_digit true ws h = refl
taken_digit false ws h = absurd (false≢true (ap is_some h))
  where
    is_some : Next → Bool
    is_some none = false
    is_some (some vs) = true

-- ---- whether the text may end
pub may_end_all : (stack : List ℕ) → all_optional (wants stack) ≡ list_all passable stack
may_end_all [] = refl
may_end_all (w ∷ ws) = ap (λ (t : Bool). passable w && t) (may_end_all ws)

module _ (stack : List ℕ) (at : ℕ) (l : at < length stack) where
  pub end_on : passable (get_or stack at 0) ≡ true → all_optional (wants (drop at stack)) ≡ all_optional (wants (drop (at + 1) stack))
  end_on p = rw (drop-cons stack at 0 l, add-one at, p)

  pub end_not : passable (get_or stack at 0) ≡ false → all_optional (wants (drop at stack)) ≡ false
  end_not p = rw (drop-cons stack at 0 l, p)

pub end_reached : (stack : List ℕ) (at : ℕ) → at ≡ length stack → all_optional (wants (drop at stack)) ≡ true
end_reached stack at e = rw (e, drop-length)

-- ---- a step of the automaton: the stack's front stands at `at`, the byte at i

abbrev pub place_at : List ℕ → List ℕ → ℕ → ℕ → Place
place_at text stack at i = place_from (drop i text) (wants (drop at stack)) i

module _ (text stack : List ℕ) (at i : ℕ) (inside : i < length text) where
  -- nothing is wanted any more
  pub place_empty : at ≡ length stack → place_at text stack at i ≡ fault i
  place_empty e = rw (e, drop-length, drop-cons text i 0 inside)

  module _ (l : at < length stack) where
    top : place_at text stack at i
        ≡ next_place (put_on (taken (get_or stack at 0) (get_or text i 0)) (wants (drop (suc at) stack))
        (pick (passable (get_or stack at 0)) (next (wants (drop (suc at) stack)) (get_or text i 0)) none)) i (λ ws. place_from (drop (suc i) text) ws (i + 1))
    top = rw (drop-cons stack at 0 l, drop-cons text i 0 inside)

    pub place_stuck : taken (get_or stack at 0) (get_or text i 0) ≡ none → passable (get_or stack at 0) ≡ false → place_at text stack at i ≡ fault i
    place_stuck t p = top ∙ rw (t, p)

    pub place_passed : taken (get_or stack at 0) (get_or text i 0) ≡ none → passable (get_or stack at 0) ≡ true
        → place_at text stack at i ≡ place_at text stack (at + 1) i
    place_passed t p = top ∙ rw (t, p, add-one at, drop-cons text i 0 inside)

    -- a digit is taken where digits are wanted: they are wanted again
    pub place_same : get_or stack at 0 ≡ 4 → (ws : List Want) → taken (get_or stack at 0) (get_or text i 0) ≡ some ws
        → place_at text stack at i ≡ place_at text stack at (i + 1)
    place_same e ws t = top ∙ rw (e, taken_digit (is_digit (get_or text i 0)) ws (rw e at t), add-one i, drop-cons stack at 0 l, e)

    -- the byte is taken, and new wants take the place of the one that took it
    pub place_taken : (k : ℕ) (new : List ℕ) → length new ≡ 5 → k ≤ 5 → 4 ≤ at → taken (get_or stack at 0) (get_or text i 0) ≡ some (wants (drop k new))
        → place_at text stack at i ≡ place_at text (put_from stack (at - 4) 0 new) (at - 4 + k) (i + 1)
    place_taken k new five few low t =
        top
        ∙ rw (t, add-one i)
        (ap (λ (ws : List Want). place_from (drop (suc i) text) ws (suc i)) (sym (wants_append (drop k new) (drop (suc at) stack)) ∙ ap wants (sym stored)))
      where
        behind : at - 4 + length new ≡ suc at
        behind = omega (arith, five, low)

        stored : drop (at - 4 + k) (put_from stack (at - 4) 0 new) ≡ drop k new ++ drop (suc at) stack
        stored =
            ap (drop (at - 4 + k))
            (put_from_at stack (at - 4) new (omega (arith, five, l, low)) ∙ append_assoc (take (at - 4) stack) new (drop (at - 4 + length new) stack))
            ∙ sym (drop-drop k (at - 4) (take (at - 4) stack ++ (new ++ drop (at - 4 + length new) stack)))
            ∙ ap (drop k) (drop_at (take (at - 4) stack) (new ++ drop (at - 4 + length new) stack) (at - 4) (length-take-le (at - 4) stack (omega (arith, l))))
            ∙ drop-append-le k new (drop (at - 4 + length new) stack) (omega (arith, five, few))
            ∙ ap (λ (n : ℕ). drop k new ++ drop n stack) behind

-- the text ends
pub place_end : (text stack : List ℕ) (at i : ℕ) → i ≡ length text → place_at text stack at i ≡ end_place (all_optional (wants (drop at stack))) i
place_end text stack at i e = rw (e, drop-length)

-- ---- new wants as bytes

pub new_taken : (r : Option Wants) (new : Wants) → r ≡ Some new → new_wants r ≡ some (wants (drop new.first new.bytes))
new_taken r new e = rw e

pub new_refused : (r : Option Wants) → r ≡ None → new_wants r ≡ none
new_refused r e = rw e
