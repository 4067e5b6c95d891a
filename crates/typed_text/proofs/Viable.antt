-- That the place at which the automaton stops is the one that `FaultAt` says, `parse`, and that there is one such place.
-- Assumes nothing.
use Rattle.std.specs.Prelude.{◌≡◌, refl, Bool, true, false, List, [], ◌∷◌, ◌++◌, ℕ, ◌+◌, ◌<◌, ltb, length}
use Rattle.std.proofs.Common.{sym, ◌∙◌, ap, subst, append_assoc, append-nil, arith, length-append, ltb-true, ltb-false}
use Rattle.std.proofs.lemmas.Bool.{false≢true}
use Rattle.typed_text.specs.Text.{IsText}
use Rattle.typed_text.specs.Fault.{FaultAt, Parsed}
use Rattle.typed_text.specs.Machine.{Want, node, Next, none, some, next, all_optional, Place, whole, fault, end_place, next_place, place_from, place_of, accepts_from, accepts, text_accepted}
use Rattle.typed_text.specs.Viable.{reads_nothing, run_from, accepts_run, reads_run, reads_text, run_append, stuck, begins, Says, no_later}

pub place_says : (bs ps : List ℕ) (ws : List Want) → run_from ps (some (node ∷ [])) ≡ some ws → Says (ps ++ bs) (place_from bs ws (length ps))
place_says [] ps ws e = go (all_optional ws) refl
  where
    all : ps ++ [] ≡ ps
    all = append-nil ps

    accepted : accepts (node ∷ []) ps ≡ all_optional ws
    accepted = ap (accepts (node ∷ [])) (sym all) ∙ (accepts_run ps [] (some (node ∷ [])) ∙ ap (accepts_from []) e)

    go : (t : Bool) → all_optional ws ≡ t → Says (ps ++ []) (end_place t (length ps))
    go true f = reads_text (ps ++ []) (reads_run ps [] (node ∷ []) ws e (reads_nothing ws f))
    go false f = rw all (FaultAt.at_the_end (begins ps ws e) (λ t. false≢true (sym (accepted ∙ f) ∙ text_accepted ps t)))
place_says (b ∷ bs) ps ws e = go (next ws b) refl (λ vs h. place_says bs (ps ++ (b ∷ [])) vs (run_append ps b (some (node ∷ [])) ws e ∙ h))
  where
    go : (n : Next) → next ws b ≡ n
        → ((vs : List Want) → next ws b ≡ some vs → Says ((ps ++ (b ∷ [])) ++ bs) (place_from bs vs (length (ps ++ (b ∷ [])))))
        → Says (ps ++ (b ∷ bs)) (next_place n (length ps) (λ vs. place_from bs vs (length ps + 1)))
    go none f rest = FaultAt.at_byte ps b bs refl (begins ps ws e) (stuck (ps ++ (b ∷ [])) (run_append ps b (some (node ∷ [])) ws e ∙ f))
    go (some vs) f rest =
        subst (λ (k : ℕ). Says (ps ++ (b ∷ bs)) (place_from bs vs k)) longer
        (subst (λ (l : List ℕ). Says l (place_from bs vs (length (ps ++ (b ∷ []))))) (append_assoc ps (b ∷ []) bs) (rest vs f))
      where
        longer : length (ps ++ (b ∷ [])) ≡ length ps + 1
        longer = length-append ps (b ∷ []) ∙ omega arith

-- the text passes exactly where it is one, and otherwise the place is the one that the words say
pub place_is : (xs : List ℕ) → Says xs (place_of xs)
place_is xs = place_says xs [] (node ∷ []) refl

says_parsed : (xs : List ℕ) (p : Place) → Says xs p → Parsed xs
says_parsed xs whole (t, e) = Parsed.whole t e
says_parsed xs (fault k) f = Parsed.faulty k f

-- bytes are a text or outside the grammar
pub parse : (xs : List ℕ) → Parsed xs
parse xs = says_parsed xs (place_of xs) (place_is xs)

pub place_faulty : (xs : List ℕ) (k : ℕ) → place_of xs ≡ fault k → FaultAt xs k
place_faulty xs k e = subst (Says xs) e (place_is xs)

pub place_whole : (xs : List ℕ) → place_of xs ≡ whole → IsText xs
place_whole xs e = subst (Says xs) e (place_is xs)

-- ---- there is one place
same_length : (m n : ℕ) → (m < n → ⊥) → (n < m → ⊥) → m ≡ n
same_length m n f g = go (ltb m n) refl (ltb n m) refl
  where
    go : (s : Bool) → ltb m n ≡ s → (t : Bool) → ltb n m ≡ t → m ≡ n
    go true e t h = absurd (f (ltb-true m n e))
    go false e true h = absurd (g (ltb-true n m h))
    go false e false h = omega (arith, ltb-false m n e, ltb-false n m h)

once : {xs : List ℕ} {j k : ℕ} → FaultAt xs j → FaultAt xs k → j ≡ k
once (FaultAt.at_byte ps b zs e s n) (FaultAt.at_byte qs c ys f t m) =
    same_length (length ps) (length qs) (λ l. no_later ps qs b zs (c ∷ ys) (sym e ∙ f) l t n) (λ l. no_later qs ps c ys (b ∷ zs) (sym f ∙ e) l s m)
once {xs} (FaultAt.at_byte ps b zs e s n) (FaultAt.at_the_end t m) =
    absurd (no_later ps xs b zs [] (sym e ∙ sym (append-nil xs)) (omega (arith, ap length e, length-append ps (b ∷ zs))) t n)
once {xs} (FaultAt.at_the_end s n) (FaultAt.at_byte ps b zs e t m) =
    absurd (no_later ps xs b zs [] (sym e ∙ sym (append-nil xs)) (omega (arith, ap length e, length-append ps (b ∷ zs))) s m)
once (FaultAt.at_the_end s n) (FaultAt.at_the_end t m) = refl

pub fault_once : (xs : List ℕ) (j k : ℕ) → FaultAt xs j → FaultAt xs k → j ≡ k
fault_once xs j k f g = once f g
