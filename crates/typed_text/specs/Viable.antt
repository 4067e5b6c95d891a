-- What the automaton accepts is a text, and where it can go on, what was read begins one. That the place where it stops is the first byte,
-- or the end, that no text of the grammar has there is proved in `proofs/Viable`.
-- Assumes nothing.
use Rattle.std.specs.Prelude.{◌≡◌, refl, Bool, true, false, ◌||◌, ◌⊎◌, List, [], ◌∷◌, ◌++◌, ℕ, ◌<◌, eqb, length}
use Rattle.std.proofs.Common.{sym, ◌∙◌, ap, subst, inl, inr, append_assoc, append-nil, arith, length-append, eqb-true}
use Rattle.std.proofs.lemmas.Bool.{false≢true}
use Rattle.wire.specs.Choice.{pick}
use Rattle.typed_text.specs.Text.{is_digit, begins_number, all_digits, Numeral, nought, from, spell_number, NodeText, RowText, IsText}
use Rattle.typed_text.specs.Text as text
use Rattle.typed_text.specs.Fault.{Begins, FaultAt}
use Rattle.typed_text.specs.Machine.{Want, node, row, number, digits, byte, one_of, Next, none, some, node_takes, row_takes, put_on, next, all_optional, Place, whole, fault, accepts_from, text_accepted}

-- xs is spelled by what is wanted, in order
abbrev pub Reads : List Want → List ℕ → Type 0
Reads [] xs = xs ≡ []
Reads (node ∷ ws) xs = (t : NodeText) × ((ys : List ℕ) × ((xs ≡ text.node t ys) × Reads ws ys))
Reads (row ∷ ws) xs = (r : RowText) × ((ys : List ℕ) × ((xs ≡ text.row r ys) × Reads ws ys))
Reads (number ∷ ws) xs = (k : Numeral) × ((ys : List ℕ) × ((xs ≡ spell_number k ++ ys) × Reads ws ys))
Reads (digits ∷ ws) xs = (ds : List ℕ) × ((ys : List ℕ) × ((all_digits ds ≡ true) × (xs ≡ ds ++ ys) × Reads ws ys))
Reads (byte c ∷ ws) xs = (ys : List ℕ) × ((xs ≡ c ∷ ys) × Reads ws ys)
Reads (one_of c d ∷ ws) xs = (ys : List ℕ) × (((xs ≡ c ∷ ys) ⊎ (xs ≡ d ∷ ys)) × Reads ws ys)

-- nothing more is wanted
pub reads_nothing : (ws : List Want) → all_optional ws ≡ true → Reads ws []
reads_nothing [] h = refl
reads_nothing (node ∷ ws) h = absurd (false≢true h)
reads_nothing (row ∷ ws) h = (RowText.end, ([], (refl, reads_nothing ws h)))
reads_nothing (number ∷ ws) h = absurd (false≢true h)
reads_nothing (digits ∷ ws) h = ([], ([], (refl, refl, reads_nothing ws h)))
reads_nothing (byte c ∷ ws) h = absurd (false≢true h)
reads_nothing (one_of c d ∷ ws) h = absurd (false≢true h)

some_is : (ws vs : List Want) → some ws ≡ some vs → ws ≡ vs
some_is ws vs e = cc

none_some : {A : Type 0} (vs : List Want) → none ≡ some vs → A
none_some vs e = absurd (let z : ◌≡◌ {A = ℕ} 0 1 = cc in omega arith)

-- one byte of what is wanted
module _ (b : ℕ) (xs : List ℕ) (ws vs : List Want) (later : Reads vs xs) where
  -- by a test of the byte
  tested : {A : Type 0} (t : Bool) (new : List Want) (other : Next) → put_on (pick t (some new) other) ws none ≡ some vs
      → (t ≡ true → Reads (new ++ ws) xs → A) → (t ≡ false → put_on other ws none ≡ some vs → A) → A
  tested true new other e f g = f refl (subst (λ (us : List Want). Reads us xs) (sym (some_is _ _ e)) later)
  tested false new other e f g = g refl e

  begun : (c : ℕ) → eqb b c ≡ true → {l : List ℕ} → xs ≡ l → b ∷ xs ≡ c ∷ l
  begun c e {l} f = λ k. eqb-true b c e k ∷ f k

  pair_read : Reads (node ∷ one_of 38 124 ∷ node ∷ byte 41 ∷ ws) xs → eqb b 40 ≡ true → Reads (node ∷ ws) (b ∷ xs)
  pair_read (t, (ys, (e1, (zs, (inl e2, (u, (us, (e3, (qs, (e4, R)))))))))) e =
      (NodeText.both t u, (qs, (begun 40 e (e1 ∙ ap (text.node t) (e2 ∙ ap (λ (l : List ℕ). 38 ∷ l) (e3 ∙ ap (text.node u) e4))), R)))
  pair_read (t, (ys, (e1, (zs, (inr e2, (u, (us, (e3, (qs, (e4, R)))))))))) e =
      (NodeText.either t u, (qs, (begun 40 e (e1 ∙ ap (text.node t) (e2 ∙ ap (λ (l : List ℕ). 124 ∷ l) (e3 ∙ ap (text.node u) e4))), R)))

  after_read : Reads (number ∷ byte 62 ∷ node ∷ ws) xs → eqb b 60 ≡ true → Reads (node ∷ ws) (b ∷ xs)
  after_read (k, (ys, (e1, (zs, (e2, (t, (us, (e3, R)))))))) e =
      (NodeText.after k t, (us, (begun 60 e (e1 ∙ ap (λ (l : List ℕ). spell_number k ++ l) (e2 ∙ ap (λ (l : List ℕ). 62 ∷ l) e3)), R)))

  compare_read : Reads (row ∷ one_of 61 35 ∷ number ∷ row ∷ byte 93 ∷ ws) xs → eqb b 91 ≡ true → Reads (node ∷ ws) (b ∷ xs)
  compare_read (r, (ys, (e1, (zs, (inl e2, (k, (us, (e3, (q, (qs, (e4, (os, (e5, R))))))))))))) e =
      (NodeText.same r k q, (os, (begun 91 e (e1 ∙ ap (text.row r) (e2 ∙ ap (λ (l : List ℕ). 61 ∷ l) (e3 ∙ ap (λ (l : List ℕ). spell_number k ++ l) (e4 ∙ ap (text.row q) e5)))), R)))
  compare_read (r, (ys, (e1, (zs, (inr e2, (k, (us, (e3, (q, (qs, (e4, (os, (e5, R))))))))))))) e =
      (NodeText.differ r k q, (os, (begun 91 e (e1 ∙ ap (text.row r) (e2 ∙ ap (λ (l : List ℕ). 35 ∷ l) (e3 ∙ ap (λ (l : List ℕ). spell_number k ++ l) (e4 ∙ ap (text.row q) e5)))), R)))

  node_read : put_on (node_takes b) ws none ≡ some vs → Reads (node ∷ ws) (b ∷ xs)
  node_read e0 =
      tested (eqb b 112) _ _ e0 (λ e r. (NodeText.property r.0, (r.1.0, (begun 112 e r.1.1.0, r.1.1.1)))) (λ f1 e1.
      tested (eqb b 110) _ _ e1 (λ e r. (NodeText.name r.0, (r.1.0, (begun 110 e r.1.1.0, r.1.1.1)))) (λ f2 e2.
      tested (eqb b 33) _ _ e2 (λ e r. (NodeText.not r.0, (r.1.0, (begun 33 e r.1.1.0, r.1.1.1)))) (λ f3 e3.
      tested (eqb b 40) _ _ e3 (λ e r. pair_read r e) (λ f4 e4.
      tested (eqb b 60) _ _ e4 (λ e r. after_read r e) (λ f5 e5.
      tested (eqb b 91) _ _ e5 (λ e r. compare_read r e) (λ f6 e6. none_some vs e6))))))

-- a row takes the byte, or is passed over
module _ (b : ℕ) (xs : List ℕ) (ws vs : List Want) (later : Reads vs xs) (skipped : next ws b ≡ some vs → Reads ws (b ∷ xs)) where
  row_tested : {A : Type 0} (t : Bool) (new : List Want) (other : Next) → put_on (pick t (some new) other) ws (next ws b) ≡ some vs
      → (t ≡ true → Reads (new ++ ws) xs → A) → (t ≡ false → put_on other ws (next ws b) ≡ some vs → A) → A
  row_tested true new other e f g = f refl (subst (λ (us : List Want). Reads us xs) (sym (some_is _ _ e)) later)
  row_tested false new other e f g = g refl e

  brace_read : Reads (row ∷ byte 124 ∷ row ∷ byte 125 ∷ row ∷ ws) xs → eqb b 123 ≡ true → Reads (row ∷ ws) (b ∷ xs)
  brace_read (p, (ys, (e1, (zs, (e2, (q, (us, (e3, (qs, (e4, (r, (os, (e5, R))))))))))))) e =
      (RowText.brace p q r, (os, (begun b xs ws vs later 123 e (e1 ∙ ap (text.row p) (e2 ∙ ap (λ (l : List ℕ). 124 ∷ l) (e3 ∙ ap (text.row q) (e4 ∙ ap (λ (l : List ℕ). 125 ∷ l) e5)))), R)))

  row_read : put_on (row_takes b) ws (next ws b) ≡ some vs → Reads (row ∷ ws) (b ∷ xs)
  row_read e0 =
      row_tested (eqb b 47) _ _ e0 (λ e r. (RowText.step r.0 r.1.1.1.0, (r.1.1.1.1.0, (begun b xs ws vs later 47 e (r.1.1.0 ∙ ap (λ (l : List ℕ). spell_number r.0 ++ l) r.1.1.1.1.1.0), r.1.1.1.1.1.1)))) (λ f1 e1.
      row_tested (eqb b 64) _ _ e1 (λ e r. (RowText.jump r.0 r.1.1.1.0, (r.1.1.1.1.0, (begun b xs ws vs later 64 e (r.1.1.0 ∙ ap (λ (l : List ℕ). spell_number r.0 ++ l) r.1.1.1.1.1.0), r.1.1.1.1.1.1)))) (λ f2 e2.
      row_tested (eqb b 63) _ _ e2 (λ e r. (RowText.test r.0 r.1.1.1.0, (r.1.1.1.1.0, (begun b xs ws vs later 63 e (r.1.1.0 ∙ ap (text.node r.0) r.1.1.1.1.1.0), r.1.1.1.1.1.1)))) (λ f3 e3.
      row_tested (eqb b 123) _ _ e3 (λ e r. brace_read r e) (λ f4 e4. (RowText.end, (b ∷ xs, (refl, skipped e4)))))))

  digits_read : put_on (pick (is_digit b) (some (digits ∷ [])) none) ws (next ws b) ≡ some vs → Reads (digits ∷ ws) (b ∷ xs)
  digits_read e0 =
      row_tested (is_digit b) _ _ e0 (λ e r. (b ∷ r.0, (r.1.0, (rw e r.1.1.0, (λ k. b ∷ r.1.1.1 k), r.1.1.2))))
      (λ f e1. ([], (b ∷ xs, (refl, refl, skipped e1))))

-- one byte
pub reads_next : (ws vs : List Want) (b : ℕ) (xs : List ℕ) → next ws b ≡ some vs → Reads vs xs → Reads ws (b ∷ xs)
reads_next [] vs b xs e r = none_some vs e
reads_next (node ∷ ws) vs b xs e r = node_read b xs ws vs r e
reads_next (row ∷ ws) vs b xs e r = row_read b xs ws vs r (λ h. reads_next ws vs b xs h r) e
reads_next (number ∷ ws) vs b xs e r =
    tested b xs ws vs r (eqb b 48) _ _ e (λ h q. (nought, (xs, (begun b xs ws vs r 48 h refl, q)))) (λ f1 e1.
    tested b xs ws vs r (begins_number b) _ _ e1 (λ h q. (from b q.0 h q.1.1.0, (q.1.0, ((λ k. b ∷ q.1.1.1 k), q.1.1.2)))) (λ f2 e2. none_some vs e2))
reads_next (digits ∷ ws) vs b xs e r = digits_read b xs ws vs r (λ h. reads_next ws vs b xs h r) e
reads_next (byte c ∷ ws) vs b xs e r =
    tested b xs ws vs r (eqb b c) _ _ e (λ h q. (xs, (begun b xs ws vs r c h refl, q))) (λ f1 e1. none_some vs e1)
reads_next (one_of c d ∷ ws) vs b xs e r =
    tested b xs ws vs r (eqb b c || eqb b d) _ _ e (λ h q. (xs, (which (eqb b c) (eqb b d) refl refl h, q))) (λ f1 e1. none_some vs e1)
  where
    which : (s t : Bool) → eqb b c ≡ s → eqb b d ≡ t → s || t ≡ true → (b ∷ xs ≡ c ∷ xs) ⊎ (b ∷ xs ≡ d ∷ xs)
    which true t p q h = inl (ap (λ (z : ℕ). z ∷ xs) (eqb-true b c p))
    which false true p q h = inr (ap (λ (z : ℕ). z ∷ xs) (eqb-true b d q))
    which false false p q h = absurd (false≢true h)

-- a run: what is wanted after these bytes
abbrev pub run_from : List ℕ → Next → Next
run_from [] n = n
run_from (b ∷ bs) none = none
run_from (b ∷ bs) (some ws) = run_from bs (next ws b)

refused : (ys : List ℕ) → accepts_from ys none ≡ false
refused [] = refl
refused (y ∷ ys) = refl

run_none : (xs : List ℕ) → run_from xs none ≡ none
run_none [] = refl
run_none (x ∷ xs) = refl

-- accepting goes by the run
pub accepts_run : (xs ys : List ℕ) (n : Next) → accepts_from (xs ++ ys) n ≡ accepts_from ys (run_from xs n)
accepts_run [] ys n = refl
accepts_run (x ∷ xs) ys none = sym (refused ys)
accepts_run (x ∷ xs) ys (some ws) = accepts_run xs ys (next ws x)

-- what is wanted can always be written
abbrev pub finish : List Want → List ℕ
finish [] = []
finish (node ∷ ws) = 112 ∷ 48 ∷ finish ws
finish (row ∷ ws) = finish ws
finish (number ∷ ws) = 48 ∷ finish ws
finish (digits ∷ ws) = finish ws
finish (byte c ∷ ws) = c ∷ finish ws
finish (one_of c d ∷ ws) = c ∷ finish ws

pub reads_finish : (ws : List Want) → Reads ws (finish ws)
reads_finish [] = refl
reads_finish (node ∷ ws) = (NodeText.property nought, (finish ws, (refl, reads_finish ws)))
reads_finish (row ∷ ws) = (RowText.end, (finish ws, (refl, reads_finish ws)))
reads_finish (number ∷ ws) = (nought, (finish ws, (refl, reads_finish ws)))
reads_finish (digits ∷ ws) = ([], (finish ws, (refl, refl, reads_finish ws)))
reads_finish (byte c ∷ ws) = (finish ws, (refl, reads_finish ws))
reads_finish (one_of c d ∷ ws) = (finish ws, (inl refl, reads_finish ws))

-- what is read from where a run ends is read from its beginning
pub reads_run : (xs ys : List ℕ) (ws vs : List Want) → run_from xs (some ws) ≡ some vs → Reads vs ys → Reads ws (xs ++ ys)
reads_run [] ys ws vs e r = subst (λ (us : List Want). Reads us ys) (sym (some_is ws vs e)) r
reads_run (x ∷ xs) ys ws vs e r = go (next ws x) refl e (λ us h. reads_run xs ys us vs h r)
  where
    go : (n : Next) → next ws x ≡ n → run_from xs n ≡ some vs → ((us : List Want) → run_from xs (some us) ≡ some vs → Reads us (xs ++ ys)) → Reads ws (x ∷ xs ++ ys)
    go none f h rest = none_some vs (sym (run_none xs) ∙ h)
    go (some us) f h rest = reads_next ws us x (xs ++ ys) f (rest us h)

pub reads_text : (xs : List ℕ) → Reads (node ∷ []) xs → IsText xs
reads_text xs r = (r.0, sym (r.1.1.0 ∙ ap (text.node r.0) r.1.1.1))

-- ---- the place of a fault
pub run_append : (ps : List ℕ) (b : ℕ) (n : Next) (ws : List Want) → run_from ps n ≡ some ws → run_from (ps ++ (b ∷ [])) n ≡ next ws b
run_append [] b none ws e = none_some ws e
run_append [] b (some us) ws e = ap (λ (l : List Want). next l b) (some_is us ws e)
run_append (p ∷ ps) b none ws e = none_some ws e
run_append (p ∷ ps) b (some us) ws e = run_append ps b (next us p) ws e

-- bytes after which nothing can come begin no text
pub stuck : (ps : List ℕ) → run_from ps (some (node ∷ [])) ≡ none → Begins ps → ⊥
stuck ps e (ys, t) = false≢true (sym (refused ys) ∙ (sym (ap (accepts_from ys) e) ∙ (sym (accepts_run ps ys (some (node ∷ []))) ∙ text_accepted (ps ++ ys) t)))

pub begins : (ps : List ℕ) (ws : List Want) → run_from ps (some (node ∷ [])) ≡ some ws → Begins ps
begins ps ws e = (finish ws, reads_text (ps ++ finish ws) (reads_run ps (finish ws) (node ∷ []) ws e (reads_finish ws)))

-- what the place says
abbrev pub Says : List ℕ → Place → Type 0
Says xs whole = IsText xs
Says xs (fault k) = FaultAt xs k

-- ---- no text has such a place

text_begins : (xs : List ℕ) → IsText xs → Begins xs
text_begins xs t = ([], rw append-nil t)

-- what begins a text, shorter
begins_less : (ps qs : List ℕ) → Begins (ps ++ qs) → Begins ps
begins_less ps qs (ys, t) = (qs ++ ys, rw append_assoc at t)

-- of two beginnings of the same bytes the longer one has the byte behind the shorter one
longer_has : (ps qs : List ℕ) (b : ℕ) (zs ys : List ℕ) → ps ++ (b ∷ zs) ≡ qs ++ ys → length ps < length qs → (rs : List ℕ) × (qs ≡ ps ++ (b ∷ rs))
longer_has [] [] b zs ys e l = absurd (omega arith)
longer_has [] (q ∷ qs) b zs ys e l = (qs, (let h : q ≡ b = cc in ap (λ (x : ℕ). x ∷ qs) h))
longer_has (p ∷ ps) [] b zs ys e l = absurd (omega arith)
longer_has (p ∷ ps) (q ∷ qs) b zs ys e l =
    let h : q ≡ p = cc in
    let t : ps ++ (b ∷ zs) ≡ qs ++ ys = cc in
    let r = longer_has ps qs b zs ys t (omega arith) in
    (r.0, (λ k. h k ∷ r.1 k))

-- bytes that begin a text don't begin one of which a byte among them is the fault
pub no_later : (ps qs : List ℕ) (b : ℕ) (zs ys : List ℕ) → ps ++ (b ∷ zs) ≡ qs ++ ys → length ps < length qs → Begins qs → (Begins (ps ++ (b ∷ [])) → ⊥) → ⊥
no_later ps qs b zs ys e l some_text no_text =
    let r = longer_has ps qs b zs ys e l in
    no_text (begins_less (ps ++ (b ∷ [])) r.0 (rw append_assoc (rw r.1 at some_text)))

no_text : {xs : List ℕ} {k : ℕ} → FaultAt xs k → IsText xs → ⊥
no_text {xs} (FaultAt.at_byte ps b zs e s n) t =
    no_later ps xs b zs [] (sym e ∙ sym (append-nil xs)) (omega (arith, ap length e, length-append ps (b ∷ zs))) (text_begins xs t) n
no_text (FaultAt.at_the_end s n) t = n t

pub fault_no_text : (xs : List ℕ) (k : ℕ) → FaultAt xs k → IsText xs → ⊥
fault_no_text xs k f t = no_text f t
