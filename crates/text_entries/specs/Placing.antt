-- Entries in lent bytes, four to each, and an entry placed among them.
-- Assumes nothing.
use Rattle.std.specs.Prelude.{◌≡◌, refl, Bool, true, false, Option, Some, None, Result, Ok, Err, List, [], ◌∷◌, ◌++◌, ℕ, zero, suc, ◌+◌, ◌-◌, ◌*◌, ◌≤◌, ◌<◌, ltb, eqb, length, get_or, drop}
use Rattle.std.proofs.Common.{sym, ap, subst, ◌∙◌, append_assoc, add-zero, zero-add, arith, lt-ltb, le-ltb, ne_eqb, length-append, get_or-append-add}
use Rattle.wire.specs.Choice.{pick}
use Rattle.wire.specs.Blocks.{put_from}
use Rattle.wire.specs.Onto.{onto}
use Rattle.wire.proofs.Onto.{onto_more}
use Rattle.text_entries.specs.declared.TooMany.{TooMany}
use Rattle.typed_file.specs.Entries.{Entry, same_entry, Found, at, nowhere, found_or, find_from, entry_bytes}

abbrev pub entry_of : ℕ → ℕ → ℕ → ℕ → Entry
entry_of kind x y z = record { kind = kind; x = x; y = y; z = z }

-- entry i of the bytes
abbrev pub entry_in : List ℕ → ℕ → Entry
entry_in bs i = entry_of (get_or bs (4 * i) 0) (get_or bs (4 * i + 1) 0) (get_or bs (4 * i + 2) 0) (get_or bs (4 * i + 3) 0)

-- so many of them, from entry i on
unfoldable pub entries_from : ℕ → ℕ → List ℕ → List Entry
entries_from zero i bs = []
entries_from (suc n) i bs = entry_in bs i ∷ entries_from n (suc i) bs

-- the number of an entry that was looked for among n: where it was found, or the next
abbrev pub number_found : Found → ℕ → ℕ
number_found (at i) n = i
number_found nowhere n = n

-- the same as the code has it
abbrev pub found_as : Option ℕ → Found
found_as (Some i) = at i
found_as None = nowhere

-- the 256th, whose number would be 255, has no room
abbrev pub within_room : ℕ → Result ℕ TooMany
within_room n = pick (eqb n 255) (Err (record {})) (Ok n)

-- a new one is stored, if it is not the 256th
abbrev pub stored_if : Found → ℕ → List ℕ → List ℕ → List ℕ
stored_if (at i) n e bs = bs
stored_if nowhere n e bs = pick (ltb n 255) (put_from bs (4 * n) 0 e) bs

-- ---- laws

-- the search goes on from entry to entry
pub found_here : (bs : List ℕ) (e : Entry) (n i : ℕ) → i < n → same_entry (entry_in bs i) e ≡ true
    → find_from (entries_from (n - i) i bs) e i ≡ at i
unfolding entries_from
found_here bs e n i l h = subst (λ (m : ℕ). find_from (entries_from m i bs) e i ≡ at i) left (rw h)
  where
    left : suc (n - i - 1) ≡ n - i
    left = omega (arith, l)

pub found_later : (bs : List ℕ) (e : Entry) (n i : ℕ) → i < n → same_entry (entry_in bs i) e ≡ false
    → find_from (entries_from (n - (i + 1)) (i + 1) bs) e (i + 1) ≡ find_from (entries_from (n - i) i bs) e i
unfolding entries_from
found_later bs e n i l h =
    subst (λ (m : ℕ). find_from (entries_from (n - (i + 1)) (i + 1) bs) e (i + 1) ≡ find_from (entries_from m i bs) e i) left
    (subst (λ (j : ℕ). find_from (entries_from (n - (i + 1)) j bs) e j ≡ find_from (entries_from (suc (n - (i + 1))) i bs) e i) next (rw h))
  where
    left : suc (n - (i + 1)) ≡ n - i
    left = omega (arith, l)

    next : suc i ≡ i + 1
    next = omega arith

pub found_nowhere : (bs : List ℕ) (e : Entry) (n i : ℕ) → n ≤ i → find_from (entries_from (n - i) i bs) e i ≡ nowhere
unfolding entries_from
found_nowhere bs e n i l = subst (λ (m : ℕ). find_from (entries_from m i bs) e i ≡ nowhere) none refl
  where
    none : 0 ≡ n - i
    none = omega (arith, l)

-- the entries whose bytes stand behind others
in_bytes : (es : List Entry) (ps qs : List ℕ) (i : ℕ) → length ps ≡ 4 * i → entries_from (length es) i (ps ++ (entry_bytes es ++ qs)) ≡ es
unfolding entries_from
in_bytes [] ps qs i l = refl
in_bytes (e ∷ es) ps qs i l =
    let bs = ps ++ (entry_bytes (e ∷ es) ++ qs) in
    let four = e.kind ∷ e.x ∷ e.y ∷ e.z ∷ [] in
    let at : (j : ℕ) → get_or bs (4 * i + j) 0 ≡ get_or (entry_bytes (e ∷ es) ++ qs) j 0
    = λ j. ap (λ (n : ℕ). get_or bs (n + j) 0) (sym l) ∙ get_or-append-add ps (entry_bytes (e ∷ es) ++ qs) j 0 in
    let first : entry_in bs i ≡ e
    = λ k. entry_of ((ap (λ (n : ℕ). get_or bs n 0) (sym (add-zero (4 * i))) ∙ at 0) k) (at 1 k) (at 2 k) (at 3 k) in
    let rest : entries_from (length es) (suc i) bs ≡ es
    = ap (entries_from (length es) (suc i)) (sym (append_assoc ps four (entry_bytes es ++ qs)))
    ∙ in_bytes es (ps ++ four) qs (suc i) (length-append ps four ∙ omega (arith, l)) in
    λ k. first k ∷ rest k

-- entries at the front of the bytes
pub entries_held : (es : List Entry) (lent : List ℕ) → entries_from (length es) 0 (onto (entry_bytes es) lent) ≡ es
unfolding onto
entries_held es lent = in_bytes es [] (drop (length (entry_bytes es)) lent) 0 refl

pub bytes_four : (es : List Entry) → length (entry_bytes es) ≡ 4 * length es
bytes_four [] = refl
bytes_four (e ∷ es) = omega (arith, bytes_four es)

bytes_more : (es : List Entry) (e : Entry) → entry_bytes (es ++ (e ∷ [])) ≡ entry_bytes es ++ (e.kind ∷ e.x ∷ e.y ∷ e.z ∷ [])
bytes_more [] e = refl
bytes_more (f ∷ es) e = ap (λ (l : List ℕ). f.kind ∷ f.x ∷ f.y ∷ f.z ∷ l) (bytes_more es e)

-- one more
pub entry_stored : (es : List Entry) (e : Entry) (lent : List ℕ) → 4 * length es + 4 ≤ length lent
    → put_from (onto (entry_bytes es) lent) (4 * length es) 0 (e.kind ∷ e.x ∷ e.y ∷ e.z ∷ []) ≡ onto (entry_bytes (es ++ (e ∷ []))) lent
entry_stored es e lent l =
    ap (λ (n : ℕ). put_from (onto (entry_bytes es) lent) n 0 (e.kind ∷ e.x ∷ e.y ∷ e.z ∷ [])) (sym (bytes_four es))
    ∙ onto_more (entry_bytes es) (e.kind ∷ e.x ∷ e.y ∷ e.z ∷ []) lent (omega (arith, l, bytes_four es))
    ∙ ap (λ (bs : List ℕ). onto bs lent) (sym (bytes_more es e))

-- what is found is one of the entries
abbrev pub Below : ℕ → Found → Type 0
Below n (at i) = i < n
Below n nowhere = Unit {0}

below_or : (t : Bool) (n k : ℕ) (f : Found) → k < n → Below n f → Below n (found_or t k f)
below_or true n k f l h = l
below_or false n k f l h = h

found_below : (bs : List ℕ) (e : Entry) (m i : ℕ) → Below (i + m) (find_from (entries_from m i bs) e i)
unfolding entries_from
found_below bs e zero i = tt
found_below bs e (suc m) i =
    below_or (same_entry (entry_in bs i) e) (i + suc m) i _ (omega arith)
    (subst (λ (n : ℕ). Below n (find_from (entries_from m (suc i) bs) e (suc i))) next (found_below bs e m (suc i)))
  where
    next : suc i + m ≡ i + suc m
    next = omega arith

pub among : (bs : List ℕ) (e : Entry) (n : ℕ) → Below n (find_from (entries_from n 0 bs) e 0)
among bs e n = subst (λ (m : ℕ). Below m (find_from (entries_from n 0 bs) e 0)) (zero-add n) (found_below bs e n 0)

-- one that is found has one of the numbers in use
pub found_within : (f : Found) (n i : ℕ) → n ≤ 255 → Below n f → at i ≡ f → Ok i ≡ within_room (number_found f n)
found_within f n i l below e = go f below e
  where
    go : (f : Found) → Below n f → at i ≡ f → Ok i ≡ within_room (number_found f n)
    go (at j) b e = let same : i ≡ j = cc in rw (ne_eqb j 255 (λ h. omega (arith, h, b, l))) (ap (λ (k : ℕ). Ok k) same)
    go nowhere b e = absurd (let z : ◌≡◌ {A = ℕ} 0 1 = cc in omega arith)

-- what becomes of the bytes, by the number that was found
pub stored_new : (f : Found) (n : ℕ) (e bs : List ℕ) → Below n f → number_found f n ≡ n → n < 255 → put_from bs (4 * n) 0 e ≡ stored_if f n e bs
stored_new (at i) n e bs below is l = absurd (omega (arith, below, is))
stored_new nowhere n e bs below is l = rw (lt-ltb n 255 l)

pub stored_full : (f : Found) (n : ℕ) (e bs : List ℕ) → 255 ≤ n → bs ≡ stored_if f n e bs
stored_full (at i) n e bs l = refl
stored_full nowhere n e bs l = rw (le-ltb n 255 l)

pub stored_old : (f : Found) (n : ℕ) (e bs : List ℕ) → (number_found f n ≡ n → ⊥) → bs ≡ stored_if f n e bs
stored_old (at i) n e bs h = refl
stored_old nowhere n e bs h = absurd (h refl)
