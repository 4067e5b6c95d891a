-- What is found of a text and of bytes that are none, whatever tree is read; and what a finding says.
-- Assumes nothing.
use Rattle.std.specs.Prelude.{◌≡◌, refl, Bool, true, false, ◌||◌, ◌↔◌, List, [], ◌∷◌, ℕ, zero, suc, ◌+◌, ◌≤◌, ◌<◌, ltb, length, take}
use Rattle.std.proofs.Common.{sym, ap, subst, ◌∙◌, inl, inr, arith, lt-ltb, le-ltb, ltb-true, ltb-false, length-append}
use Rattle.wire.specs.Onto.{onto}
use Rattle.wire.proofs.Onto.{take_onto}
use Rattle.pattern.specs.Logic.Semantics.{Model, Naming, Holds}
use Rattle.pattern.specs.Logic.Finite.{model_of, naming_of}
use Rattle.pattern.specs.Checks.Finding.{Finding, found, refused, Check, passes, refuses, refuses_if, ◌then◌, unless, onward, written, destination_after}
use Rattle.pattern.specs.File.Entries.{max_entries}
use Rattle.pattern.specs.File.Reading.{reading_of}
use Rattle.pattern.proofs.File.Valid.{valid_read}
use Rattle.pattern.specs.Meaning.Expression.{root_of}
use Rattle.typed_text.specs.Text.{NodeText, node}
use Rattle.typed_text.specs.Fault.{FaultAt, at_byte, at_the_end, Parsed, whole, faulty}
use Rattle.typed_text.specs.Tokens.{Token, tokens_of, limit_of, range_check}
use Rattle.typed_text.specs.Means.{node_means}
use Rattle.typed_text.specs.Spelled.{number_length, tokens_from, tokens_spelled}
use Rattle.typed_text.specs.Viable.{fault_no_text}
use Rattle.typed_text.proofs.Viable.{parse, fault_once}
use Rattle.typed_file.specs.Trees.{Tree, node_tree}
use Rattle.typed_file.specs.Entries.{entries_of, file_of}
use Rattle.typed_file.specs.ValidFile.{file_length, file_valid}
use Rattle.typed_file.proofs.Meaning.{file_means}
use Rattle.typing.specs.Typing.{max_text, entries_in, file_within, text_within, parsed_within, typing_of, Types, Outside, TypePromise, TypedEverywhere}
use Rattle.typing.specs.Findings.{same_tokens, same_trees, Written, written_within, Small}

-- ---- a text, whatever tree is read
same_within : (t u : NodeText) → node t [] ≡ node u [] → (room : ℕ) → text_within t room ≡ text_within u room
unfolding text_within file_within
same_within t u e room = go (range_check (tokens_of t)) refl
  where
    file : Tree → Finding (List ℕ)
    file x = unless (refuses_if (ltb max_entries (length (entries_of x)) || ltb room (length (file_of (entries_of x)))) 32 0) (file_of (entries_of x))

    tokens : range_check (tokens_of t) ≡ range_check (tokens_of u)
    tokens = ap range_check (same_tokens t u e)

    go : (c : Check) → range_check (tokens_of t) ≡ c → onward (range_check (tokens_of t)) (file (node_tree t)) ≡ onward (range_check (tokens_of u)) (file (node_tree u))
    go passes h = ap (λ (x : Tree). onward (range_check (tokens_of t)) (file x)) (same_trees t u e h) ∙ ap (λ (c : Check). onward c (file (node_tree u))) tokens
    go (refuses number place) h = rw (h, sym tokens ∙ h)

-- ---- what is found, by what the bytes are
pub typing_long : (xs : List ℕ) (room : ℕ) → max_text < length xs → typing_of xs room ≡ refused 30 0
unfolding typing_of
typing_long xs room l = rw (lt-ltb max_text (length xs) l)

pub typing_text : (xs : List ℕ) (room : ℕ) → length xs ≤ max_text → (t : NodeText) → node t [] ≡ xs → typing_of xs room ≡ text_within t room
unfolding typing_of
typing_text xs room l t e = rw (le-ltb max_text (length xs) l) (go (parse xs))
  where
    go : (p : Parsed xs) → parsed_within p room ≡ text_within t room
    go (whole u f) = same_within u t (f ∙ sym e) room
    go (faulty k f) = absurd (fault_no_text xs k f (t, e))

pub typing_fault : (xs : List ℕ) (room : ℕ) → length xs ≤ max_text → (k : ℕ) → FaultAt xs k → typing_of xs room ≡ refused 30 k
unfolding typing_of
typing_fault xs room l k h = rw (le-ltb max_text (length xs) l) (go (parse xs))
  where
    go : (p : Parsed xs) → parsed_within p room ≡ refused 30 k
    go (whole u f) = absurd (fault_no_text xs k h (u, f))
    go (faulty j f) = λ i. refused 30 (fault_once xs j k f h i)

-- ---- what a finding says
found_is : {A : Type 0} (a b : A) → found a ≡ found b → a ≡ b
found_is a b e = cc

refused_is : {A : Type 0} (n k m l : ℕ) → ◌≡◌ {A = Finding A} (refused n k) (refused m l) → (n ≡ m) × (k ≡ l)
refused_is n k m l e = (cc, cc)

found_no : {A B : Type 0} (a : A) (n k : ℕ) → found a ≡ refused n k → B
found_no a n k e = absurd (let z : ◌≡◌ {A = ℕ} 0 1 = cc in omega arith)

-- each token stands below m
abbrev EachWithin : ℕ → List Token → Type 0
EachWithin m [] = Unit {0}
EachWithin m (t ∷ ts) = (t.place < m) × EachWithin m ts

-- 31 is the one refusal of the ranges
range_number : (ts : List Token) (n k : ℕ) → range_check ts ≡ refuses n k → n ≡ 31
range_number [] n k e = absurd (let z : ◌≡◌ {A = ℕ} 0 1 = cc in omega arith)
range_number (t ∷ ts) n k e = go (ltb (limit_of t.letter) t.value) e (λ h. range_number ts n k h)
  where
    go : (b : Bool) → (refuses_if b 31 (t.place + 1) then range_check ts) ≡ refuses n k → (range_check ts ≡ refuses n k → n ≡ 31) → n ≡ 31
    go true h rest = cc
    go false h rest = rest h

-- and its place is in the text, or its end
places_within : (ts : List Token) (n k m : ℕ) → EachWithin m ts → range_check ts ≡ refuses n k → k ≤ m
places_within [] n k m all e = absurd (let z : ◌≡◌ {A = ℕ} 0 1 = cc in omega arith)
places_within (t ∷ ts) n k m all e = go (ltb (limit_of t.letter) t.value) e (λ h. places_within ts n k m all.1 h)
  where
    go : (b : Bool) → (refuses_if b 31 (t.place + 1) then range_check ts) ≡ refuses n k → (range_check ts ≡ refuses n k → k ≤ m) → k ≤ m
    go true h rest = let same : t.place + 1 ≡ k = cc in omega (arith, same, all.0)
    go false h rest = rest h

tokens_within : (passed : ℕ) (bs : List ℕ) (i m : ℕ) → i + length bs ≤ m → EachWithin m (tokens_from passed bs i)
tokens_within passed [] i m l = tt
tokens_within zero (b ∷ bs) i m l = (omega (arith, l), tokens_within (number_length b bs) bs (i + 1) m (omega (arith, l)))
tokens_within (suc passed) (b ∷ bs) i m l = tokens_within passed bs (i + 1) m (omega (arith, l))

range_place : (t : NodeText) (n k : ℕ) → range_check (tokens_of t) ≡ refuses n k → k ≤ length (node t [])
range_place t n k h =
    places_within (tokens_of t) n k (length (node t []))
    (subst (EachWithin (length (node t []))) (tokens_spelled t) (tokens_within 0 (node t []) 0 (length (node t [])) (omega arith))) h

fault_place : (xs : List ℕ) (k : ℕ) → FaultAt xs k → k ≤ length xs
fault_place xs k (at_byte ps b zs e p q) = omega (arith, ap length e, length-append ps (b ∷ zs))
fault_place xs k (at_the_end p q) = omega arith

-- or it is refused 31 or 32
data Within (t : NodeText) (room : ℕ) : Type 0 where
  writes : Written t room → Within t room
  refuses_later : (n k : ℕ) → (n ≡ 30 → ⊥) → n ≤ 32 → k ≤ length (node t []) → text_within t room ≡ refused n k → Within t room

within : (t : NodeText) (room : ℕ) → Within t room
unfolding text_within file_within
within t room = by_range (range_check (tokens_of t)) refl
  where
    by_room : (a b : Bool) → range_check (tokens_of t) ≡ passes → ltb max_entries (length (entries_in t)) ≡ a → ltb room (length (file_of (entries_in t))) ≡ b → Within t room
    by_room true b h e f = refuses_later 32 0 (λ q. omega (arith, q)) (omega arith) (omega arith) (rw (h, e))
    by_room false true h e f = refuses_later 32 0 (λ q. omega (arith, q)) (omega arith) (omega arith) (rw (h, e, f))
    by_room false false h e f =
        writes (record { within_ranges = h; few = ltb-false max_entries (length (entries_in t)) e; fits = ltb-false room (length (file_of (entries_in t))) f })

    by_range : (c : Check) → range_check (tokens_of t) ≡ c → Within t room
    by_range passes h = by_room (ltb max_entries (length (entries_in t))) (ltb room (length (file_of (entries_in t)))) h refl refl
    by_range (refuses n k) h =
        let is = range_number (tokens_of t) n k h in
        refuses_later n k (λ q. omega (arith, q, is)) (omega (arith, is)) (range_place t n k h) (rw h)

-- what bytes are found to be
data Outcome (xs : List ℕ) (room : ℕ) : Type 0 where
  long : max_text < length xs → typing_of xs room ≡ refused 30 0 → Outcome xs room
  fault : length xs ≤ max_text → (k : ℕ) → FaultAt xs k → typing_of xs room ≡ refused 30 k → Outcome xs room
  later : length xs ≤ max_text → (n k : ℕ) → (n ≡ 30 → ⊥) → n ≤ 32 → k ≤ length xs → typing_of xs room ≡ refused n k → Outcome xs room
  typed : length xs ≤ max_text → (t : NodeText) → node t [] ≡ xs → Written t room → typing_of xs room ≡ found (file_of (entries_in t)) → Outcome xs room

outcome : (xs : List ℕ) (room : ℕ) → Outcome xs room
outcome xs room = by_length (ltb max_text (length xs)) refl
  where
    by_text : length xs ≤ max_text → (t : NodeText) → node t [] ≡ xs → Within t room → Outcome xs room
    by_text l t e (writes w) = typed l t e w (typing_text xs room l t e ∙ written_within t room w)
    by_text l t e (refuses_later n k other few place h) = later l n k other few (omega (arith, place, ap length e)) (typing_text xs room l t e ∙ h)

    by_parse : length xs ≤ max_text → Parsed xs → Outcome xs room
    by_parse l (whole t e) = by_text l t e (within t room)
    by_parse l (faulty k f) = fault l k f (typing_fault xs room l k f)

    by_length : (b : Bool) → ltb max_text (length xs) ≡ b → Outcome xs room
    by_length true e = long (ltb-true max_text (length xs) e) (typing_long xs room (ltb-true max_text (length xs) e))
    by_length false e = by_parse (ltb-false max_text (length xs) e) (parse xs)

-- ---- the promise
module _ (xs lent : List ℕ) (f : Finding ℕ) (left : List ℕ) (finding : f ≡ written (typing_of xs (length lent)))
    (destination : left ≡ destination_after (typing_of xs (length lent)) lent) where
  abbrev room : ℕ
  room = length lent

  -- of what a finding is
  tells : (g : Finding (List ℕ)) → typing_of xs room ≡ g → f ≡ written g
  tells g e = finding ∙ ap written e

  types : (n : ℕ) → f ≡ found n → Types xs room n
  types n h = go (outcome xs room)
    where
      go : Outcome xs room → Types xs room n
      go (long l e) = found_no n 30 0 (sym h ∙ tells (refused 30 0) e)
      go (fault l k a e) = found_no n 30 k (sym h ∙ tells (refused 30 k) e)
      go (later l m k other a b e) = found_no n m k (sym h ∙ tells (refused m k) e)
      go (typed l t e w g) =
          let same : n ≡ length (file_of (entries_in t)) = found_is n (length (file_of (entries_in t))) (sym h ∙ tells (found (file_of (entries_in t))) g) in
          record {
            short = l;
            text = t;
            spelled = e;
            within_ranges = w.within_ranges;
            few = w.few;
            fits = omega (arith, same, w.fits);
            length_is = same;
          }

  -- the file that such a length is of
  typed_file : (n : ℕ) → Types xs room n → (t : NodeText) → node t [] ≡ xs → typing_of xs room ≡ found (file_of (entries_in t))
  typed_file n t u e =
      let trees = same_trees t.text u (t.spelled ∙ sym e) t.within_ranges in
      typing_text xs room t.short t.text t.spelled
      ∙ written_within t.text room (record { within_ranges = t.within_ranges; few = t.few; fits = omega (arith, t.fits, t.length_is) })
      ∙ ap (λ (x : Tree). found (file_of (entries_of x))) trees

  in_front : (n : ℕ) → Types xs room n → (t : NodeText) → node t [] ≡ xs → take n left ≡ file_of (entries_in t)
  in_front n t u e =
      let is = typed_file n t u e in
      let long : n ≡ length (file_of (entries_in u))
      = t.length_is ∙ ap (λ (x : Tree). length (file_of (entries_of x))) (same_trees t.text u (t.spelled ∙ sym e) t.within_ranges) in
      ap (take n) (destination ∙ ap (λ (g : Finding (List ℕ)). destination_after g lent) is)
      ∙ ap (λ (m : ℕ). take m (onto (file_of (entries_in u)) lent)) long ∙ take_onto (file_of (entries_in u)) lent

  -- the numbers and entries of any tree with these bytes are within their limits
  ranged : (n : ℕ) → Types xs room n → (t : NodeText) → node t [] ≡ xs → range_check (tokens_of t) ≡ passes
  ranged n t u e = ap range_check (same_tokens u t.text (e ∙ sym t.spelled)) ∙ t.within_ranges

  fewer : (n : ℕ) → Types xs room n → (t : NodeText) → node t [] ≡ xs → length (entries_in t) ≤ max_entries
  fewer n t u e =
      subst (λ (x : Tree). length (entries_of x) ≤ max_entries) (same_trees t.text u (t.spelled ∙ sym e) t.within_ranges) t.few

  everywhere : TypedEverywhere xs f left
  everywhere n h t e M nom x =
      let y = types n h in
      subst (λ (bs : List ℕ). Holds M nom (root_of bs) x ↔ Holds M nom (node_means t) x) (sym (in_front n y t e))
      (file_means t (ranged n y t e) (fewer n y t e) M nom x)

  pub promise : TypePromise xs lent f left
  promise = record {
    finding = finding;
    destination = destination;
    meaning = λ n. (types n, λ t. tells (found (file_of (entries_in t.text))) (typed_file n t t.text t.spelled) ∙ ap found (sym t.length_is));
    outside = λ k. (from_30 k, to_30 k);
    is_read = λ n h t e. let y = types n h in ap reading_of (in_front n y t e) ∙ valid_read _ _ (file_valid t (ranged n y t e) (fewer n y t e));
    same = λ n h t e F ok x. everywhere n h t e (model_of F) (naming_of F ok) x;
  }
    where
      from_30 : (k : ℕ) → f ≡ refused 30 k → Outside xs k
      from_30 k h = go (outcome xs room)
        where
          go : Outcome xs room → Outside xs k
          go (long l e) = inl (l, (refused_is 30 k 30 0 (sym h ∙ tells (refused 30 0) e)).1)
          go (fault l j a e) =
              inr (l, subst (FaultAt xs) (sym (refused_is 30 k 30 j (sym h ∙ tells (refused 30 j) e)).1) a)
          go (later l m j other a b e) = absurd (other (sym (refused_is 30 k m j (sym h ∙ tells (refused m j) e)).0))
          go (typed l t e w g) = found_no (length (file_of (entries_in t))) 30 k (sym (tells (found (file_of (entries_in t))) g) ∙ h)

      to_30 : (k : ℕ) → Outside xs k → f ≡ refused 30 k
      to_30 k (inl (l, z)) = tells (refused 30 0) (typing_long xs room l) ∙ λ i. refused 30 (sym z i)
      to_30 k (inr (l, a)) = tells (refused 30 k) (typing_fault xs room l k a)

-- what is promised of finding and destination says so of every data model
pub typed_everywhere : {xs lent left : List ℕ} {f : Finding ℕ} → TypePromise xs lent f left → TypedEverywhere xs f left
typed_everywhere {xs} {lent} {left} {f} promised = everywhere xs lent f left promised.finding promised.destination

-- "At every node of every model": of every data model of source 000's definition 1, with any nodes
pub typed_means : (xs : List ℕ) (room : ℕ) (file : List ℕ) → typing_of xs room ≡ found file → (t : NodeText) → node t [] ≡ xs
    → (M : Model) (nom : Naming M) (u : M.Node) → Holds M nom (root_of file) u ↔ Holds M nom (node_means t) u
typed_means xs room file h t e M nom u = go (outcome xs room)
  where
    go : Outcome xs room → Holds M nom (root_of file) u ↔ Holds M nom (node_means t) u
    go (long l g) = found_no file 30 0 (sym h ∙ g)
    go (fault l k a g) = found_no file 30 k (sym h ∙ g)
    go (later l m k other a b g) = found_no file m k (sym h ∙ g)
    go (typed l s f w g) =
        let tokens = ap range_check (same_tokens t s (e ∙ sym f)) ∙ w.within_ranges in
        let trees = same_trees t s (e ∙ sym f) tokens in
        let is : file ≡ file_of (entries_in t) = found_is file (file_of (entries_in s)) (sym h ∙ g) ∙ ap (λ (x : Tree). file_of (entries_of x)) (sym trees) in
        subst (λ (bs : List ℕ). Holds M nom (root_of bs) u ↔ Holds M nom (node_means t) u) (sym is)
        (file_means t tokens (subst (λ (x : Tree). length (entries_of x) ≤ max_entries) (sym trees) w.few) M nom u)

pub typing_small : (xs : List ℕ) (room : ℕ) → Small (typing_of xs room)
typing_small xs room = go (outcome xs room)
  where
    go : Outcome xs room → Small (typing_of xs room)
    go (long l e) = rw e (omega arith, omega arith)
    go (fault l k a e) = rw e (omega arith, omega (arith, l, fault_place xs k a))
    go (later l n k other a b e) = rw e (a, omega (arith, l, b))
    go (typed l t e w g) = rw g (omega (arith, file_length (entries_in t), w.few))
