-- The file as it is written, from the bytes of its entries, and what each step of it says of the text.
-- Assumes nothing.
use Rattle.std.specs.Prelude.{◌≡◌, refl, Bool, true, false, Result, Ok, Err, IsErrAnd, ℕ, ◌+◌, ◌-◌, ◌*◌, ◌≤◌, ◌<◌, ltb, drop}
use Rattle.std.proofs.Math.Path.{sym, ap}
use Rattle.std.proofs.Common.{subst, ◌∙◌, arith, length-take, take_all}
use mathlib.Core.List.{List, [], ◌∷◌, ◌++◌}
use borrow.Author.Tests.{lt-ltb, le-ltb, ltb-true, ltb-false}
use Rattle.std.proofs.Math.ListN.{length, take, length-map}
use Rattle.std.proofs.Math.Seq.{length_front}
use Rattle.wire.specs.Choice.{pick}
use Rattle.wire.specs.Blocks.{put_from}
use Rattle.wire.specs.Cleared.{front_length}
use Rattle.wire.specs.Onto.{onto}
use Rattle.wire.proofs.Onto.{onto_front, onto_more, take_onto}
use Rattle.pattern.specs.Checks.Finding.{Finding, found, refused, passes, refuses_if, unless, found_passes, refused_refuses}
use Rattle.pattern.specs.File.Entries.{max_entries}
use Rattle.typed_text.specs.Text.{NodeText, node}
use Rattle.typed_text.specs.Tokens.{tokens_of, range_check}
use Rattle.typed_text.specs.Spelled.{byte_tokens, token_word, token_words, tokens_spelled, byte_tokens_fewer}
use Rattle.typed_file.specs.Trees.{node_tree}
use Rattle.typed_file.specs.Entries.{Entry, entry_bytes}
use Rattle.text_cells.specs.Building.{built_of}
use Rattle.text_cells.specs.Cells.{CellIs, cell_more}
use Rattle.text_cells.specs.Built.{TextCells, text_built, built_few}
use Rattle.text_entries.specs.declared.TooMany.{TooMany}
use Rattle.text_entries.specs.Completing.{counted_as}
use Rattle.text_entries.specs.Placing.{bytes_four}
use Rattle.typing.specs.declared.finding.TypeRefusal.{TypeRefusal}
use Rattle.typing.specs.Typing.{entries_in, file_within, text_within, refusal_number, refusal_place, finding_of}

-- ---- laws

-- the file of n entries with these bytes
abbrev pub file_with : ℕ → List ℕ → List ℕ
file_with n bytes = (80 ∷ 65 ∷ 84 ∷ 1 ∷ 0 ∷ n ∷ []) ++ bytes

unfoldable pub bytes_within : ℕ → List ℕ → ℕ → Finding (List ℕ)
bytes_within n bytes room = unless (refuses_if (ltb room (length (file_with n bytes))) 32 0) (file_with n bytes)

-- the tokens of a text whose numbers are in range
pub record TokensOf (t : NodeText) (ws : List ℕ) : Type 0 where
  pub words : ws ≡ token_words (tokens_of t)
  pub within_ranges : range_check (tokens_of t) ≡ passes

-- an error that `?` hands on, by what it is made of
pub handed_on : (e : TypeRefusal) (r : Result ℕ TypeRefusal) → IsErrAnd r (λ x. x ≡ e) → finding_of r ≡ refused (refusal_number e) (refusal_place e)
handed_on e (Ok n) h = absurd h
handed_on e (Err x) h = ap (λ (y : TypeRefusal). refused (refusal_number y) (refusal_place y)) h

-- ---- the bytes of a file
abbrev pub front : List ℕ → ℕ → List ℕ
front entries n = take (4 * n) entries

pub front_four : (entries : List ℕ) (n : ℕ) → 4 * n ≤ length entries → length (front entries n) ≡ 4 * n
front_four entries n l = front_length (4 * n) entries l

module _ (n : ℕ) (bytes : List ℕ) (four : length bytes ≡ 4 * n) (room : ℕ) where
  pub within_short : room < 6 + 4 * n → bytes_within n bytes room ≡ refused 32 0
  unfolding bytes_within
  within_short l = rw (lt-ltb room (length (file_with n bytes)) (omega (arith, l, four)))

  pub within_enough : 6 + 4 * n ≤ room → bytes_within n bytes room ≡ found (file_with n bytes)
  unfolding bytes_within
  within_enough l = rw (le-ltb room (length (file_with n bytes)) (omega (arith, l, four)))

-- header and entries, one behind the other
pub both_written : (n : ℕ) (bytes out : List ℕ) → 6 + length bytes ≤ length out
    → put_from (put_from out 0 0 (80 ∷ 65 ∷ 84 ∷ 1 ∷ 0 ∷ n ∷ [])) 6 0 bytes ≡ onto (file_with n bytes) out
both_written n bytes out l =
    let header : List ℕ = 80 ∷ 65 ∷ 84 ∷ 1 ∷ 0 ∷ n ∷ [] in
    ap (λ (ys : List ℕ). put_from ys 6 0 bytes) (onto_front header out (omega (arith, l))) ∙ onto_more header bytes out (omega (arith, l))

-- ---- the cells of a text
pub record CellsOf (t : NodeText) (count : ℕ) (cells : List ℕ) : Type 0 where
  pub some_cell : 1 ≤ count
  pub few_cells : count ≤ 1024
  pub root : CellIs cells (count - 1) (node_tree t)

pub cells_hold : (t : NodeText) (ws out cells : List ℕ) (count : ℕ) → TokensOf t ws → length ws ≤ 1024 → count ≡ (built_of ws).count
    → cells ≡ onto (built_of ws).cells out → CellsOf t count cells
unfolding onto
cells_hold t ws out cells count h short counts are =
    let built = subst (λ (vs : List ℕ). TextCells (built_of vs) t) (sym h.words) (text_built t h.within_ranges) in
    record {
      some_cell = omega (arith, counts, built.some_cell);
      few_cells = omega (arith, counts, built_few ws, short);
      root = subst (λ (cs : List ℕ). CellIs cs (count - 1) (node_tree t)) (sym are)
          (subst (λ (c : ℕ). CellIs (onto (built_of ws).cells out) (c - 1) (node_tree t)) (sym counts)
          (cell_more (node_tree t) (built_of ws).cells (drop (length (built_of ws).cells) out) ((built_of ws).count - 1) built.root));
    }

-- ---- its entries
complete_is : (k m : ℕ) → Ok k ≡ counted_as m → (k ≡ m) × (m ≤ 255)
complete_is k m e = go (ltb 255 m) refl e
  where
    go : (b : Bool) → ltb 255 m ≡ b → ◌≡◌ {A = Result ℕ TooMany} (Ok k) (pick b (Err (record {})) (Ok m)) → (k ≡ m) × (m ≤ 255)
    go true h f = absurd (let z : ◌≡◌ {A = ℕ} 0 1 = cc in omega arith)
    go false h f = (cc, ltb-false 255 m h)

many_is : (u : TooMany) (m : ℕ) → Err u ≡ counted_as m → 255 < m
many_is u m e = go (ltb 255 m) refl e
  where
    go : (b : Bool) → ltb 255 m ≡ b → ◌≡◌ {A = Result ℕ TooMany} (Err u) (pick b (Err (record {})) (Ok m)) → 255 < m
    go true h f = ltb-true 255 m h
    go false h f = absurd (let z : ◌≡◌ {A = ℕ} 0 1 = cc in omega arith)

module _ (t : NodeText) (room : ℕ) where
  pub file_many : (u : TooMany) → Err u ≡ counted_as (length (entries_in t)) → file_within t room ≡ refused 32 0
  unfolding file_within
  file_many u e = rw (lt-ltb max_entries (length (entries_in t)) (many_is u (length (entries_in t)) e))

  pub file_few : (k : ℕ) → Ok k ≡ counted_as (length (entries_in t)) → k ≤ 255
  file_few k e = let h = complete_is k (length (entries_in t)) e in omega (arith, h.0, h.1)

  pub file_bytes : (k : ℕ) (entries lent : List ℕ) → Ok k ≡ counted_as (length (entries_in t))
      → entries ≡ onto (entry_bytes (take 255 (entries_in t))) lent → bytes_within k (front entries k) room ≡ file_within t room
  unfolding file_within bytes_within
  file_bytes k entries lent e are =
      let h = complete_is k (length (entries_in t)) e in
      let all : entries ≡ onto (entry_bytes (entries_in t)) lent
      = are ∙ ap (λ (es : List Entry). onto (entry_bytes es) lent) (take_all 255 (entries_in t) h.1) in
      let bytes : front entries k ≡ entry_bytes (entries_in t)
      = ap (λ (m : ℕ). take m entries) (ap (λ (m : ℕ). 4 * m) h.0 ∙ sym (bytes_four (entries_in t)))
      ∙ ap (take (length (entry_bytes (entries_in t)))) all ∙ take_onto (entry_bytes (entries_in t)) lent in
      rw (bytes, h.0, le-ltb max_entries (length (entries_in t)) h.1)

-- what is taken is no more than was asked
pub take_few : {A : Type 0} (n : ℕ) (xs : List A) → length (take n xs) ≤ n
take_few n xs = omega (arith, length-take n xs)

-- the bytes that were lent for the entries stay as many
pub entries_after : (es : List Entry) (lent entries : List ℕ) → length lent ≡ 1020 → entries ≡ onto (entry_bytes (take 255 es)) lent → length entries ≡ 1020
unfolding onto
entries_after es lent entries l are =
    let few : length (take 255 es) ≤ 255 = take_few 255 es in
    let bytes = bytes_four (take 255 es) in
    ap length are
    ∙ length_front lent (entry_bytes (take 255 es)) (length (entry_bytes (take 255 es)))
    (sym (front_length (length (entry_bytes (take 255 es))) lent (omega (arith, few, bytes, l))))
    ∙ l

-- ---- the tokens of a text
module _ (t : NodeText) (xs : List ℕ) (e : node t [] ≡ xs) where
  tokens_are : byte_tokens xs ≡ tokens_of t
  tokens_are = ap byte_tokens (sym e) ∙ tokens_spelled t

  -- its numbers are in range: the tokens are there
  module _ (n : ℕ) (answer : found n ≡ unless (range_check (byte_tokens xs)) (length (byte_tokens xs))) where
    read : (range_check (byte_tokens xs) ≡ passes) × (length (byte_tokens xs) ≡ n)
    read = found_passes (range_check (byte_tokens xs)) (length (byte_tokens xs)) n (sym answer)

    ranged : range_check (tokens_of t) ≡ passes
    ranged = sym (ap range_check tokens_are) ∙ read.0

    pub tokens_held : (tokens lent : List ℕ) → length lent ≡ 1024 → length xs ≤ 1024 → tokens ≡ onto (token_words (byte_tokens xs)) lent
        → ((length tokens ≡ 1024) × (n ≤ 1024)) × TokensOf t (take n tokens)
    unfolding onto
    tokens_held tokens lent l short are =
        let words = length-map (byte_tokens xs) token_word in
        let few = byte_tokens_fewer xs in
        let long : length tokens ≡ 1024
        = ap length are
        ∙ length_front lent (token_words (byte_tokens xs)) (length (token_words (byte_tokens xs)))
        (sym (front_length (length (token_words (byte_tokens xs))) lent (omega (arith, words, few, l, short))))
        ∙ l in
        let first : take n tokens ≡ token_words (byte_tokens xs)
        = ap (take n) are ∙ ap (λ (m : ℕ). take m (onto (token_words (byte_tokens xs)) lent)) (sym read.1 ∙ sym words)
        ∙ take_onto (token_words (byte_tokens xs)) lent in
        ((long, omega (arith, read.1, few, short)), record { words = first ∙ ap token_words tokens_are; within_ranges = ranged })

    pub text_ranged : (room : ℕ) → file_within t room ≡ text_within t room
    unfolding text_within
    text_ranged room = rw ranged

  -- or the first that isn't has this place
  pub text_beyond : (k room : ℕ) → refused 31 k ≡ unless (range_check (byte_tokens xs)) (length (byte_tokens xs)) → text_within t room ≡ refused 31 k
  unfolding text_within
  text_beyond k room answer =
      let h = refused_refuses (range_check (byte_tokens xs)) (length (byte_tokens xs)) 31 k (sym answer) in
      rw (sym (ap range_check tokens_are) ∙ h)
