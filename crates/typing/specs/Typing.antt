-- Typing a pattern, 02's Job 7: the refusals in their order, what is found, what becomes of the destination, and what is promised of it.
-- Assumes nothing.
use Rattle.std.specs.Prelude.{◌≡◌, ◌||◌, ◌⊎◌, ◌↔◌, Result, Ok, Err, List, [], ℕ, ◌≤◌, ◌<◌, ltb, length, take}
use Rattle.pattern.specs.Logic.Semantics.{Model, Naming, Holds}
use Rattle.pattern.specs.Logic.Finite.{Finite, Named, NodeOf, model_of, naming_of}
use Rattle.pattern.specs.Checks.Finding.{Finding, found, refused, passes, refuses_if, unless, onward, written, destination_after}
use Rattle.pattern.specs.File.Entries.{max_entries}
use Rattle.pattern.specs.File.Reading.{reading_of}
use Rattle.pattern.specs.Meaning.Expression.{root_of}
use Rattle.typed_text.specs.Text.{NodeText, node}
use Rattle.typed_text.specs.Fault.{FaultAt, Parsed, whole, faulty}
use Rattle.typed_text.specs.Tokens.{tokens_of, range_check}
use Rattle.typed_text.specs.Means.{node_means}
use Rattle.typed_text.proofs.Viable.{parse}
use Rattle.typed_file.specs.Trees.{node_tree}
use Rattle.typed_file.specs.Entries.{Entry, entries_of, file_of}
use Rattle.typing.specs.declared.finding.TypeRefusal.{TypeRefusal}

-- "text over 1,024 bytes"
abbrev pub max_text : ℕ
max_text = 1024

-- the different entries of a text
abbrev pub entries_in : NodeText → List Entry
entries_in t = entries_of (node_tree t)

-- the file of a text, for a destination of this many bytes. "32, last, over 255 different entries or a destination too short."
unfoldable pub file_within : NodeText → ℕ → Finding (List ℕ)
file_within t room =
    unless (refuses_if (ltb max_entries (length (entries_in t)) || ltb room (length (file_of (entries_in t)))) 32 0) (file_of (entries_in t))

-- "31, next, the first number out of range", and then 32
unfoldable pub text_within : NodeText → ℕ → Finding (List ℕ)
text_within t room = onward (range_check (tokens_of t)) (file_within t room)

-- "30, first, .. outside the grammar (place the first byte, or the end, that no text of the grammar, of any length, could have there)"
abbrev pub parsed_within : {xs : List ℕ} → Parsed xs → ℕ → Finding (List ℕ)
parsed_within (whole t e) room = text_within t room
parsed_within (faulty k f) room = refused 30 k

-- "30, first, text over 1,024 bytes (place 0)". What `parse` answers is settled by its type: a tree whose bytes these are, and whatever tree has
-- them, the finding is the same (`typing_text`); or the place that the words say, of which there is one (`fault_once`)
unfoldable pub typing_of : List ℕ → ℕ → Finding (List ℕ)
typing_of xs room = onward (refuses_if (ltb max_text (length xs)) 30 0) (parsed_within (parse xs) room)

-- "At every node of every model the file must hold exactly where the text does": of every data model of source 000's definition 1, finite or
-- not, each channel any equivalence relation
abbrev pub SameEverywhere : NodeText → List ℕ → Type 1
SameEverywhere t file = (M : Model) (nom : Naming M) (x : M.Node) → Holds M nom (root_of file) x ↔ Holds M nom (node_means t) x

-- the same, of finite data models
abbrev pub SameMeaning : NodeText → List ℕ → Type 0
SameMeaning t file =
    (F : Finite) (ok : Named F) (u : NodeOf F)
    → Holds (model_of F) (naming_of F ok) (root_of file) u ↔ Holds (model_of F) (naming_of F ok) (node_means t) u

-- What a length says: nothing was to be refused, and it is the file's.
pub record Types (xs : List ℕ) (room n : ℕ) : Type 0 where
  pub short : length xs ≤ max_text
  pub text : NodeText
  pub spelled : node text [] ≡ xs
  pub within_ranges : range_check (tokens_of text) ≡ passes
  pub few : length (entries_in text) ≤ max_entries
  pub fits : n ≤ room
  pub length_is : n ≡ length (file_of (entries_in text))

-- What refusal 30 with place k says.
abbrev pub Outside : List ℕ → ℕ → Type 0
Outside xs k = ((max_text < length xs) × (k ≡ 0)) ⊎ ((length xs ≤ max_text) × FaultAt xs k)

-- Typing xs, with the destination that was lent, finds f and leaves the destination so.
pub record TypePromise (xs lent : List ℕ) (f : Finding ℕ) (left : List ℕ) : Type 0 where
  -- any bytes give the file's length, or the first refusal that applies; "A refusal leaves the destination unchanged; otherwise its length is
  -- given and only the file's bytes change."
  pub finding : f ≡ written (typing_of xs (length lent))
  pub destination : left ≡ destination_after (typing_of xs (length lent)) lent
  -- a length is found exactly where nothing is to be refused, and 30 exactly where the bytes are too many or outside the grammar
  pub meaning : (n : ℕ) → (f ≡ found n) ↔ Types xs (length lent) n
  pub outside : (k : ℕ) → (f ≡ refused 30 k) ↔ Outside xs k
  -- the bytes of that length at the front of the destination are a pattern that is read, and mean what the text does
  pub is_read : (n : ℕ) → f ≡ found n → (t : NodeText) → node t [] ≡ xs → reading_of (take n left) ≡ found (length (entries_in t))
  pub same : (n : ℕ) → f ≡ found n → (t : NodeText) → node t [] ≡ xs → SameMeaning t (take n left)

-- What a length says of every data model: the bytes of that length at the front of the destination mean what the text does.
abbrev pub TypedEverywhere : List ℕ → Finding ℕ → List ℕ → Type 1
TypedEverywhere xs f left = (n : ℕ) → f ≡ found n → (t : NodeText) → node t [] ≡ xs → SameEverywhere t (take n left)

-- the code's answers, by the documents' numbers and values
abbrev pub refusal_number : TypeRefusal → ℕ
refusal_number (TypeRefusal.Grammar place) = 30
refusal_number (TypeRefusal.Range place) = 31
refusal_number TypeRefusal.Room = 32

abbrev pub refusal_place : TypeRefusal → ℕ
refusal_place (TypeRefusal.Grammar place) = place
refusal_place (TypeRefusal.Range place) = place
refusal_place TypeRefusal.Room = 0

abbrev pub finding_of : Result ℕ TypeRefusal → Finding ℕ
finding_of (Ok length) = found length
finding_of (Err refusal) = refused (refusal_number refusal) (refusal_place refusal)
