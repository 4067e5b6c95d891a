-- How a finding is packed into the one number that a linked program gets: its kind, and up to four numbers.
-- Assumes nothing.
use Rattle.std.specs.Prelude.{◌≡◌, refl, ℕ, ◌+◌, ◌*◌, ◌%◌, ◌<◌}
use Rattle.std.proofs.Common.{sym, ◌∙◌, arith}
use Rattle.pattern.specs.Checks.Finding.{Finding, found, refused}
use Rattle.decision.specs.Judged.{Judged, met, unmet}
use Rattle.tableau.specs.declared.finding.Closed.{Closed}

-- the kinds of an answer
abbrev pub refused_kind : ℕ
refused_kind = 1

abbrev pub read_kind : ℕ
read_kind = 2

abbrev pub met_kind : ℕ
met_kind = 3

abbrev pub unmet_kind : ℕ
unmet_kind = 4

abbrev pub closed_kind : ℕ
closed_kind = 5

abbrev pub written_kind : ℕ
written_kind = 6

-- The kind stands in the lowest 4 bits, and four numbers in 14 bits each above it, the first lowest.
unfoldable pub packed : ℕ → ℕ → ℕ → ℕ → ℕ → ℕ
packed kind first second third fourth = kind + 16 * (first + 16384 * (second + 16384 * (third + 16384 * fourth)))

-- "A refusal gives its number and place"
abbrev pub refused_answer : ℕ → ℕ → ℕ
refused_answer number place = packed refused_kind number place 0 0

-- what is found is one number
abbrev pub number_answer : ℕ → Finding ℕ → ℕ
number_answer kind (found n) = packed kind n 0 0 0
number_answer kind (refused number place) = refused_answer number place

-- "Reading a pattern gives n."
abbrev pub read_answer : Finding ℕ → ℕ
read_answer = number_answer read_kind

-- 02, Job 4: "success gives the new file's length"
abbrev pub written_answer : Finding ℕ → ℕ
written_answer = number_answer written_kind

-- "Judging a model gives met (lowest node, number of nodes) or unmet."
abbrev pub model_answer : Finding Judged → ℕ
model_answer (found (met lowest number)) = packed met_kind lowest number 0 0
model_answer (found unmet) = packed unmet_kind 0 0 0 0
model_answer (refused number place) = refused_answer number place

-- "Judging a tableau gives closed (steps, clashes, forks, most lines on a branch)."
abbrev pub tableau_answer : Finding Closed → ℕ
tableau_answer (found c) = packed closed_kind c.steps c.clashes c.forks c.most
tableau_answer (refused number place) = refused_answer number place

-- the kind of an answer
abbrev pub answer_kind : ℕ → ℕ
answer_kind answer = answer % 16

-- ---- laws

-- packing keeps the kind
pub kind_packed : (kind first second third fourth : ℕ) → kind < 16 → answer_kind (packed kind first second third fourth) ≡ kind
unfolding packed
kind_packed kind first second third fourth l = low kind (first + 16384 * (second + 16384 * (third + 16384 * fourth))) l
  where
    low : (k x : ℕ) → k < 16 → (k + 16 * x) % 16 ≡ k
    low k x l = omega (arith, l)

-- a packed answer is of the kind that it was packed with
other_kind : (kind first second third fourth wanted : ℕ) → kind < 16 → answer_kind (packed kind first second third fourth) ≡ wanted → kind ≡ wanted
other_kind kind first second third fourth wanted l h = sym (kind_packed kind first second third fourth l) ∙ h

-- only a tableau that closes gets the answer closed, and only a model that is met the answer met
pub closed_kind_law : (f : Finding Closed) → answer_kind (tableau_answer f) ≡ closed_kind → (c : Closed) × (f ≡ found c)
closed_kind_law (found c) h = (c, refl)
closed_kind_law (refused number place) h = absurd (let e = other_kind refused_kind number place 0 0 closed_kind (omega arith) h in omega (arith, e))

pub met_kind_law : (f : Finding Judged) → answer_kind (model_answer f) ≡ met_kind → (lowest : ℕ) × ((number : ℕ) × (f ≡ found (met lowest number)))
met_kind_law (found (met lowest number)) h = (lowest, (number, refl))
met_kind_law (found unmet) h = absurd (let e = other_kind unmet_kind 0 0 0 0 met_kind (omega arith) h in omega (arith, e))
met_kind_law (refused number place) h = absurd (let e = other_kind refused_kind number place 0 0 met_kind (omega arith) h in omega (arith, e))
