-- What an answer tells, taken apart as include/riser.h does it; and that packing loses nothing.
-- Assumes nothing.
use Rattle.std.specs.Prelude.{◌≡◌, refl, List, ℕ, ◌+◌, ◌*◌, ◌/◌, ◌%◌, ◌^◌, ◌<◌, eqb}
use Rattle.std.proofs.Common.{sym, ◌∙◌, ap, arith, lit<, eq-eqb, ne_eqb, shr-shr}
use Rattle.wire.specs.Choice.{pick}
use Rattle.pattern.specs.Checks.Finding.{Finding, found, refused}
use Rattle.pattern.specs.File.Reading.{reading_of}
use Rattle.decision.specs.Judged.{Judged, met, unmet}
use Rattle.tableau.specs.declared.finding.Closed.{Closed}
use Rattle.answers.specs.Packed.{refused_kind, read_kind, met_kind, unmet_kind, closed_kind, written_kind, answer_kind, kind_packed}
use Rattle.answers.specs.Packed.{packed, refused_answer, number_answer, read_answer, model_answer, tableau_answer, written_answer}
use Rattle.answers.specs.Narrow.{Narrow, NarrowFinding, NarrowJudged, NarrowClosed, reading_narrow}

-- a finding, or nothing: an answer of a kind that the operation doesn't give tells nothing
pub data Told (A : Type 0) : Type 0 where
  told : Finding A → Told A
  nothing : Told A

-- part k (0 to 3) of an answer: 14 bits each above the lowest 4, part 0 lowest
abbrev pub part_of : ℕ → ℕ → ℕ
part_of k answer = answer / 2 ^ (4 + 14 * k) % 16384

-- this finding, if the answer is of the kind, otherwise what it tells as one of another kind
abbrev pub told_as : {A : Type 0} → ℕ → ℕ → Finding A → Told A → Told A
told_as kind answer f other = pick (eqb (answer_kind answer) kind) (told f) other

-- a refusal with the answer's number and place, if it is of that kind
abbrev pub refusal_or : {A : Type 0} → ℕ → Told A → Told A
refusal_or answer other = told_as refused_kind answer (refused (part_of 0 answer) (part_of 1 answer)) other

-- what an answer tells of a pattern, of a file that was written, of a model, of a tableau
abbrev pub unpack_number : ℕ → ℕ → Told ℕ
unpack_number kind answer = refusal_or answer (told_as kind answer (found (part_of 0 answer)) nothing)

abbrev pub unpack_read : ℕ → Told ℕ
unpack_read = unpack_number read_kind

abbrev pub unpack_written : ℕ → Told ℕ
unpack_written = unpack_number written_kind

abbrev pub unpack_model : ℕ → Told Judged
unpack_model answer =
    refusal_or answer
    (told_as met_kind answer (found (met (part_of 0 answer) (part_of 1 answer)))
    (told_as unmet_kind answer (found unmet) nothing))

abbrev pub unpack_tableau : ℕ → Told Closed
unpack_tableau answer =
    refusal_or answer
    (told_as closed_kind answer
    (found (record { steps = part_of 0 answer; clashes = part_of 1 answer; forks = part_of 2 answer; most = part_of 3 answer })) nothing)

-- ---- laws

-- the answer's kind and parts are these
record Parts (answer kind first second third fourth : ℕ) : Type 0 where
  kind_is : answer_kind answer ≡ kind
  first_is : part_of 0 answer ≡ first
  second_is : part_of 1 answer ≡ second
  third_is : part_of 2 answer ≡ third
  fourth_is : part_of 3 answer ≡ fourth

-- from bit k on, the next part and what stands above it
next_part : (answer k part above : ℕ) → Narrow part → answer / 2 ^ k ≡ part + 16384 * above
    → (answer / 2 ^ k % 16384 ≡ part) × (answer / 2 ^ (k + 14) ≡ above)
next_part answer k part above l h = (
  ap (λ (x : ℕ). x % 16384) h ∙ omega (arith, l),
  sym (shr-shr answer k 14) ∙ ap (λ (x : ℕ). x / 16384) h ∙ omega (arith, l),
)

-- what stands above the kind
above_kind : (kind above : ℕ) → kind < 16 → (kind + 16 * above) / 16 ≡ above
above_kind kind above l = omega (arith, l)

-- a packed answer has the parts that were packed
parts_packed : (kind first second third fourth : ℕ) → kind < 16 → Narrow first → Narrow second → Narrow third → Narrow fourth
    → Parts (packed kind first second third fourth) kind first second third fourth
unfolding packed
parts_packed kind first second third fourth l a b c d =
    let answer = packed kind first second third fourth in
    let p = next_part answer 4 first (second + 16384 * (third + 16384 * fourth)) a (above_kind kind _ l) in
    let q = next_part answer 18 second (third + 16384 * fourth) b p.1 in
    let r = next_part answer 32 third fourth c q.1 in
    let s = next_part answer 46 fourth 0 d (r.1 ∙ omega arith) in
    record {
      kind_is = kind_packed kind first second third fourth l;
      first_is = p.0;
      second_is = q.0;
      third_is = r.0;
      fourth_is = s.0;
    }

-- a part that isn't used
zero_narrow : Narrow 0
zero_narrow = lit< tt

refusal_unpacked : {A : Type 0} (number place : ℕ) (other : Told A) → Narrow number → Narrow place
    → refusal_or (refused_answer number place) other ≡ told (refused number place)
refusal_unpacked number place other l m =
    let h = parts_packed refused_kind number place 0 0 (lit< tt) l m zero_narrow zero_narrow in
    rw (h.kind_is, h.first_is, h.second_is)

number_unpacked : (kind : ℕ) → refused_kind < kind → kind < 16 → (f : Finding ℕ) → NarrowFinding Narrow f
    → unpack_number kind (number_answer kind f) ≡ told f
number_unpacked kind other small (found n) l =
    let h = parts_packed kind n 0 0 0 small l zero_narrow zero_narrow zero_narrow in
    rw (h.kind_is, ne_eqb kind refused_kind (λ e. omega (arith, other, e)), eq-eqb kind kind refl, h.first_is)
number_unpacked kind other small (refused number place) l = refusal_unpacked number place _ l.0 l.1

pub written_unpacked : (f : Finding ℕ) → NarrowFinding Narrow f → unpack_written (written_answer f) ≡ told f
written_unpacked = number_unpacked written_kind (omega arith) (omega arith)

pub model_unpacked : (f : Finding Judged) → NarrowFinding NarrowJudged f → unpack_model (model_answer f) ≡ told f
model_unpacked (found (met lowest number)) l =
    let h = parts_packed met_kind lowest number 0 0 (lit< tt) l.0 l.1 zero_narrow zero_narrow in
    rw (h.kind_is, h.first_is, h.second_is)
model_unpacked (found unmet) l = rw (kind_packed unmet_kind 0 0 0 0 (lit< tt))
model_unpacked (refused number place) l = refusal_unpacked number place _ l.0 l.1

pub tableau_unpacked : (f : Finding Closed) → NarrowFinding NarrowClosed f → unpack_tableau (tableau_answer f) ≡ told f
tableau_unpacked (found c) l =
    let h = parts_packed closed_kind c.steps c.clashes c.forks c.most (lit< tt) l.0 l.1 l.2 l.3 in
    rw (h.kind_is, h.first_is, h.second_is, h.third_is, h.fourth_is)
tableau_unpacked (refused number place) l = refusal_unpacked number place _ l.0 l.1

-- what reading finds is what its answer tells
pub unpack_read_law : (bs : List ℕ) → unpack_read (read_answer (reading_of bs)) ≡ told (reading_of bs)
unpack_read_law bs = number_unpacked read_kind (omega arith) (omega arith) (reading_of bs) (reading_narrow bs)

-- an answer tells one finding
pub one_told : {A : Type 0} (f g : Finding A) → told f ≡ told g → f ≡ g
one_told f g e = cc
