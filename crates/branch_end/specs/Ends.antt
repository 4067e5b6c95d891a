-- How the walk over a branch ends: the counts, as the code counts, the walk's answer, a number, and what is found then.
-- Assumes nothing.
use Rattle.std.specs.Prelude.{Bool, true, false, ◌≡◌, refl, ℕ, ◌+◌, ◌*◌, ◌/◌, ◌%◌, ◌≤◌, ◌<◌, max, eqb, ltb, Result, Ok, Err}
use Rattle.std.proofs.Common.{ap, ◌∙◌, arith, lt-ltb, le-ltb}
use Rattle.wire.specs.Choice.{pick}
use Rattle.pattern.specs.Checks.Finding.{Finding, found, refused}
use Rattle.tableau.specs.declared.finding.Counts.{Counts}
use Rattle.tableau.specs.declared.finding.Closed.{Closed}
use Rattle.tableau.specs.declared.finding.WalkRefusal.{WalkRefusal}
use Rattle.steps.specs.declared.step.StepRefusal.{StepRefusal}
use Rattle.tableau.specs.Judging.{closed_by, walk_number, walk_place}

-- a clash on a branch of so many lines, a fork
abbrev pub count_clash : ℕ → Counts → Counts
count_clash lines n = record { clashes = n.clashes + 1; forks = n.forks; most = max n.most lines }

abbrev pub count_fork : Counts → Counts
count_fork n = record { clashes = n.clashes; forks = n.forks + 1; most = n.most }

-- ---- the walk's answer, a number

-- the answers from this one on are refusals
abbrev pub first_refusal : ℕ
first_refusal = 65536

-- the answer of a walk that is refused so
abbrev pub code_of : WalkRefusal → ℕ
code_of refusal = walk_number refusal * first_refusal + walk_place refusal

-- the refusal of this number and place, 01's 19 to 26; a number that no refusal has stands for the last
abbrev pub walk_refusal_of : ℕ → ℕ → WalkRefusal
walk_refusal_of n k =
    pick (eqb n 19) (WalkRefusal.Step (StepRefusal.Rule k)) (pick (eqb n 20) (WalkRefusal.Step (StepRefusal.Field k))
    (pick (eqb n 21) (WalkRefusal.Step (StepRefusal.Fit k)) (pick (eqb n 22) (WalkRefusal.Step (StepRefusal.Fresh k))
    (pick (eqb n 23) (WalkRefusal.Lines k) (pick (eqb n 24) (WalkRefusal.Waiting k) (pick (eqb n 25) (WalkRefusal.AllClosed k)
    (WalkRefusal.StillOpen k)))))))

-- how a walk that answers so ends, with these counts: the branch is closed, and the answer is the next step; or a refusal's number, and behind
-- it the place
unfoldable pub end_of : ℕ → Counts → Result (ℕ × Counts) WalkRefusal
end_of answer c =
    pick (ltb answer first_refusal) (Ok (answer, c)) (Err (walk_refusal_of (answer / first_refusal) (answer % first_refusal)))

-- ---- what is found

abbrev pub finished_if : Bool → ℕ → ℕ → Counts → Finding Closed
finished_if true s k c = refused 25 k
finished_if false s k c = closed_by s (found c)

-- what is found where the walk over the first branch ends so, of s steps: "25, all branches already closed"
abbrev pub finished : ℕ → Result (ℕ × Counts) WalkRefusal → Finding Closed
finished s (Ok (k, c)) = finished_if (ltb k s) s k c
finished s (Err refusal) = refused (walk_number refusal) (walk_place refusal)

-- ---- laws

pub end_closed : (k : ℕ) (c : Counts) → k < first_refusal → end_of k c ≡ Ok (k, c)
unfolding end_of
end_closed k c h = rw (lt-ltb k first_refusal h) refl

pub end_refused : (answer : ℕ) (c : Counts) → first_refusal ≤ answer
    → end_of answer c ≡ Err (walk_refusal_of (answer / first_refusal) (answer % first_refusal))
unfolding end_of
end_refused answer c h = rw (le-ltb answer first_refusal h) refl

-- a refusal is that of its number and place
refusal_back : (r : WalkRefusal) → walk_refusal_of (walk_number r) (walk_place r) ≡ r
refusal_back (WalkRefusal.Step (StepRefusal.Rule k)) = refl
refusal_back (WalkRefusal.Step (StepRefusal.Field k)) = refl
refusal_back (WalkRefusal.Step (StepRefusal.Fit k)) = refl
refusal_back (WalkRefusal.Step (StepRefusal.Fresh k)) = refl
refusal_back (WalkRefusal.Lines k) = refl
refusal_back (WalkRefusal.Waiting k) = refl
refusal_back (WalkRefusal.AllClosed k) = refl
refusal_back (WalkRefusal.StillOpen k) = refl

-- every refusal has a number
some_number : (r : WalkRefusal) → 0 < walk_number r
some_number (WalkRefusal.Step (StepRefusal.Rule k)) = omega arith
some_number (WalkRefusal.Step (StepRefusal.Field k)) = omega arith
some_number (WalkRefusal.Step (StepRefusal.Fit k)) = omega arith
some_number (WalkRefusal.Step (StepRefusal.Fresh k)) = omega arith
some_number (WalkRefusal.Lines k) = omega arith
some_number (WalkRefusal.Waiting k) = omega arith
some_number (WalkRefusal.AllClosed k) = omega arith
some_number (WalkRefusal.StillOpen k) = omega arith

-- and a walk whose answer has both ends with it
pub end_code : (r : WalkRefusal) → walk_place r < first_refusal → (c : Counts) → end_of (code_of r) c ≡ Err r
end_code r h c =
    let n = walk_number r in
    let k = walk_place r in
    let number : (n * first_refusal + k) / first_refusal ≡ n = omega (arith, h) in
    let place : (n * first_refusal + k) % first_refusal ≡ k = omega (arith, h) in
    end_refused (n * first_refusal + k) c (omega (arith, some_number r)) ∙ rw (number, place) (ap Err (refusal_back r))
