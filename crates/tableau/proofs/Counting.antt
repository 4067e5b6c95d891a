-- What the counts of a closed tableau say of one another: a clash more than forks, and 01's bound of the lines on a branch.
-- Assumes nothing.
use Rattle.std.specs.Prelude.{◌≡◌, refl, Bool, true, false, List, [], ◌∷◌, ℕ, zero, suc, ◌+◌, ◌-◌, ◌*◌, ◌≤◌, eqb, length}
use Rattle.std.proofs.Common.{ap, arith, length-append}
use Rattle.lines.specs.declared.line.Line.{Line}
use Rattle.steps.specs.declared.step.Step.{Step}
use Rattle.rules.specs.declared.conclusion.Conclusion.{Conclusion}
use Rattle.steps.specs.Steps.{steps_from}
use Rattle.tableau.specs.declared.finding.Closed.{Closed}
use Rattle.rules.specs.Sides.{sides}
use Rattle.tableau.specs.Run.{longest, one_if, at_clash}
use Rattle.tableau.specs.Closing.{Closes, CloseEach, step, none, side, most_lines, most_of_each, says_clash, says_fork, steps_that}
use Rattle.tableau.specs.Judging.{step_count, step_bytes}
use Rattle.tableau.proofs.RunCloses.{used, used_by_each, counts_as, steps_append}
use Rattle.tableau.specs.Closure.{Closure}
use Rattle.tableau.proofs.JudgingCloses.{all_used}

-- what a test counts, and what a clash does
pub one_at_most : (t : Bool) → one_if t ≤ 1
one_at_most true = omega arith
one_at_most false = omega arith

pub clash_within : (lines : ℕ) (news : List (List Line)) → at_clash lines news ≤ lines
clash_within lines [] = omega arith
clash_within lines (new ∷ more) = omega arith

-- no more steps say so than there are
steps_within : (says : ℕ → Bool) (ss : List Step) → steps_that says ss ≤ length ss
unfolding steps_that
steps_within says [] = omega arith
steps_within says (s ∷ ss) = omega (arith, one_at_most (says s.rule), steps_within says ss)

-- a step adds two lines at most, and none at a clash
two_at_most : (c : Conclusion) → longest (sides c) + 2 * one_if (eqb (length (sides c)) 0) ≤ 2
two_at_most (Conclusion.One l) = omega arith
two_at_most (Conclusion.Two l m) = omega arith
two_at_most (Conclusion.New i l m) = omega arith
two_at_most (Conclusion.Fork l r) = omega arith
two_at_most Conclusion.Clash = omega arith

-- sides one more than forks and none at a clash: what the counts of a step say of its sides
side_count_law : (c : Conclusion) → length (sides c) + one_if (eqb (length (sides c)) 0) ≡ one_if (eqb (length (sides c)) 2) + 1
side_count_law (Conclusion.One l) = refl
side_count_law (Conclusion.Two l m) = refl
side_count_law (Conclusion.New i l m) = refl
side_count_law (Conclusion.Fork l r) = refl
side_count_law Conclusion.Clash = refl

module _ (bs : List ℕ) where
  mutual
    unfolding steps_that

    -- a branch closes with a clash more than forks
    pub one_more : {b : List Line} {ss left : List Step} (d : Closes bs b ss left) → steps_that says_clash (used d) ≡ steps_that says_fork (used d) + 1
    one_more (step {b} {s} c f e) = let r = counts_as bs b s c f in omega (arith, r.0, r.1, side_count_law c, one_more_each e)

    -- sides close with as many clashes more than forks as they are
    one_more_each : {b : List Line} {news : List (List Line)} {ss left : List Step} (e : CloseEach bs b news ss left)
        → steps_that says_clash (used_by_each e) ≡ steps_that says_fork (used_by_each e) + length news
    one_more_each none = omega arith
    one_more_each (side d e) =
        omega (
          arith,
          one_more d,
          one_more_each e,
          steps_append says_clash (used d) (used_by_each e),
          steps_append says_fork (used d) (used_by_each e),
        )

  mutual
    unfolding steps_that

    -- a step that is no clash brings two lines at most to a branch
    pub most_bound : {b : List Line} {ss left : List Step} (d : Closes bs b ss left)
        → most_lines d ≤ length b + 2 * (length (used d) - steps_that says_clash (used d))
    most_bound (step {b} {s} c f e) =
        let r = counts_as bs b s c f in
        omega (
          arith,
          r.1,
          clash_within (length b) (sides c),
          two_at_most c,
          steps_within says_clash (used_by_each e),
          most_bound_each e,
        )

    most_bound_each : {b : List Line} {news : List (List Line)} {ss left : List Step} (e : CloseEach bs b news ss left)
        → most_of_each e ≤ length b + longest news + 2 * (length (used_by_each e) - steps_that says_clash (used_by_each e))
    most_bound_each none = omega arith
    most_bound_each (side {b} {new} d e) =
        rw (steps_append says_clash (used d) (used_by_each e), length-append (used d) (used_by_each e))
        (omega (
          arith,
          rw (length-append b new) at (most_bound d),
          most_bound_each e,
          steps_within says_clash (used d),
          steps_within says_clash (used_by_each e),
        ))

-- ---- of a finding
-- the file has as many steps as it says
length_steps : (ss : List ℕ) (k left : ℕ) → length (steps_from ss k left) ≡ left
unfolding steps_from
length_steps ss k zero = refl
length_steps ss k (suc left) = ap suc (length_steps ss (suc k) left)

module _ {bs ts : List ℕ} {size : ℕ} {c : Closed} (h : Closure bs ts size c) where
  -- a clash more than forks
  pub clashes_forks : c.clashes ≡ c.forks + 1
  clashes_forks =
      let all = all_used bs ts h.closes in
      omega (arith, h.clashes_is, h.forks_is, one_more bs h.closes, ap (steps_that says_clash) all, ap (steps_that says_fork) all)

  -- "Most lines is at most 1 + 2 × (steps − clashes)."
  pub most_lines_law : c.most ≤ 1 + 2 * (c.steps - c.clashes)
  most_lines_law =
      let all = all_used bs ts h.closes in
      omega (
        arith,
        h.most_is,
        h.steps_is,
        h.clashes_is,
        length_steps (step_bytes ts) 0 (step_count ts),
        most_bound bs h.closes,
        ap length all,
        ap (steps_that says_clash) all,
      )
