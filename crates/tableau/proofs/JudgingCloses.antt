-- Demand 2 for tableaux: judging gives closed exactly where it is so.
-- Assumes nothing.
use Rattle.std.specs.Prelude.{◌≡◌, not, ◌||◌, ◌↔◌, ℕ, ◌+◌, ◌*◌, ◌≤◌, eqb, ltb}
use Rattle.std.proofs.Common.{sym, ◌∙◌, subst, arith, ltb-false, ne_eqb, le-ltb, eqb-true, eq-eqb}
use Rattle.std.proofs.Math.Path.{ap}
use mathlib.Core.List.{List, [], ◌∷◌, append-nil}
use Rattle.std.proofs.Math.ListN.{length}
use Rattle.std.proofs.lemmas.Bool.{eqb-false, not-false}
use Rattle.wire.specs.Fields.{begins_with}
use Rattle.pattern.specs.Checks.Finding.{Finding, found, refused, passes, refuses, ◌then◌, onward, then_passes, refuses_if_passes, onward_found}
use Rattle.pattern.specs.Checks.Tests.{or_is_false}
use Rattle.pattern.specs.File.Types.{max_name}
use Rattle.pattern.specs.File.Reading.{count_of, pattern_check}
use Rattle.pattern.specs.File.Valid.{Valid}
use Rattle.pattern.proofs.File.Valid.{passes_valid, valid_passes}
use Rattle.pattern.specs.Meaning.Names.{uses_name}
use Rattle.lines.specs.declared.line.Line.{Line}
use Rattle.steps.specs.declared.step.Step.{Step}
use Rattle.tableau.specs.declared.finding.Counts.{Counts}
use Rattle.tableau.specs.declared.finding.Closed.{Closed}
use Rattle.tableau.specs.Run.{none}
use Rattle.tableau.specs.Closing.{Closes, most_lines, Keeps, says_clash, says_fork, steps_that}
use Rattle.tableau.specs.Judging.{mark, start_of, step_count, max_steps, steps_of, start_line, area_need, area_check, mark_check, version_check, count_check, start_check, header_check, judging_check, run_of, closed_by, judging_of}
use Rattle.tableau.specs.Closure.{ValidHeader, Closure}
use Rattle.tableau.proofs.RunCloses.{Ran, used, used_split, tallied, same_counts, closes_run, run_closes, run_done, done_runs}

-- ---- the checks
pub header_passes : (bs ts : List ℕ) → header_check bs ts ≡ passes → ValidHeader bs ts
unfolding header_check
header_passes bs ts h =
    let a = then_passes (mark_check ts) (version_check ts then count_check ts then start_check bs ts) h in
    let b = then_passes (version_check ts) (count_check ts then start_check bs ts) a.1 in
    let d = then_passes (count_check ts) (start_check bs ts) b.1 in
    let marks = or_is_false (ltb (length ts) 8) (not (begins_with mark ts)) (refuses_if_passes _ 15 0 a.0) in
    let s = step_count ts in
    let long = not (eqb (length ts) (8 + 6 * s)) in
    let counts = or_is_false (eqb s 0) (ltb max_steps s || long) (refuses_if_passes _ 17 0 d.0) in
    let sizes = or_is_false (ltb max_steps s) long counts.1 in
    let starts = or_is_false (ltb max_name (start_of ts)) (uses_name bs (start_of ts)) (refuses_if_passes _ 18 0 d.1) in
    record {
      marked = not-false _ marks.1;
      version_one = eqb-true _ _ (not-false _ (refuses_if_passes _ 16 0 b.0));
      some_step = let not_zero = eqb-false s 0 counts.0 in omega arith;
      steps_limited = ltb-false max_steps s sizes.0;
      length_is = eqb-true _ _ (not-false _ sizes.1);
      start_in_range = ltb-false max_name (start_of ts) starts.0;
      start_unused = starts.1;
    }

header_accepted : (bs ts : List ℕ) → ValidHeader bs ts → header_check bs ts ≡ passes
unfolding header_check
header_accepted bs ts h =
    let long : 8 ≤ length ts = omega (arith, h.length_is) in
    rw (
      le-ltb (length ts) 8 long,
      h.marked,
      eq-eqb _ _ h.version_one,
      ne_eqb (step_count ts) 0 (λ e. omega (arith, h.some_step)),
      le-ltb max_steps (step_count ts) h.steps_limited,
      eq-eqb _ _ h.length_is,
      le-ltb max_name (start_of ts) h.start_in_range,
      h.start_unused,
    )

-- the checks pass exactly where nothing is to be refused
pub checks_pass : (bs ts : List ℕ) (size : ℕ)
    → (judging_check bs ts size ≡ passes) ↔ (Valid bs (count_of bs) × (area_need ≤ size) × ValidHeader bs ts)
unfolding judging_check
checks_pass bs ts size = (apart, together)
  where
    apart : pattern_check bs then area_check size then header_check bs ts ≡ passes → Valid bs (count_of bs) × (area_need ≤ size) × ValidHeader bs ts
    apart h =
        let a = then_passes (pattern_check bs) (area_check size then header_check bs ts) h in
        let b = then_passes (area_check size) (header_check bs ts) a.1 in
        (passes_valid bs a.0, ltb-false size area_need (refuses_if_passes _ 9 0 b.0), header_passes bs ts b.1)

    together : Valid bs (count_of bs) × (area_need ≤ size) × ValidHeader bs ts → pattern_check bs then area_check size then header_check bs ts ≡ passes
    together h = rw (valid_passes bs (count_of bs) h.0, le-ltb size area_need h.1, header_accepted bs ts h.2)

-- ---- the steps

-- what is counted in a finding
abbrev counts_of : Closed → Counts
counts_of c = record { clashes = c.clashes; forks = c.forks; most = c.most }

abbrev closed_with : ℕ → Counts → Closed
closed_with s n = record { steps = s; clashes = n.clashes; forks = n.forks; most = n.most }

closed_by_law : (s : ℕ) (f : Finding Counts) (c : Closed) → (closed_by s f ≡ found c) ↔ ((c.steps ≡ s) × (f ≡ found (counts_of c)))
closed_by_law s f c = (apart f, together)
  where
    apart : (f : Finding Counts) → closed_by s f ≡ found c → (c.steps ≡ s) × (f ≡ found (counts_of c))
    apart (found n) h =
        let e : closed_with s n ≡ c = cc in
        (ap (λ (d : Closed). d.steps) (sym e), ap (λ (d : Closed). found (counts_of d)) e)
    apart (refused number place) h = (cc, cc)

    together : (c.steps ≡ s) × (f ≡ found (counts_of c)) → closed_by s f ≡ found c
    together h = rw h.1 (ap (λ (r : ℕ). found (closed_with r (counts_of c))) (sym h.0))

module _ (bs ts : List ℕ) where
  -- line 0
  abbrev first : List Line
  first = start_line bs ts ∷ []

  -- steps that get through close the branch that has line 0, and are counted
  abbrev Counted : Counts → Type 0
  Counted n =
      ((d : Closes bs first (steps_of ts) []) × (Keeps 0 d × (n.most ≡ most_lines d))) × (n.clashes ≡ steps_that says_clash (steps_of ts))
      × (n.forks ≡ steps_that says_fork (steps_of ts))

  -- where no step is left over, the steps that close the branch are all
  pub all_used : (d : Closes bs first (steps_of ts) []) → used d ≡ steps_of ts
  all_used d = sym (used_split d ∙ append-nil (used d))

  run_of_closes : (n : Counts) → run_of bs ts ≡ found n → Counted n
  unfolding run_of
  run_of_closes n h = go r.left r.closes r.keeps (run_done bs r.left _ _ n r.onwards)
    where
      r : Ran bs first [] (steps_of ts) 0 none n
      r = run_closes bs first [] (steps_of ts) 0 none n h

      go : (left : List Step) (d : Closes bs first (steps_of ts) left) → Keeps 0 d
          → (left ≡ []) × (tallied none (used d) (most_lines d) ≡ n) → Counted n
      go [] d keeps e =
          let all = all_used d in (
            (d, (keeps, sym (omega (arith, ap (λ (m : Counts). m.most) e.1)))),
            omega (arith, ap (λ (m : Counts). m.clashes) e.1, ap (steps_that says_clash) all),
            omega (arith, ap (λ (m : Counts). m.forks) e.1, ap (steps_that says_fork) all),
          )
      go (s ∷ left) d keeps e = absurd (omega (arith, ap length e.0))

  closes_run_of : (n : Counts) → Counted n → run_of bs ts ≡ found n
  unfolding run_of
  closes_run_of n h =
      let d = h.0.0 in
      let all = all_used d in
      closes_run bs d [] h.0.1.0 0 none
      ∙ done_runs bs (0 + length (used d)) (tallied none (used d) (most_lines d))
      ∙ ap found (same_counts (tallied none (used d) (most_lines d)) n (omega (arith, h.1, ap (steps_that says_clash) all))
      (omega (arith, h.2, ap (steps_that says_fork) all))
      (omega (arith, h.0.1.1)))

-- Demand 2 for tableaux: judging gives closed with these counts exactly where it is so.
pub judging_closes : (bs ts : List ℕ) (size : ℕ) (c : Closed) → (judging_of bs ts size ≡ found c) ↔ Closure bs ts size c
unfolding judging_of
judging_closes bs ts size c = (apart, together)
  where
    apart : onward (judging_check bs ts size) (closed_by (step_count ts) (run_of bs ts)) ≡ found c → Closure bs ts size c
    apart h =
        let r = onward_found (judging_check bs ts size) (closed_by (step_count ts) (run_of bs ts)) c h in
        let ok = (checks_pass bs ts size).0 r.0 in
        let by = (closed_by_law (step_count ts) (run_of bs ts) c).0 r.1 in
        let w = run_of_closes bs ts (counts_of c) by.1 in
        record {
          pattern_valid = ok.0;
          area_long = ok.1;
          header_valid = ok.2;
          closes = w.0.0;
          keeps = w.0.1.0;
          most_is = w.0.1.1;
          steps_is = by.0;
          clashes_is = w.1;
          forks_is = w.2;
        }

    together : Closure bs ts size c → onward (judging_check bs ts size) (closed_by (step_count ts) (run_of bs ts)) ≡ found c
    together h =
        let w = closes_run_of bs ts (counts_of c) ((h.closes, (h.keeps, h.most_is)), h.clashes_is, h.forks_is) in
        rw ((checks_pass bs ts size).1 (h.pattern_valid, h.area_long, h.header_valid))
        ((closed_by_law (step_count ts) (run_of bs ts) c).1 (h.steps_is, w))

-- a finding that judging gives says what it says
pub finding_closes : (bs ts : List ℕ) (size : ℕ) (f : Finding Closed) → f ≡ judging_of bs ts size → (c : Closed)
    → (f ≡ found c) ↔ Closure bs ts size c
finding_closes bs ts size f e c = subst (λ (g : Finding Closed). (g ≡ found c) ↔ Closure bs ts size c) (sym e) (judging_closes bs ts size c)

-- what is found where the checks pass, and where they don't
pub judging_runs : (bs ts : List ℕ) (size : ℕ) → judging_check bs ts size ≡ passes
    → judging_of bs ts size ≡ closed_by (step_count ts) (run_of bs ts)
unfolding judging_of
judging_runs bs ts size h = rw h

pub judging_refuses : (bs ts : List ℕ) (size number place : ℕ) → judging_check bs ts size ≡ refuses number place
    → judging_of bs ts size ≡ refused number place
unfolding judging_of
judging_refuses bs ts size number place h = rw h
