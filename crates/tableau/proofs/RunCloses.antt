-- Running the steps finds what closes: a run over an open branch gets through exactly where steps close the branch, limits kept, and what
-- follows is the run over the branches behind it.
-- Assumes nothing.
use Rattle.std.specs.Prelude.{◌≡◌, Bool, true, false, eqb}
use Rattle.std.proofs.Math.Path.{refl, ap}
use Rattle.std.proofs.Common.{sym, ◌∙◌, subst, arith, not-suc-le-zero, le_of_suc-le-suc, le_refl, length-append}
use Rattle.std.proofs.lemmas.Bool.{false≢true}
use mathlib.Core.List.{List, [], ◌∷◌, ◌++◌, append_assoc}
use Prim.Native.Nat.{ℕ, zero, suc, ◌+◌, ◌-◌, ◌≤◌, max}
use Rattle.std.proofs.Math.ListN.{length}
use borrow.Author.Tests.{ltb-false, le-ltb}
use Rattle.pattern.specs.Checks.Finding.{Finding, found, refused, onward, thereupon, then_passes, refuses_if_passes, onward_found}
use Rattle.lines.specs.declared.line.Line.{Line}
use Rattle.rules.specs.declared.conclusion.Conclusion.{Conclusion}
use Rattle.rules.specs.Sides.{sides}
use Rattle.steps.specs.declared.step.Step.{Step}
use Rattle.steps.specs.Steps.{stepping, Follows, found_follows, follows_found}
use Rattle.soundness.specs.Shapes.{follows_sides}
use Rattle.tableau.specs.declared.finding.Counts.{Counts}
use Rattle.tableau.specs.Run.{max_lines, max_waiting, longest, further, lines_check, waiting_check, limits_check, branches, one_if, at_clash, counted, run}
use Rattle.tableau.specs.Closing.{Closes, CloseEach, step, none, side, most_lines, most_of_each, Keeps, KeepsEach, says_clash, says_fork, steps_that}

-- ---- counting

-- a step counts as its rule says, and that is by the sides of what it concludes
pub counts_as : (bs : List ℕ) (b : List Line) (s : Step) (c : Conclusion) → Follows bs b s c
    → (one_if (says_fork s.rule) ≡ one_if (eqb (length (sides c)) 2)) × (one_if (says_clash s.rule) ≡ one_if (eqb (length (sides c)) 0))
counts_as bs b s c f =
    let h = sym (follows_sides bs b s c f) in
    (ap (λ (k : ℕ). one_if (eqb k 2)) h, ap (λ (k : ℕ). one_if (eqb k 0)) h)

-- the steps of two parts that say so are those of the one and of the other
pub steps_append : (says : ℕ → Bool) (left right : List Step) → steps_that says (left ++ right) ≡ steps_that says left + steps_that says right
unfolding steps_that
steps_append says [] right = omega arith
steps_append says (s ∷ ss) right = omega (arith, steps_append says ss right)

-- the counts after the steps that close a branch
abbrev pub tallied : Counts → List Step → ℕ → Counts
tallied n used most =
    record {
      clashes = n.clashes + steps_that says_clash used;
      forks = n.forks + steps_that says_fork used;
      most = max n.most most;
    }

-- counts are the same where each is
pub same_counts : (n m : Counts) → n.clashes ≡ m.clashes → n.forks ≡ m.forks → n.most ≡ m.most → n ≡ m
same_counts n m p q r = λ k. record { clashes = p k; forks = q k; most = r k }

-- no step; one part of the steps after another
tallied_none : (n : Counts) → n ≡ tallied n [] 0
unfolding steps_that
tallied_none n = same_counts _ _ (omega arith) (omega arith) (omega arith)

tallied_append : (n : Counts) (first rest : List Step) (most mosts : ℕ)
    → tallied (tallied n first most) rest mosts ≡ tallied n (first ++ rest) (max most mosts)
tallied_append n first rest most mosts =
    same_counts _ _ (omega (arith, steps_append says_clash first rest)) (omega (arith, steps_append says_fork first rest)) (omega arith)

module _ (bs : List ℕ) where
  -- a step, and those that close the sides of what it concludes
  tallied_step : (b : List Line) (s : Step) (c : Conclusion) → Follows bs b s c → (n : Counts) (ss : List Step) (most : ℕ)
      → tallied (counted (length b) (sides c) n) ss most ≡ tallied n (s ∷ ss) (max (at_clash (length b) (sides c)) most)
  unfolding steps_that
  tallied_step b s c f n ss most =
      let h = counts_as bs b s c f in
      same_counts _ _ (omega (arith, h.1)) (omega (arith, h.0)) (omega arith)

-- ---- one step of a run

-- a refusal is no finding
refused_found : {A : Type 0} {number place : ℕ} {value : A} → refused number place ≡ found value → ⊥
refused_found h = let z : false ≡ true = cc in false≢true z

module _ (bs : List ℕ) where
  -- what is run behind a step that concludes c, and where the limits allow it
  abbrev after : List Line → List (List Line) → List Step → ℕ → Counts → Conclusion → Finding Counts
  after b waiting ss k n c = run bs (branches b (sides c) ++ waiting) ss (suc k) (counted (length b) (sides c) n)

  abbrev limited : List Line → List (List Line) → List Step → ℕ → Counts → Conclusion → Finding Counts
  limited b waiting ss k n c = onward (limits_check b (length waiting) c k) (after b waiting ss k n c)

  -- a step that follows a rule within the limits is taken
  run_step : (b : List Line) (s : Step) (c : Conclusion) (waiting : List (List Line)) (ss : List Step) (k : ℕ) (n : Counts) → Follows bs b s c
      → length b + longest (sides c) ≤ max_lines → further c ≤ max_waiting - length waiting
      → run bs (b ∷ waiting) (s ∷ ss) k n ≡ after b waiting ss k n c
  unfolding run
  run_step b s c waiting ss k n f short room =
      ap (λ (g : Finding Conclusion). thereupon g (limited b waiting ss k n)) (follows_found bs b s c f k)
      ∙ rw (le-ltb max_lines (length b + longest (sides c)) short, le-ltb (max_waiting - length waiting) (further c) room) refl

  -- and a run that gets through takes its first step so
  pub record Stepped (b : List Line) (s : Step) (waiting : List (List Line)) (ss : List Step) (k : ℕ) (n n' : Counts) : Type 0 where
    pub conclusion : Conclusion
    pub follows : Follows bs b s conclusion
    pub short : length b + longest (sides conclusion) ≤ max_lines
    pub room : further conclusion ≤ max_waiting - length waiting
    pub onwards : after b waiting ss k n conclusion ≡ found n'

  run_stepped : (b : List Line) (s : Step) (waiting : List (List Line)) (ss : List Step) (k : ℕ) (n n' : Counts)
      → run bs (b ∷ waiting) (s ∷ ss) k n ≡ found n' → Stepped b s waiting ss k n n'
  unfolding run
  run_stepped b s waiting ss k n n' h = go (stepping bs b s k) refl h
    where
      go : (f : Finding Conclusion) → stepping bs b s k ≡ f
          → thereupon f (limited b waiting ss k n) ≡ found n' → Stepped b s waiting ss k n n'
      go (found c) e q =
          let r = onward_found (limits_check b (length waiting) c k) (after b waiting ss k n c) n' q in
          let p = then_passes (lines_check b c k) (waiting_check (length waiting) c k) r.0 in
          record {
            conclusion = c;
            follows = found_follows bs b s c k e;
            short = ltb-false max_lines (length b + longest (sides c)) (refuses_if_passes _ 23 k p.0);
            room = ltb-false (max_waiting - length waiting) (further c) (refuses_if_passes _ 24 k p.1);
            onwards = r.1;
          }
      go (refused number place) e q = absurd (refused_found q)

-- ---- the steps that close a branch
abbrev mutual
  pub used : {bs : List ℕ} {b : List Line} {ss left : List Step} → Closes bs b ss left → List Step
  used (step {s = s} c f e) = s ∷ used_by_each e

  pub used_by_each : {bs : List ℕ} {b : List Line} {news : List (List Line)} {ss left : List Step} → CloseEach bs b news ss left → List Step
  used_by_each none = []
  used_by_each (side d e) = used d ++ used_by_each e

mutual
  pub used_split : {bs : List ℕ} {b : List Line} {ss left : List Step} (d : Closes bs b ss left) → ss ≡ used d ++ left
  used_split (step {s = s} c f e) = ap (λ (l : List Step). s ∷ l) (each_split e)

  each_split : {bs : List ℕ} {b : List Line} {news : List (List Line)} {ss left : List Step} (e : CloseEach bs b news ss left)
      → ss ≡ used_by_each e ++ left
  each_split none = refl
  each_split {left = left} (side d e) =
      used_split d ∙ ap (λ (l : List Step). used d ++ l) (each_split e) ∙ sym (append_assoc (used d) (used_by_each e) left)

-- ---- what closes a branch is run

-- the branches that wait behind a side
waiting_length : (b : List Line) (more waiting : List (List Line)) → length (branches b more ++ waiting) ≡ length waiting + length more
waiting_length b [] waiting = omega arith
waiting_length b (new ∷ more) waiting = ap suc (waiting_length _ more waiting) ∙ place
  where
    place : suc (length waiting + length more) ≡ length waiting + suc (length more)
    place = omega arith

module _ (bs : List ℕ) where
  went_on : (waiting : List (List Line)) (left : List Step) (j k : ℕ) (n m : Counts) → j ≡ k → n ≡ m
      → run bs waiting left j n ≡ run bs waiting left k m
  went_on waiting left j k n m p q = λ i. run bs waiting left (p i) (q i)

  mutual
    -- steps that close a branch bring a run from it to the branches behind it
    pub closes_run : {b : List Line} {ss left : List Step} (d : Closes bs b ss left) (waiting : List (List Line))
        → Keeps (length waiting) d → (k : ℕ) (n : Counts)
        → run bs (b ∷ waiting) ss k n ≡ run bs waiting left (k + length (used d)) (tallied n (used d) (most_lines d))
    closes_run {left = left} (step {b} {s} {ss} c f e) waiting keeps k n =
        run_step bs b s c waiting ss k n f keeps.0 keeps.1
        ∙ each_run e waiting keeps.2 (suc k) (counted (length b) (sides c) n)
        ∙ went_on waiting left _ _ _ _ (omega arith) (tallied_step bs b s c f n (used_by_each e) (most_of_each e))

    -- steps that close each side bring it from them to the branches behind them
    each_run : {b : List Line} {news : List (List Line)} {ss left : List Step} (e : CloseEach bs b news ss left) (waiting : List (List Line))
        → KeepsEach (length waiting) e → (k : ℕ) (n : Counts)
        → run bs (branches b news ++ waiting) ss k n ≡ run bs waiting left (k + length (used_by_each e)) (tallied n (used_by_each e) (most_of_each e))
    each_run {left = left} none waiting keeps k n = went_on waiting left _ _ _ _ (omega arith) (tallied_none n)
    each_run {left = left} (side {b} {new} {more} d e) waiting keeps k n =
        closes_run d (branches b more ++ waiting) (subst (λ (w : ℕ). Keeps w d) (sym (waiting_length b more waiting)) keeps.0) k n
        ∙ each_run e waiting keeps.1 (k + length (used d)) (tallied n (used d) (most_lines d))
        ∙ went_on waiting left _ _ _ _ (omega (arith, length-append (used d) (used_by_each e)))
        (tallied_append n (used d) (used_by_each e) (most_lines d) (most_of_each e))

-- ---- what a run that gets through has closed

-- steps close the first branch, limits kept, and over those that are left the run goes on
pub record Ran (bs : List ℕ) (b : List Line) (waiting : List (List Line)) (ss : List Step) (k : ℕ) (n n' : Counts) : Type 0 where
  pub left : List Step
  pub closes : Closes bs b ss left
  pub keeps : Keeps (length waiting) closes
  pub onwards : run bs waiting left (k + length (used closes)) (tallied n (used closes) (most_lines closes)) ≡ found n'

-- the same of each side of a branch
record RanEach (bs : List ℕ) (b : List Line) (news waiting : List (List Line)) (ss : List Step) (k : ℕ) (n n' : Counts) : Type 0 where
  left : List Step
  closes : CloseEach bs b news ss left
  keeps : KeepsEach (length waiting) closes
  onwards : run bs waiting left (k + length (used_by_each closes)) (tallied n (used_by_each closes) (most_of_each closes)) ≡ found n'

module _ (bs : List ℕ) where
  -- every run over up to so many steps that gets through
  abbrev Within : ℕ → Type 0
  Within size =
      (b : List Line) (waiting : List (List Line)) (ss : List Step) → length ss ≤ size → (k : ℕ) (n n' : Counts)
      → run bs (b ∷ waiting) ss k n ≡ found n' → Ran bs b waiting ss k n n'

  -- side by side, each with the steps that the ones before it leave
  ran_each : (size : ℕ) → Within size → (b : List Line) (news waiting : List (List Line)) (ss : List Step) → length ss ≤ size
      → (k : ℕ) (n n' : Counts) → run bs (branches b news ++ waiting) ss k n ≡ found n' → RanEach bs b news waiting ss k n n'
  ran_each size within b [] waiting ss l k n n' h =
      record {
        left = ss;
        closes = none;
        keeps = tt;
        onwards = went_on bs waiting ss _ _ _ _ (omega arith) (sym (tallied_none n)) ∙ h;
      }
  ran_each size within b (new ∷ more) waiting ss l k n n' h =
      let r = within (b ++ new) (branches b more ++ waiting) ss l k n n' h in
      let d = r.closes in
      let fewer : length r.left ≤ size = omega (arith, l, ap length (used_split d) ∙ length-append (used d) r.left) in
      let q = ran_each size within b more waiting r.left fewer _ _ n' r.onwards in
      let e = q.closes in
      record {
        left = q.left;
        closes = side d e;
        keeps = (subst (λ (w : ℕ). Keeps w d) (waiting_length b more waiting) r.keeps, q.keeps);
        onwards =
            went_on bs waiting q.left _ _ _ _ (omega (arith, length-append (used d) (used_by_each e)))
            (sym (tallied_append n (used d) (used_by_each e) (most_lines d) (most_of_each e)))
            ∙ q.onwards;
      }

  -- a step, and what closes its sides
  ran_step : (size : ℕ) → Within size → (b : List Line) (s : Step) (waiting : List (List Line)) (ss : List Step) → length ss ≤ size
      → (k : ℕ) (n n' : Counts) → Stepped bs b s waiting ss k n n' → Ran bs b waiting (s ∷ ss) k n n'
  ran_step size within b s waiting ss l k n n' r =
      let c = r.conclusion in
      let q = ran_each size within b (sides c) waiting ss l _ _ n' r.onwards in
      let e = q.closes in
      record {
        left = q.left;
        closes = step c r.follows e;
        keeps = (r.short, r.room, q.keeps);
        onwards =
            went_on bs waiting q.left _ _ _ _ (omega arith) (sym (tallied_step bs b s c r.follows n (used_by_each e) (most_of_each e)))
            ∙ q.onwards;
      }

  ran_within : (size : ℕ) → Within size
  unfolding run
  ran_within zero b waiting [] l k n n' h = absurd (refused_found h)
  ran_within zero b waiting (s ∷ ss) l k n n' h = absurd (not-suc-le-zero l)
  ran_within (suc size) b waiting [] l k n n' h = absurd (refused_found h)
  ran_within (suc size) b waiting (s ∷ ss) l k n n' h =
      ran_step size (ran_within size) b s waiting ss (le_of_suc-le-suc l) k n n' (run_stepped bs b s waiting ss k n n' h)

  -- a run that gets through has closed its first branch
  pub run_closes : (b : List Line) (waiting : List (List Line)) (ss : List Step) (k : ℕ) (n n' : Counts)
      → run bs (b ∷ waiting) ss k n ≡ found n' → Ran bs b waiting ss k n n'
  run_closes b waiting ss k n n' h = ran_within (length ss) b waiting ss (le_refl (length ss)) k n n' h

  -- and has used all steps where no branch is left
  pub run_done : (rest : List Step) (k : ℕ) (n n' : Counts) → run bs [] rest k n ≡ found n' → (rest ≡ []) × (n ≡ n')
  unfolding run
  run_done [] k n n' h = (refl, cc)
  run_done (s ∷ ss) k n n' h = absurd (refused_found h)

  -- with no branch and no step left a run is through
  pub done_runs : (k : ℕ) (n : Counts) → run bs [] [] k n ≡ found n
  unfolding run
  done_runs k n = refl
