-- The walk over a branch follows `run`: a law for each way out of its functions.
-- Assumes nothing.
use Rattle.std.specs.Prelude.{Bool, true, false, List, [], ◌∷◌, ◌++◌, ◌≡◌, refl, ℕ, suc, ◌+◌, ◌-◌, ◌*◌, ◌≤◌, ◌<◌, ltb, length, Result, Ok, Err}
use Rattle.std.proofs.Common.{sym, ap, ◌∙◌, subst, le_refl, le_trans, add-zero, arith, ltb-true, ltb-false}
use Rattle.std.proofs.Math.Nat.{sub-zero, max-le}
use Rattle.pattern.specs.Checks.Finding.{found, refused}
use Rattle.wire.specs.Cleared.{cleared}
use Rattle.pattern.specs.declared.types.Name.{Name}
use Rattle.pattern.specs.declared.types.Sign.{Sign}
use Rattle.pattern.specs.File.Reading.{count_of, reading_of}
use Rattle.pattern.specs.File.Valid.{Valid}
use Rattle.pattern.proofs.File.Valid.{valid}
use Rattle.lines.specs.declared.line.Line.{Line}
use Rattle.steps.specs.declared.step.Step.{Step}
use Rattle.rules.specs.declared.conclusion.Conclusion.{Conclusion}
use Rattle.steps.specs.declared.step.StepRefusal.{StepRefusal}
use Rattle.lines.specs.Lines.{has}
use Rattle.lines.specs.Formed.{Formed}
use Rattle.branch_lines.specs.Stored.{line_at, lines_from, put_line, length_put, put_same, put_other, length_lines, lines_same, push_line}
use Rattle.steps.specs.Steps.{steps_from}
use Rattle.tableau.specs.declared.finding.Counts.{Counts}
use Rattle.tableau.specs.declared.finding.WalkRefusal.{WalkRefusal}
use Rattle.branch_walk.specs.declared.straight.Stop.{Stop}
use Rattle.branch_end.specs.Ends.{count_clash, count_fork, finished_if, finished}
use Rattle.tableau.specs.Run.{run, max_waiting, counted, none}
use Rattle.tableau.proofs.RunCloses.{same_counts}
use Rattle.tableau.specs.Judging.{max_steps, area_need, closed_by, clears, area_after, walk_number}
use Rattle.branch_walk.specs.Straight.{WalkLent, remaining, Leaves, Onto, Stops}
use Rattle.branch_walk.specs.StraightLaws.{steps_next, steps_none, run_goes_on, run_crowded, concludes_formed, lent_kept, lent_more}
use Rattle.branch_walk.specs.Walk.{Bounded, ClosedAt, WalkSays, Walks}

-- ---- the counts

count_clash_law : (lines : ℕ) (c : Counts) → counted lines [] c ≡ count_clash lines c
count_clash_law lines c = same_counts _ _ (omega arith) (omega arith) (omega arith)

count_fork_law : (lines : ℕ) (l r : Line) (c : Counts) → counted lines ((l ∷ []) ∷ (r ∷ []) ∷ []) c ≡ count_fork c
count_fork_law lines l r c = same_counts _ _ (omega arith) (omega arith) (omega arith)

-- ---- no branch is open

-- "25, all branches already closed", and nothing left
run_closed : (bs ss : List ℕ) (s k : ℕ) (c : Counts) → k < s → remaining bs ss s k [] c ≡ refused 25 k
unfolding run
run_closed bs ss s k c h = ap (λ (l : List Step). run bs [] l k c) (steps_next ss s k h)

run_found : (bs ss : List ℕ) (s k : ℕ) (c : Counts) → s ≤ k → remaining bs ss s k [] c ≡ found c
unfolding run
run_found bs ss s k c h = ap (λ (l : List Step). run bs [] l k c) (steps_none ss s k h)

-- ---- the sides of a fork

-- the lines before a fork, after a side of it
side_leaves : (xs : List ℕ) (len : ℕ) (l : Line) (ys : List ℕ) → Leaves (put_line xs len l) (len + 1) ys → Leaves xs len ys
side_leaves xs len l ys h = λ j i. h j (omega (arith, i)) ∙ put_other xs len j l (λ e. omega (arith, i, e))

-- one more waits
one_waits : {waiting i : ℕ} → i ≡ waiting → suc i ≡ waiting + 1
one_waits e = omega (arith, e)

module _ {bs ss : List ℕ} {s : ℕ} where
  -- ---- a branch and its sides

  -- the straight part is refused
  pub walk_refused : {xs : List ℕ} {k len waiting : ℕ} {c : Counts} {refusal : WalkRefusal} {ys : List ℕ}
      → Stops bs ss s xs k len (Err refusal) ys → Walks bs ss s xs k len waiting c (Err refusal) ys
  walk_refused {c = c} h = record { says = λ ws w. h.says ws c }

  -- the branch ends with a clash
  pub walk_clash : {xs : List ℕ} {k len waiting : ℕ} {c : Counts} {k' len' : ℕ} {ys : List ℕ}
      → Bounded k c → Stops bs ss s xs k len (Ok (Stop.Clash k' len')) ys
      → Walks bs ss s xs k len waiting c (Ok (k' + 1, count_clash len' c)) ys
  walk_clash {xs} {k} {len} {waiting} {c} {k'} {len'} {ys} few h =
      let onto = h.says.0 in
      let concludes = h.says.1 in
      record {
        says = record {
          later = omega (arith, onto.later);
          steps_left = omega (arith, concludes.0);
          bounded = record {
            few_clashes = omega (arith, onto.later, few.few_clashes);
            few_forks = omega (arith, onto.later, few.few_forks);
            few_most = max-le few.few_most onto.lent.few_lines;
          };
          leaves = onto.leaves;
          answers = λ ws w.
              onto.same ws c
              ∙ run_goes_on bs ss s k' (lines_from ys 0 len') ws c Conclusion.Clash concludes.0 concludes.1
              (rw (length_lines ys 0 len', add-zero len') onto.lent.few_lines) (omega arith)
              ∙ ap (remaining bs ss s (k' + 1) ws) (count_clash_law (length (lines_from ys 0 len')) c)
              ∙ ap (λ (m : ℕ). remaining bs ss s (k' + 1) ws (count_clash m c)) (length_lines ys 0 len');
        };
      }

  -- "24, fork with 64 right sides already waiting"
  pub walk_crowded : {xs : List ℕ} {k len waiting : ℕ} {c : Counts} {k' len' : ℕ} {l r : Line}
      {ys : List ℕ} → Stops bs ss s xs k len (Ok (Stop.Fork k' len' l r)) ys → max_waiting ≤ waiting
      → Walks bs ss s xs k len waiting c (Err (WalkRefusal.Waiting k')) ys
  walk_crowded {xs} {k} {len} {waiting} {c} {k'} {len'} {l} {r} {ys} h m =
      let onto = h.says.0 in
      let concludes = h.says.1.0 in
      record {
        says = λ ws w.
            onto.same ws c
            ∙ run_crowded bs ss s k' (lines_from ys 0 len') ws c (Conclusion.Fork l r) concludes.0 concludes.1
            (rw (length_lines ys 0 len') (omega (arith, h.says.1.1))) (rw w (omega (arith, m)));
      }

  -- the left side is lent the branch with its line
  pub left_lent : {xs : List ℕ} {k len : ℕ} {k' len' : ℕ} {l r : Line} {ys : List ℕ}
      → Stops bs ss s xs k len (Ok (Stop.Fork k' len' l r)) ys → WalkLent bs ss s (put_line ys len' l) (k' + 1) (len' + 1)
  left_lent {k' = k'} {l = l} {r = r} h =
      let lent = h.says.0.lent in
      let concludes = h.says.1.0 in
      lent_more lent l (k' + 1) (concludes_formed lent (Conclusion.Fork l r) concludes.1).0.0 h.says.1.1 (omega (arith, concludes.0))

  -- what is counted at the left side
  pub fork_bounded : {xs : List ℕ} {k len : ℕ} {c : Counts} {k' len' : ℕ} {l r : Line} {ys : List ℕ}
      → Bounded k c → Stops bs ss s xs k len (Ok (Stop.Fork k' len' l r)) ys → Bounded (k' + 1) (count_fork c)
  fork_bounded few h =
      let later = h.says.0.later in
      record {
        few_clashes = omega (arith, later, few.few_clashes);
        few_forks = omega (arith, later, few.few_forks);
        few_most = few.few_most;
      }

  -- the right side, once the left is closed, is lent the branch with its own line
  pub right_lent : {xs : List ℕ} {k len : ℕ} {k' len' : ℕ} {l r : Line} {ys : List ℕ}
      → Stops bs ss s xs k len (Ok (Stop.Fork k' len' l r)) ys → {waiting : ℕ} {c : Counts} {next : ℕ} {c' : Counts} {zs : List ℕ}
      → Walks bs ss s (put_line ys len' l) (k' + 1) (len' + 1) waiting c (Ok (next, c')) zs → length zs ≡ length ys
      → WalkLent bs ss s (put_line zs len' r) next (len' + 1)
  right_lent {len' = len'} {l = l} {r = r} {ys = ys} h {next = next} {zs = zs} left e =
      let lent = h.says.0.lent in
      let closed = left.says in
      lent_more (lent_kept lent zs next e (side_leaves ys len' l zs closed.leaves) closed.steps_left) r next
      (concludes_formed lent (Conclusion.Fork l r) h.says.1.0.1).1.0.0 h.says.1.1 closed.steps_left

  -- a fork: both sides are open, the left one first
  fork_open : {xs : List ℕ} {k len : ℕ} {k' len' : ℕ} {l r : Line} {ys : List ℕ}
      → Stops bs ss s xs k len (Ok (Stop.Fork k' len' l r)) ys → (c : Counts) (ws : List (List Line)) → length ws < max_waiting
      → remaining bs ss s k (lines_from xs 0 len ∷ ws) c
      ≡ remaining bs ss s (k' + 1) (lines_from (put_line ys len' l) 0 (len' + 1) ∷ (lines_from ys 0 len' ++ r ∷ []) ∷ ws) (count_fork c)
  fork_open {xs} {k} {len} {k'} {len'} {l} {r} {ys} h c ws w =
      let b = lines_from ys 0 len' in
      let onto = h.says.0 in
      let concludes = h.says.1.0 in
      onto.same ws c
      ∙ run_goes_on bs ss s k' b ws c (Conclusion.Fork l r) concludes.0 concludes.1
      (rw (length_lines ys 0 len') (omega (arith, h.says.1.1))) (omega (arith, w))
      ∙ ap (remaining bs ss s (k' + 1) ((b ++ l ∷ []) ∷ (b ++ r ∷ []) ∷ ws)) (count_fork_law (length b) l r c)
      ∙ ap (λ (a : List Line). remaining bs ss s (k' + 1) (a ∷ (b ++ r ∷ []) ∷ ws) (count_fork c))
      (sym (push_line ys len' l (rw onto.lent.area_long (omega (arith, h.says.1.1)))))

  -- a refusal on the left side
  pub walk_left_refused : {xs : List ℕ} {k len waiting : ℕ} {c : Counts} {k' len' : ℕ} {l r : Line}
      {ys : List ℕ} → Stops bs ss s xs k len (Ok (Stop.Fork k' len' l r)) ys → waiting < max_waiting → {refusal : WalkRefusal} {zs : List ℕ}
      → Walks bs ss s (put_line ys len' l) (k' + 1) (len' + 1) (waiting + 1) (count_fork c) (Err refusal) zs
      → Walks bs ss s xs k len waiting c (Err refusal) zs
  walk_left_refused {c = c} {len' = len'} {r = r} {ys = ys} h m left =
      record { says = λ ws w. fork_open h c ws (rw w m) ∙ left.says ((lines_from ys 0 len' ++ r ∷ []) ∷ ws) (one_waits w) }

  -- both sides: what the right side finds is what the branch finds
  pub walk_right : {xs : List ℕ} {k len waiting : ℕ} {c : Counts} {k' len' : ℕ} {l r : Line}
      {ys : List ℕ} → Stops bs ss s xs k len (Ok (Stop.Fork k' len' l r)) ys → waiting < max_waiting → {next : ℕ} {c' : Counts} {zs : List ℕ}
      → Walks bs ss s (put_line ys len' l) (k' + 1) (len' + 1) (waiting + 1) (count_fork c) (Ok (next, c')) zs
      → length zs ≡ length ys → {ending : Result (ℕ × Counts) WalkRefusal} {us : List ℕ} → Walks bs ss s (put_line zs len' r) next (len' + 1) waiting c' ending us
      → Walks bs ss s xs k len waiting c ending us
  walk_right {xs} {k} {len} {waiting} {c} {k'} {len'} {l} {r} {ys} h m {next} {c'} {zs} left e {ending} {us} right =
      record { says = go ending right.says }
    where
      onto : Onto bs ss s xs k len ys k' len'
      onto = h.says.0

      closed : ClosedAt bs ss s (put_line ys len' l) (k' + 1) (len' + 1) (waiting + 1) (count_fork c) next c' zs
      closed = left.says

      before : Leaves ys len' zs
      before = side_leaves ys len' l zs closed.leaves

      same : lines_from (put_line zs len' r) 0 (len' + 1) ≡ lines_from ys 0 len' ++ r ∷ []
      same =
          push_line zs len' r (rw (e, onto.lent.area_long) (omega (arith, h.says.1.1)))
          ∙ ap (λ (b : List Line). b ++ r ∷ []) (lines_same zs ys 0 len' (λ j a i. before j (omega (arith, i))))

      both : (ws : List (List Line)) → length ws ≡ waiting
          → remaining bs ss s k (lines_from xs 0 len ∷ ws) c ≡ remaining bs ss s next (lines_from (put_line zs len' r) 0 (len' + 1) ∷ ws) c'
      both ws w =
          fork_open h c ws (rw w m) ∙ closed.answers ((lines_from ys 0 len' ++ r ∷ []) ∷ ws) (one_waits w)
          ∙ ap (λ (a : List Line). remaining bs ss s next (a ∷ ws) c') (sym same)

      go : (ending : Result (ℕ × Counts) WalkRefusal) → WalkSays bs ss s (put_line zs len' r) next (len' + 1) waiting c' ending us
          → WalkSays bs ss s xs k len waiting c ending us
      go (Ok (last, c'')) end =
          record {
            later = omega (arith, onto.later, closed.later, end.later);
            steps_left = end.steps_left;
            bounded = end.bounded;
            leaves = λ j i.
                let i' = le_trans i onto.longer in
                side_leaves zs len' r us end.leaves j i' ∙ before j i' ∙ onto.leaves j i;
            answers = λ ws w. both ws w ∙ end.answers ws w;
          }
      go (Err refusal) end = λ ws w. both ws w ∙ end ws w

-- ---- the first branch

-- "Line 0 is: start name has the root": what the walk is lent at first
pub first_lent : {bs : List ℕ} {n : ℕ} {ss : List ℕ} {s : ℕ} (xs : List ℕ) (i : Name) → reading_of bs ≡ found n → length ss ≡ 6 * s → s ≤ max_steps
    → length xs ≡ area_need → WalkLent bs ss s (put_line xs 0 (has Sign.Positive i (n - 1))) 0 1
first_lent {bs} {n} {ss} {s} xs i read long few room =
    record {
      standing = record {
        pattern_read = subst (λ (m : ℕ). reading_of bs ≡ found m) (sym ok.count_is) read;
        some_line = omega arith;
        room = rw (length_put xs 0 line, room) (omega arith);
        formed = λ j l.
            subst (λ (k : ℕ). Formed bs (count_of bs) (line_at (put_line xs 0 line) k)) (first j l)
            (subst (Formed bs (count_of bs)) (sym (put_same xs 0 line fits)) root);
      };
      steps_long = long;
      few_steps = few;
      area_long = length_put xs 0 line ∙ room;
      few_lines = omega arith;
      steps_left = omega arith;
    }
  where
    line : Line
    line = has Sign.Positive i (n - 1)

    fits : 8 * (0 + 1) ≤ length xs
    fits = rw room (omega arith)

    first : (j : ℕ) → j < 1 → 0 ≡ j
    first j l = omega (arith, l)

    ok : Valid bs n
    ok = valid bs n read

    root : Formed bs (count_of bs) line
    root = (omega (arith, ok.header.some_entry, ok.count_is), ok.root_node)

pub none_bounded : Bounded 0 none
none_bounded = record { few_clashes = le_refl 0; few_forks = le_refl 0; few_most = omega arith }

-- what is found is what the walk ends with
pub walk_finishes : {bs : List ℕ} {ss : List ℕ} {s : ℕ} (xs : List ℕ) {ending : Result (ℕ × Counts) WalkRefusal} {ys : List ℕ} (l : Line) → 8 ≤ length xs
    → Walks bs ss s (put_line xs 0 l) 0 1 0 none ending ys
    → finished s ending ≡ closed_by s (run bs ((l ∷ []) ∷ []) (steps_from ss 0 s) 0 none)
unfolding lines_from
walk_finishes {bs} {ss} {s} xs {ending} {ys} l long h =
    go ending h.says ∙ ap (λ (b : List Line). closed_by s (remaining bs ss s 0 (b ∷ []) none)) (push_line xs 0 l long)
    ∙ ap (λ (m : ℕ). closed_by s (run bs ((l ∷ []) ∷ []) (steps_from ss 0 m) 0 none)) (sub-zero s)
  where
    b : List Line
    b = lines_from (put_line xs 0 l) 0 1

    ends : (k : ℕ) (c : Counts) (t : Bool) → ltb k s ≡ t → k ≤ s → finished_if t s k c ≡ closed_by s (remaining bs ss s k [] c)
    ends k c true e le = sym (ap (closed_by s) (run_closed bs ss s k c (ltb-true k s e)))
    ends k c false e le = sym (ap (closed_by s) (run_found bs ss s k c (ltb-false k s e)))

    go : (ending : Result (ℕ × Counts) WalkRefusal) → WalkSays bs ss s (put_line xs 0 l) 0 1 0 none ending ys
        → finished s ending ≡ closed_by s (remaining bs ss s 0 (b ∷ []) none)
    go (Ok (k, c)) end = ends k c (ltb k s) refl end.steps_left ∙ sym (ap (closed_by s) (end.answers [] refl))
    go (Err refusal) end = sym (ap (closed_by s) (end [] refl))

-- "refusals 19 to 26 and closed zero its first 8,192 bytes"
late : (refusal : WalkRefusal) → clears (walk_number refusal) ≡ true
late (WalkRefusal.Step (StepRefusal.Rule k)) = refl
late (WalkRefusal.Step (StepRefusal.Field k)) = refl
late (WalkRefusal.Step (StepRefusal.Fit k)) = refl
late (WalkRefusal.Step (StepRefusal.Fresh k)) = refl
late (WalkRefusal.Lines k) = refl
late (WalkRefusal.Waiting k) = refl
late (WalkRefusal.AllClosed k) = refl
late (WalkRefusal.StillOpen k) = refl

pub finished_clears : (s : ℕ) (ending : Result (ℕ × Counts) WalkRefusal) (xs : List ℕ) → area_after (finished s ending) xs ≡ cleared area_need xs
finished_clears s (Ok (k, c)) xs = go (ltb k s)
  where
    go : (t : Bool) → area_after (finished_if t s k c) xs ≡ cleared area_need xs
    go true = refl
    go false = refl
finished_clears s (Err refusal) xs = rw (late refusal) refl
