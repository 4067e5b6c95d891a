-- The straight part of a branch follows `run`: a law for each way out of its functions.
-- Assumes nothing.
use Rattle.std.specs.Prelude.{Bool, true, false, ◌≡◌, refl, ℕ, zero, suc, ◌+◌, ◌-◌, ◌*◌, ◌≤◌, ◌<◌, ltb, length, Result, Ok, Err}
use mathlib.Core.List.{List, [], ◌∷◌, ◌++◌, append_assoc, append-nil}
use Rattle.std.proofs.Common.{sym, ◌∙◌, subst, le_refl, le_trans, le_antisymm, add-zero, arith, add-one, le-ltb, lt-ltb, ltb-true, ltb-false}
use Rattle.std.proofs.Math.Path.{ap}
use Rattle.pattern.specs.Checks.Finding.{Finding, found, refused, onward, thereupon}
use Rattle.pattern.specs.File.Reading.{count_of}
use Rattle.pattern.proofs.File.Valid.{valid}
use Rattle.lines.specs.declared.line.Line.{Line}
use Rattle.steps.specs.declared.step.Step.{Step}
use Rattle.rules.specs.declared.conclusion.Conclusion.{Conclusion}
use Rattle.steps.specs.declared.step.StepRefusal.{StepRefusal}
use Rattle.lines.specs.Formed.{Formed, AllFormed}
use Rattle.branch_lines.specs.Stored.{line_at, lines_from, put_line, length_put, put_same, put_other, length_lines, push_line}
use Rattle.soundness.specs.FormedRules.{EachFormed, FormedConclusion, step_formed}
use Rattle.steps.specs.Steps.{step_at, steps_from, stepping, answer_of, found_follows}
use Rattle.tableau.specs.declared.finding.Counts.{Counts}
use Rattle.tableau.specs.declared.finding.WalkRefusal.{WalkRefusal}
use Rattle.branch_walk.specs.declared.straight.Stop.{Stop}
use Rattle.branch_step.specs.declared.Advance.{Advance}
use Rattle.tableau.specs.Run.{run, max_lines, max_waiting, longest, further, limits_check, branches, counted}
use Rattle.tableau.proofs.RunCloses.{same_counts}
use Rattle.rules.specs.Sides.{sides}
use Rattle.branch_step.specs.Step.{put_lines, pushed, advance_of}
use Rattle.branch_walk.specs.Straight.{WalkLent, remaining, Leaves, Onto, StepConcludes, StopSays, Stops, Advances}

-- ---- `run`, step by step

pub steps_next : (ss : List ℕ) (s k : ℕ) → k < s → steps_from ss k (s - k) ≡ step_at ss k ∷ steps_from ss (k + 1) (s - (k + 1))
unfolding steps_from
steps_next ss s k h = ap (steps_from ss k) left ∙ ap (λ (m : ℕ). step_at ss k ∷ steps_from ss m (s - (k + 1))) (sym (add-one k))
  where
    left : s - k ≡ suc (s - (k + 1))
    left = omega (arith, h)

pub steps_none : (ss : List ℕ) (s k : ℕ) → s ≤ k → steps_from ss k (s - k) ≡ []
unfolding steps_from
steps_none ss s k h = ap (steps_from ss k) none
  where
    none : s - k ≡ 0
    none = omega (arith, h)

-- a step with one side counts nothing; a clash; a fork
count_on : (lines : ℕ) (new : List Line) (c : Counts) → counted lines (new ∷ []) c ≡ c
count_on lines new c = same_counts _ _ (omega arith) (omega arith) (omega arith)

module _ (bs ss : List ℕ) (s k : ℕ) (b : List Line) (ws : List (List Line)) (c : Counts) where
  -- what is found behind a step that concludes con
  abbrev behind : Conclusion → Finding Counts
  behind con = remaining bs ss s (k + 1) (branches b (sides con) ++ ws) (counted (length b) (sides con) c)

  run_next : k < s
      → remaining bs ss s k (b ∷ ws) c
      ≡ thereupon (stepping bs b (step_at ss k) k) (λ con. onward (limits_check b (length ws) con k) (behind con))
  unfolding run
  run_next h =
      let rest = steps_from ss (k + 1) (s - (k + 1)) in
      ap (λ (l : List Step). run bs (b ∷ ws) l k c) (steps_next ss s k h)
      ∙ ap (λ (m : ℕ). thereupon (stepping bs b (step_at ss k) k) (λ con. onward (limits_check b (length ws) con k)
      (run bs (branches b (sides con) ++ ws) rest m (counted (length b) (sides con) c)))) (sym (add-one k))

  -- "26, place s: a branch still open"
  run_open : s ≤ k
      → remaining bs ss s k (b ∷ ws) c ≡ refused 26 k
  unfolding run
  run_open h = ap (λ (l : List Step). run bs (b ∷ ws) l k c) (steps_none ss s k h)

  -- a step that is refused by its rule
  run_refused : (number place : ℕ) → k < s
      → stepping bs b (step_at ss k) k ≡ refused number place → remaining bs ss s k (b ∷ ws) c ≡ refused number place
  run_refused number place h e = run_next h ∙ rw e refl

  -- a step that follows its rule: what the limits say of its conclusion, and what follows
  run_concluded : (con : Conclusion) → k < s
      → stepping bs b (step_at ss k) k ≡ found con
      → remaining bs ss s k (b ∷ ws) c ≡ onward (limits_check b (length ws) con k) (behind con)
  run_concluded con h e = run_next h ∙ rw e refl

  -- a step that keeps to the limits
  pub run_goes_on : (con : Conclusion) → k < s
      → stepping bs b (step_at ss k) k ≡ found con → length b + longest (sides con) ≤ max_lines → further con ≤ max_waiting - length ws
      → remaining bs ss s k (b ∷ ws) c ≡ behind con
  run_goes_on con h e l w =
      run_concluded con h e
      ∙ rw (le-ltb max_lines (length b + longest (sides con)) l, le-ltb (max_waiting - length ws) (further con) w) refl

  -- "23, the step would bring the branch over 1,024 lines"
  run_long : (con : Conclusion) → k < s
      → stepping bs b (step_at ss k) k ≡ found con → max_lines < length b + longest (sides con) → remaining bs ss s k (b ∷ ws) c ≡ refused 23 k
  run_long con h e l = run_concluded con h e ∙ rw (lt-ltb max_lines (length b + longest (sides con)) l) refl

  -- "24, fork with 64 right sides already waiting"
  pub run_crowded : (con : Conclusion) → k < s
      → stepping bs b (step_at ss k) k ≡ found con → length b + longest (sides con) ≤ max_lines → max_waiting - length ws < further con
      → remaining bs ss s k (b ∷ ws) c ≡ refused 24 k
  run_crowded con h e m w =
      run_concluded con h e
      ∙ rw (le-ltb max_lines (length b + longest (sides con)) m, lt-ltb (max_waiting - length ws) (further con) w) refl

-- ---- lines and waiting sides

lines_formed : (bs : List ℕ) (n : ℕ) (xs : List ℕ) (k len : ℕ) → ((j : ℕ) → k ≤ j → j < k + len → Formed bs n (line_at xs j))
    → AllFormed bs n (lines_from xs k len)
unfolding lines_from
lines_formed bs n xs k zero h = tt
lines_formed bs n xs k (suc len) h =
    (h k (le_refl k) (omega arith), lines_formed bs n xs (suc k) len (λ j l m. h j (omega (arith, l)) (omega (arith, m))))

-- lines are stored one behind the other
push_lines : (xs : List ℕ) (len : ℕ) (new : List Line) → 8 * (len + length new) ≤ length xs
    → lines_from (put_lines xs len new) 0 (len + length new) ≡ lines_from xs 0 len ++ new
push_lines xs len [] h = ap (lines_from xs 0) (add-zero len) ∙ sym (append-nil (lines_from xs 0 len))
push_lines xs len (l ∷ ls) h =
    ap (lines_from (put_lines (put_line xs len l) (len + 1) ls) 0) place
    ∙ push_lines (put_line xs len l) (len + 1) ls (rw (length_put xs len l) (omega (arith, h)))
    ∙ ap (λ (b : List Line). b ++ ls) (push_line xs len l (omega (arith, h)))
    ∙ append_assoc (lines_from xs 0 len) (l ∷ []) ls
  where
    place : len + suc (length ls) ≡ len + 1 + length ls
    place = omega arith

-- and leave the lines before them
push_leaves : (xs : List ℕ) (len from : ℕ) (new : List Line) → len ≤ from → Leaves xs len (put_lines xs from new)
push_leaves xs len from [] h = λ j i. refl
push_leaves xs len from (l ∷ ls) h =
    λ j i. push_leaves (put_line xs from l) len (from + 1) ls (omega (arith, h)) j i ∙ put_other xs from j l (λ e. omega (arith, h, i, e))

module _ {bs ss : List ℕ} {s : ℕ} where
  -- ---- what the walk is lent, as lines are added

  -- what a step concludes is formed
  pub concludes_formed : {xs : List ℕ} {k len : ℕ} → WalkLent bs ss s xs k len → (con : Conclusion)
      → stepping bs (lines_from xs 0 len) (step_at ss k) k ≡ found con → FormedConclusion bs (count_of bs) con
  concludes_formed {xs} {k} {len} lent con e =
      let b = lines_from xs 0 len in
      step_formed (valid bs (count_of bs) lent.standing.pattern_read) b
      (lines_formed bs (count_of bs) xs 0 len (λ j l m. lent.standing.formed j (omega (arith, m)))) (step_at ss k) con
      (found_follows bs b (step_at ss k) con k e)

  -- other bytes with the same lines, and another step
  pub lent_kept : {xs : List ℕ} {k len : ℕ} → WalkLent bs ss s xs k len → (ys : List ℕ) (k' : ℕ)
      → length ys ≡ length xs → Leaves xs len ys → k' ≤ s → WalkLent bs ss s ys k' len
  lent_kept {xs} {k} {len} lent ys k' same leaves left =
      record {
        standing = record {
          pattern_read = lent.standing.pattern_read;
          some_line = lent.standing.some_line;
          room = rw same lent.standing.room;
          formed = λ j l. subst (Formed bs (count_of bs)) (sym (leaves j l)) (lent.standing.formed j l);
        };
        steps_long = lent.steps_long;
        few_steps = lent.few_steps;
        area_long = same ∙ lent.area_long;
        few_lines = lent.few_lines;
        steps_left = left;
      }

  -- a line more, and another step
  pub lent_more : {xs : List ℕ} {k len : ℕ} → WalkLent bs ss s xs k len → (l : Line) (k' : ℕ)
      → Formed bs (count_of bs) l → len < max_lines → k' ≤ s → WalkLent bs ss s (put_line xs len l) k' (len + 1)
  lent_more {xs} {k} {len} lent l k' f m left =
      record {
        standing = record {
          pattern_read = lent.standing.pattern_read;
          some_line = omega arith;
          room = room;
          formed = λ j i. go j i (ltb j len) refl;
        };
        steps_long = lent.steps_long;
        few_steps = lent.few_steps;
        area_long = length_put xs len l ∙ lent.area_long;
        few_lines = omega (arith, m);
        steps_left = left;
      }
    where
      fits : 8 * (len + 1) ≤ length xs
      fits = rw lent.area_long (omega (arith, m))

      room : 8 * (len + 1) ≤ length (put_line xs len l)
      room = rw (length_put xs len l) fits

      go : (j : ℕ) → j < len + 1 → (t : Bool) → ltb j len ≡ t → Formed bs (count_of bs) (line_at (put_line xs len l) j)
      go j i true e =
          subst (Formed bs (count_of bs)) (sym (put_other xs len j l (λ q. omega (arith, ltb-true j len e, q)))) (lent.standing.formed j (ltb-true j len e))
      go j i false e =
          let q = le_antisymm (omega (arith, i)) (ltb-false j len e) in
          subst (λ (m : ℕ). Formed bs (count_of bs) (line_at (put_line xs len l) m)) (sym q) (subst (Formed bs (count_of bs)) (sym (put_same xs len l fits)) f)

  -- several lines more
  lent_lines : {xs : List ℕ} {k len : ℕ} → WalkLent bs ss s xs k len → (new : List Line) (k' : ℕ)
      → AllFormed bs (count_of bs) new → len + length new ≤ max_lines → k' ≤ s → WalkLent bs ss s (put_lines xs len new) k' (len + length new)
  lent_lines {xs} {k} {len} lent [] k' f m left =
      subst (WalkLent bs ss s xs k') (sym (add-zero len)) (lent_kept lent xs k' refl (λ j i. refl) left)
  lent_lines {xs} {k} {len} lent (l ∷ ls) k' f m left =
      subst (WalkLent bs ss s (put_lines (put_line xs len l) (len + 1) ls) k') place
      (lent_lines {xs = put_line xs len l} {k = k'} {len = len + 1} (lent_more lent l k' f.0 (omega (arith, m)) left) ls k' f.1 (omega (arith, m)) left)
    where
      place : len + 1 + length ls ≡ len + suc (length ls)
      place = omega arith

  -- ---- one step

  -- nothing is done
  onto_here : {xs : List ℕ} {k len : ℕ} → WalkLent bs ss s xs k len → Onto bs ss s xs k len xs k len
  onto_here {len = len} lent =
      record { lent = lent; later = le_refl _; longer = le_refl len; leaves = λ j l. refl; same = λ ws c. refl }

  -- one way after another
  onto_then : {xs : List ℕ} {k len : ℕ} {ys : List ℕ} {k' len' : ℕ} {zs : List ℕ} {k'' len'' : ℕ}
      → Onto bs ss s xs k len ys k' len' → Onto bs ss s ys k' len' zs k'' len'' → Onto bs ss s xs k len zs k'' len''
  onto_then a b =
      record {
        lent = b.lent;
        later = le_trans a.later b.later;
        longer = le_trans a.longer b.longer;
        leaves = λ j l. b.leaves j (omega (arith, l, a.longer)) ∙ a.leaves j l;
        same = λ ws c. a.same ws c ∙ b.same ws c;
      }

  -- a step that goes on with one side
  onto_side : {xs : List ℕ} {k len : ℕ} → WalkLent bs ss s xs k len → (con : Conclusion) (new : List Line) → sides con ≡ new ∷ []
      → StepConcludes bs ss s xs k len con → len + length new ≤ max_lines → Onto bs ss s xs k len (put_lines xs len new) (k + 1) (len + length new)
  onto_side {xs} {k} {len} lent con new one h m =
      record {
        lent = lent_lines lent new (k + 1) formed.0 m (omega (arith, h.0));
        later = omega arith;
        longer = omega arith;
        leaves = push_leaves xs len len new (le_refl len);
        same = λ ws c.
            let b = lines_from xs 0 len in
            run_goes_on bs ss s k b ws c con h.0 h.1 (rw (length_lines xs 0 len, one) (omega (arith, m))) (rw one (omega arith))
            ∙ ap (λ (news : List (List Line)). remaining bs ss s (k + 1) (branches b news ++ ws) (counted (length b) news c)) one
            ∙ ap (remaining bs ss s (k + 1) ((b ++ new) ∷ ws)) (count_on (length b) new c)
            ∙ ap (λ (a : List Line). remaining bs ss s (k + 1) (a ∷ ws) c)
            (sym (push_lines xs len new (rw lent.area_long (omega (arith, m)))));
      }
    where
      formed : EachFormed bs (count_of bs) (new ∷ [])
      formed = subst (EachFormed bs (count_of bs)) one (concludes_formed lent con h.1)

  -- a step that follows its rule and keeps to 1,024 lines
  pub step_concludes : {xs : List ℕ} {k len : ℕ} → WalkLent bs ss s xs k len → (con : Conclusion)
      → StepConcludes bs ss s xs k len con → len + longest (sides con) ≤ max_lines
      → Advances bs ss s xs k len (Ok (advance_of len con)) (pushed xs len con)
  step_concludes lent (Conclusion.One l) h m = record { says = onto_side lent (Conclusion.One l) (l ∷ []) refl h m }
  step_concludes lent (Conclusion.Two l o) h m = record { says = onto_side lent (Conclusion.Two l o) (l ∷ o ∷ []) refl h m }
  step_concludes lent (Conclusion.New i l o) h m = record { says = onto_side lent (Conclusion.New i l o) (l ∷ o ∷ []) refl h m }
  step_concludes lent (Conclusion.Fork l r) h m = record { says = record { says = (onto_here lent, (h, omega (arith, m))) } }
  step_concludes lent Conclusion.Clash h m = record { says = record { says = (onto_here lent, h) } }

  -- a step over the limit, and one that is refused by its rule
  pub step_long : {xs : List ℕ} {k len : ℕ} → WalkLent bs ss s xs k len → (con : Conclusion)
      → StepConcludes bs ss s xs k len con → max_lines < len + longest (sides con) → {ys : List ℕ}
      → Advances bs ss s xs k len (Err (WalkRefusal.Lines k)) ys
  step_long {xs} {k} {len} lent con h m =
      record {
        says =
            record { says = λ ws c. run_long bs ss s k (lines_from xs 0 len) ws c con h.0 h.1 (rw (length_lines xs 0 len) m) };
      }

  pub step_refused : {xs : List ℕ} {k len : ℕ} → WalkLent bs ss s xs k len
      → (answer : Result Conclusion StepRefusal) (refusal : StepRefusal) → answer ≡ Err refusal → k < s
      → answer_of answer ≡ stepping bs (lines_from xs 0 len) (step_at ss k) k → {ys : List ℕ}
      → Advances bs ss s xs k len (Err (WalkRefusal.Step refusal)) ys
  step_refused {xs} {k} {len} lent answer refusal q h e =
      record {
        says = record { says = λ ws c. run_refused bs ss s k (lines_from xs 0 len) ws c _ _ h (sym e ∙ ap answer_of q) };
      }

  -- ---- the straight part of a branch

  pub straight_grows : {xs : List ℕ} {k len : ℕ} {ys : List ℕ} {k' len' : ℕ} {zs : List ℕ} {len'' : ℕ}
      → Onto bs ss s xs k len ys k' len' → Advances bs ss s ys k' len' (Ok (Advance.Grown len'')) zs → Onto bs ss s xs k len zs (k' + 1) len''
  straight_grows a h = onto_then a h.says

  pub straight_stops : {xs : List ℕ} {k len : ℕ} {ys : List ℕ} {k' len' : ℕ} {zs : List ℕ} {stop : Result Stop WalkRefusal}
      → Onto bs ss s xs k len ys k' len' → Stops bs ss s ys k' len' stop zs → Stops bs ss s xs k len stop zs
  straight_stops {xs} {k} {len} {ys} {k'} {len'} {zs} {stop} a h = record { says = go stop h.says }
    where
      go : (stop : Result Stop WalkRefusal) → StopSays bs ss s ys k' len' stop zs → StopSays bs ss s xs k len stop zs
      go (Ok (Stop.Clash i j)) h = (onto_then a h.0, h.1)
      go (Ok (Stop.Fork i j l r)) h = (onto_then a h.0, h.1)
      go (Err refusal) h = λ ws c. a.same ws c ∙ h ws c

  -- no step is left
  pub straight_open : {xs : List ℕ} {k len : ℕ} {ys : List ℕ} {k' len' : ℕ}
      → Onto bs ss s xs k len ys k' len' → s ≤ k' → Stops bs ss s xs k len (Err (WalkRefusal.StillOpen s)) ys
  straight_open {xs} {k} {len} {ys} {k'} {len'} a h =
      record {
        says = λ ws c. a.same ws c ∙ run_open bs ss s k' (lines_from ys 0 len') ws c h ∙ ap (refused 26) (le_antisymm a.lent.steps_left h);
      }
