-- Room in a packed answer: the numbers of any finding, and the number and place of any refusal, are narrow enough for a part of 14 bits.
-- Assumes nothing.
use Rattle.std.specs.Prelude.{◌≡◌, refl, Bool, true, false, ltb, eqb, length, Option, Some, None}
use mathlib.Core.List.{List, [], ◌∷◌, ◌++◌}
use Prim.Native.Nat.{ℕ, zero, suc, ◌+◌, ◌-◌, ◌≤◌, ◌<◌}
use Rattle.std.proofs.Common.{le_trans, lt_trans, lt-suc_self, lt_of_le_of_lt, arith, lit<, ltb-false}
use Rattle.std.proofs.Math.Nat.{max-le}
use Rattle.pattern.specs.Checks.Finding.{Finding, found, refused, Check, passes, refuses, refuses_if, ◌then◌, unless, onward, thereupon, written, then_passes, refuses_if_passes}
use Rattle.pattern.specs.Checks.Range.{some_below, each_below}
use Rattle.pattern.specs.File.Types.{max_name}
use Rattle.pattern.specs.File.Entries.{max_entries}
use Rattle.pattern.specs.File.Reading as reading
use Rattle.pattern.specs.File.Reading.{count_of, pattern_check, reading_of}
use Rattle.pattern.specs.File.Valid as pattern
use Rattle.pattern.proofs.File.Valid.{passes_valid}
use Rattle.nodeset.specs.Below.{count_le, lowest_le}
use Rattle.decision.specs.Judged.{Judged, met, unmet, judged_if, judged_by}
use Rattle.model_records.specs.Layout.{node_count, name_count, edge_count}
use Rattle.model_records.specs.declared.Order.{Order}
use Rattle.model_records.specs.Checks as file
use Rattle.model_records.specs.Valid as file_valid
use Rattle.model_records.proofs.Valid.{model_valid}
use Rattle.model.specs.Judging as model
use Rattle.model.proofs.Judging as model_laws
use Rattle.ordered_file.specs.NewFile.{ordered_file}
use Rattle.ordered_file.proofs.EdgeList.{edges_few}
use Rattle.ordered_file.proofs.Made.{length_made}
use Rattle.model_order.specs.Ordering.{file_within, ordering_of}
use Rattle.lines.specs.declared.line.Line.{Line}
use Rattle.rules.specs.declared.conclusion.Conclusion.{Conclusion}
use Rattle.rules.specs.Sides.{sides}
use Rattle.steps.specs.declared.step.Step.{Step}
use Rattle.steps.specs.Steps.{steps_from, step_at, rule_field_check, unless_stale, step_outcome, is_stale, stepping}
use Rattle.tableau.specs.declared.finding.Counts.{Counts}
use Rattle.tableau.specs.declared.finding.Closed.{Closed}
use Rattle.tableau.specs.Run.{run, max_lines, longest, lines_check, waiting_check, limits_check, branches, counted, none}
use Rattle.tableau.proofs.Counting.{one_at_most, clash_within}
use Rattle.branch_walk.specs.Walk.{Bounded}
use Rattle.branch_walk.specs.WalkLaws.{none_bounded}
use Rattle.tableau.proofs.JudgingCloses as closure
use Rattle.tableau.specs.Judging as tableau
use Rattle.typing.specs.Typing.{typing_of}
use Rattle.typing.specs.Findings.{Small}
use Rattle.typing.proofs.Findings.{typing_small}

-- the number is one of 14 bits
abbrev pub Narrow : ℕ → Type 0
Narrow n = n < 16384

-- a check that refuses does so with a narrow number and place
abbrev NarrowCheck : Check → Type 0
NarrowCheck passes = Unit {0}
NarrowCheck (refuses number place) = Narrow number × Narrow place

-- a finding is narrow: its value in the sense of P, a refusal's number and place by themselves
abbrev pub NarrowFinding : {A : Type 0} → (A → Type 0) → Finding A → Type 0
NarrowFinding P (found value) = P value
NarrowFinding P (refused number place) = Narrow number × Narrow place

-- what is found of a model is narrow
abbrev pub NarrowJudged : Judged → Type 0
NarrowJudged (met lowest number) = Narrow lowest × Narrow number
NarrowJudged unmet = Unit {0}

-- what is found of a tableau is narrow
abbrev pub NarrowClosed : Closed → Type 0
NarrowClosed c = Narrow c.steps × Narrow c.clashes × Narrow c.forks × Narrow c.most

-- ---- checks in a chain
fault_narrow : (fault : Bool) (number place : ℕ) → Narrow number → Narrow place → NarrowCheck (refuses_if fault number place)
fault_narrow true number place h l = (h, l)
fault_narrow false number place h l = tt

then_narrow : (c d : Check) → NarrowCheck c → (c ≡ passes → NarrowCheck d) → NarrowCheck (c then d)
then_narrow passes d h f = f refl
then_narrow (refuses number place) d h f = h

-- a fault is checked first
fault_then : (fault : Bool) (number place : ℕ) (d : Check) → Narrow number → Narrow place → NarrowCheck d
    → NarrowCheck (refuses_if fault number place then d)
fault_then fault number place d h l f = then_narrow (refuses_if fault number place) d (fault_narrow fault number place h l) (λ e. f)

each_narrow : (n : ℕ) (check : ℕ → Check) → Narrow n → ((k : ℕ) → Narrow k → NarrowCheck (check k)) → NarrowCheck (each_below n check)
unfolding each_below
each_narrow zero check l each = tt
each_narrow (suc n) check l each =
    let less = lt_trans (lt-suc_self n) l in
    then_narrow (each_below n check) (check n) (each_narrow n check less each) (λ e. each n less)

module _ {A : Type 0} (P : A → Type 0) where
  onward_narrow : (c : Check) (f : Finding A) → NarrowCheck c → (c ≡ passes → NarrowFinding P f) → NarrowFinding P (onward c f)
  onward_narrow passes f h g = g refl
  onward_narrow (refuses number place) f h g = h

  unless_narrow : (c : Check) (value : A) → NarrowCheck c → (c ≡ passes → P value) → NarrowFinding P (unless c value)
  unless_narrow passes value h g = g refl
  unless_narrow (refuses number place) value h g = h

thereupon_narrow : {A B : Type 0} (P : A → Type 0) (Q : B → Type 0) (f : Finding A) (next : A → Finding B)
    → NarrowFinding P f → ((value : A) → NarrowFinding Q (next value)) → NarrowFinding Q (thereupon f next)
thereupon_narrow P Q (found value) next h g = g value
thereupon_narrow P Q (refused number place) next h g = h

-- ---- reading a pattern
module _ (bs : List ℕ) where
  header_narrow : NarrowCheck (reading.header_check bs)
  unfolding reading.header_check
  header_narrow = search (fault_then, fault_narrow, lit<)

  entry_narrow : (k : ℕ) → Narrow k → NarrowCheck (reading.entry_check bs k)
  unfolding reading.entry_check
  entry_narrow k l = search (fault_then, fault_narrow, lit<) depth 7

  root_narrow : Narrow (count_of bs - 1) → NarrowCheck (reading.root_check bs)
  unfolding reading.root_check
  root_narrow l = search (fault_narrow, lit<)

  entries_narrow : count_of bs ≤ max_entries → NarrowCheck (each_below (count_of bs) (reading.entry_check bs) then reading.root_check bs)
  entries_narrow few =
      then_narrow (each_below (count_of bs) (reading.entry_check bs)) (reading.root_check bs)
      (each_narrow (count_of bs) (reading.entry_check bs) (omega (arith, few)) entry_narrow)
      (λ e. root_narrow (omega (arith, few)))

  pattern_narrow : NarrowCheck (pattern_check bs)
  unfolding pattern_check
  pattern_narrow = then_narrow (reading.header_check bs) _ header_narrow (λ e. entries_narrow (pattern.header_passes bs e).one_byte)

  pub reading_narrow : NarrowFinding Narrow (reading_of bs)
  unfolding reading_of
  reading_narrow = unless_narrow Narrow (pattern_check bs) (count_of bs) pattern_narrow (λ e. omega (arith, (passes_valid bs e).header.one_byte))

-- what every judgement begins with: the pattern, and the length of the area
begins_narrow : (bs : List ℕ) (fault : Bool) (d : Check) → NarrowCheck d → NarrowCheck (pattern_check bs then refuses_if fault 9 0 then d)
begins_narrow bs fault d f = then_narrow (pattern_check bs) _ (pattern_narrow bs) (λ e. fault_then fault 9 0 d (lit< tt) (lit< tt) f)

-- ---- judging a model

-- nothing is found above the number of nodes
judged_narrow : (n : ℕ) (test : ℕ → Bool) → Narrow n → NarrowJudged (judged_by n test)
unfolding judged_by
judged_narrow n test l = go (some_below n test)
  where
    go : (b : Bool) → NarrowJudged (judged_if b n test)
    go true = (lt_of_le_of_lt (lowest_le n test) l, lt_of_le_of_lt (count_le n test) l)
    go false = tt

module _ (ds : List ℕ) where
  model_header_narrow : NarrowCheck (file.header_check ds)
  unfolding file.header_check
  model_header_narrow = search (fault_then, fault_narrow, lit<)

  name_narrow : (j : ℕ) → Narrow j → NarrowCheck (file.name_check ds j)
  unfolding file.name_check
  name_narrow j l = search (fault_narrow, lit<)

  -- the place of 14 and of 28 is the number of an edge record
  edge_narrow : (order : Order) (i : ℕ) → Narrow i → NarrowCheck (file.record_check order ds i)
  unfolding file.record_check file.edge_check file.order_check
  edge_narrow order i l = search (fault_then, fault_narrow, lit<)

  records_narrow : (order : Order) → file_valid.ValidHeader ds
      → NarrowCheck (each_below (name_count ds) (file.name_check ds) then each_below (edge_count ds) (file.record_check order ds))
  records_narrow order h =
      then_narrow (each_below (name_count ds) (file.name_check ds)) (each_below (edge_count ds) (file.record_check order ds))
      (each_narrow (name_count ds) (file.name_check ds) (omega (arith, h.names_few)) name_narrow)
      (λ e. each_narrow (edge_count ds) (file.record_check order ds) (omega (arith, h.edges_few)) (edge_narrow order))

  model_narrow : (order : Order) → NarrowCheck (file.model_check order ds)
  unfolding file.model_check
  model_narrow order = then_narrow (file.header_check ds) _ model_header_narrow (λ e. records_narrow order (file_valid.header_passes ds e))

-- the place of 27 is the number of a name
names_narrow : (bs ds : List ℕ) → NarrowCheck (model.names_check bs ds)
unfolding model.names_check
names_narrow bs ds =
    fault_narrow (some_below (max_name + 1) (model.is_missing bs ds)) 27 _ (lit< tt)
    (lt_of_le_of_lt (lowest_le (max_name + 1) (model.is_missing bs ds)) (lit< tt))

pub model_judging_narrow : (order : Order) (bs ds : List ℕ) (size : ℕ) → NarrowFinding NarrowJudged (model.judging_by order bs ds size)
unfolding model.judging_by model.judging_check
model_judging_narrow order bs ds size =
    unless_narrow NarrowJudged (model.judging_check order bs ds size) _
    (begins_narrow bs (ltb size (model.area_need bs)) (file.model_check order ds then model.names_check bs ds)
    (then_narrow (file.model_check order ds) (model.names_check bs ds) (model_narrow ds order) (λ e. names_narrow bs ds)))
    (λ e. judged_narrow (node_count ds) _ (omega (arith, ((model_laws.checks_pass order bs ds size).0 e).2.header.narrow)))

-- ---- putting a model file in order

-- the file's length is narrow
abbrev NarrowFile : List ℕ → Type 0
NarrowFile file = Narrow (length file)

written_narrow : (f : Finding (List ℕ)) → NarrowFinding NarrowFile f → NarrowFinding Narrow (written f)
written_narrow (found file) h = h
written_narrow (refused number place) h = h

-- the counts of the new file are no higher than 01's limits
new_narrow : (ds : List ℕ) → file_valid.ValidModel ds → NarrowFile (ordered_file ds)
new_narrow ds ok =
    let h = ok.header in
    omega (arith, length_made ds ok, edges_few ds, h.narrow, h.names_few, h.edges_few)

pub ordering_narrow : (ds : List ℕ) (room : ℕ) → NarrowFinding Narrow (written (ordering_of ds room))
unfolding ordering_of file_within
ordering_narrow ds room =
    written_narrow (ordering_of ds room)
    (onward_narrow NarrowFile (file.model_check Order.Any ds) _ (model_narrow ds Order.Any)
    (λ e. unless_narrow NarrowFile (refuses_if (ltb room (length (ordered_file ds))) 29 0) (ordered_file ds)
    (fault_narrow (ltb room (length (ordered_file ds))) 29 0 (lit< tt) (lit< tt)) (λ _. new_narrow ds (model_valid Order.Any ds e).0)))

-- ---- typing a pattern
typing_written : (f : Finding (List ℕ)) → Small f → NarrowFinding Narrow (written f)
typing_written (found file) h = omega (arith, h)
typing_written (refused number place) h = (omega (arith, h.0), omega (arith, h.1))

pub typing_narrow : (xs : List ℕ) (room : ℕ) → NarrowFinding Narrow (written (typing_of xs room))
typing_narrow xs room = typing_written (typing_of xs room) (typing_small xs room)

-- ---- judging a tableau

-- what is counted is narrow
abbrev NarrowCounts : Counts → Type 0
NarrowCounts n = Narrow n.clashes × Narrow n.forks × Narrow n.most

-- a step on a branch within 01's limit of lines counts one at most
counted_bounded : (lines k : ℕ) (n : Counts) (news : List (List Line)) → lines ≤ max_lines → Bounded k n → Bounded (suc k) (counted lines news n)
counted_bounded lines k n news short h =
    record {
      few_clashes = omega (arith, h.few_clashes, one_at_most (eqb (length news) 0));
      few_forks = omega (arith, h.few_forks, one_at_most (eqb (length news) 2));
      few_most = max-le h.few_most (le_trans (clash_within lines news) short);
    }

-- nothing is asked of a conclusion
abbrev Any : Conclusion → Type 0
Any c = Unit {0}

module _ (bs : List ℕ) (b : List Line) (k : ℕ) (l : Narrow k) where
  unless_stale_narrow : (o : Option Conclusion) → NarrowFinding Any (unless_stale bs b k o)
  unless_stale_narrow (Some c) = unless_narrow Any (refuses_if (is_stale bs b c) 22 k) c (fault_narrow (is_stale bs b c) 22 k (lit< tt) l) (λ e. tt)
  unless_stale_narrow None = (lit< tt, l)

  step_narrow : (s : Step) → NarrowFinding Any (stepping bs b s k)
  unfolding stepping
  step_narrow s = onward_narrow Any (rule_field_check b s k) _ (search (fault_then, fault_narrow, lit<)) (λ e. unless_stale_narrow (step_outcome bs b s))

  limits_narrow : (waiting : ℕ) (c : Conclusion) → NarrowCheck (limits_check b waiting c k)
  limits_narrow waiting c = search (fault_then, fault_narrow, lit<)

  -- a step that passes is on a branch within 01's limit of lines
  limits_short : (waiting : ℕ) (c : Conclusion) → limits_check b waiting c k ≡ passes → length b ≤ max_lines
  limits_short waiting c h =
      let p = then_passes (lines_check b c k) (waiting_check waiting c k) h in
      omega (arith, ltb-false max_lines (length b + longest (sides c)) (refuses_if_passes _ 23 k p.0))

module _ (bs ss : List ℕ) where
  -- neither a refusal's place nor a count goes beyond the number of the steps, nor a branch beyond 01's limit
  steps_narrow : (live : List (List Line)) (left k : ℕ) (n : Counts) → Narrow (k + left) → Bounded k n
      → NarrowFinding NarrowCounts (run bs live (steps_from ss k left) k n)
  unfolding run steps_from
  steps_narrow [] zero k n l h = (omega (arith, l, h.few_clashes), omega (arith, l, h.few_forks), omega (arith, h.few_most))
  steps_narrow [] (suc left) k n l h = (lit< tt, omega (arith, l))
  steps_narrow (b ∷ waiting) zero k n l h = (lit< tt, omega (arith, l))
  steps_narrow (b ∷ waiting) (suc left) k n l h =
      let small : Narrow k = omega (arith, l) in
      thereupon_narrow Any NarrowCounts (stepping bs b (step_at ss k) k) _ (step_narrow bs b k small (step_at ss k))
      (λ c. onward_narrow NarrowCounts (limits_check b (length waiting) c k) _ (limits_narrow bs b k small (length waiting) c)
      (λ e. steps_narrow (branches b (sides c) ++ waiting) left (suc k) (counted (length b) (sides c) n) (omega (arith, l))
      (counted_bounded (length b) k n (sides c) (limits_short bs b k small (length waiting) c e) h)))

closed_narrow : (s : ℕ) (f : Finding Counts) → Narrow s → NarrowFinding NarrowCounts f → NarrowFinding NarrowClosed (tableau.closed_by s f)
closed_narrow s (found n) l h = (l, h.0, h.1, h.2)
closed_narrow s (refused number place) l h = h

tableau_header_narrow : (bs ts : List ℕ) → NarrowCheck (tableau.header_check bs ts)
unfolding tableau.header_check
tableau_header_narrow bs ts = search (fault_then, fault_narrow, lit<) depth 7

pub tableau_judging_narrow : (bs ts : List ℕ) (size : ℕ) → NarrowFinding NarrowClosed (tableau.judging_of bs ts size)
unfolding tableau.judging_of tableau.judging_check tableau.run_of
tableau_judging_narrow bs ts size =
    onward_narrow NarrowClosed (tableau.judging_check bs ts size) _
    (begins_narrow bs (ltb size tableau.area_need) (tableau.header_check bs ts) (tableau_header_narrow bs ts))
    (λ e. go (omega (arith, ((closure.checks_pass bs ts size).0 e).2.steps_limited)))
  where
    go : Narrow (tableau.step_count ts) → NarrowFinding NarrowClosed (tableau.closed_by (tableau.step_count ts) (tableau.run_of bs ts))
    go l =
        closed_narrow (tableau.step_count ts) (tableau.run_of bs ts) l
        (steps_narrow bs (tableau.step_bytes ts) ((tableau.start_line bs ts ∷ []) ∷ []) (tableau.step_count ts) 0 none (omega (arith, l)) none_bounded)
