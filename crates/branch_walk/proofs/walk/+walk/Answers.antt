-- `branch_walk::walk::walk` meets its contract, by the law for each way out; the number of unread steps falls.
-- Assumes nothing.
use Rattle.std.proofs.Common.{rules, ◌≡◌, sym, ◌∙◌, subst, arith, ℕ, ◌+◌, ◌<◌, length, Result, Ok}
use Rattle.branch_lines.specs.Stored.{put_line}
use Rattle.branch_end.specs.Ends.{count_fork, first_refusal, end_of, end_closed, end_refused}
use Rattle.tableau.specs.declared.finding.Counts.{Counts}
use Rattle.tableau.specs.declared.finding.WalkRefusal.{WalkRefusal}
use Rattle.branch_walk.specs.declared.straight.Stop.{Stop}
use Rattle.branch_walk.specs.Straight.{Stops}
use Rattle.branch_walk.specs.Walk.{Walks}
use Rattle.branch_walk.specs.WalkLaws.{walk_clash, walk_crowded, left_lent, right_lent, fork_bounded, walk_left_refused, walk_right}
use Rattle.branch_walk.proofs.walk.+walk.Goals.{In-Ok-Clash, In-Ok-Fork, After-walk-next}
use Rattle.branch_walk.proofs.walk.+walk.Goals as goal

-- the straight part ends at a clash
at_clash : (t : ℕ) (c : In-Ok-Clash t)
    → let a = c.args in
    Stops a.given.now.p.now a.given.now.steps.now a.given.now.s a.area.now.now a.k a.len (Ok (Stop.Clash c.in-Ok-Clash.at c.in-Ok-Clash.lines)) c.straight.new.area
at_clash t c = rw c.in-Ok-Clash.field-0-is at c.in-Ok-Clash.ensures

-- the straight part ends at a fork
at_fork : (t : ℕ) (c : In-Ok-Fork t)
    → let a = c.args in
    let f = c.in-Ok-Fork in
    Stops a.given.now.p.now a.given.now.steps.now a.given.now.s a.area.now.now a.k a.len (Ok (Stop.Fork f.at f.lines f.left f.right)) c.straight.new.area
at_fork t c = rw c.in-Ok-Fork.field-0-is at c.in-Ok-Fork.ensures

-- the walk over the left side ends so
abbrev LeftEnds : (t : ℕ) → After-walk-next t → Result (ℕ × Counts) WalkRefusal → Type 0
LeftEnds t c ending =
    let a = c.args in
    let f = c.in-Ok-Fork in
    Walks a.given.now.p.now a.given.now.steps.now a.given.now.s (put_line c.straight.new.area f.lines f.left) (f.at + 1) (f.lines + 1) (a.waiting + 1)
    (count_fork a.counts.now) ending c.walk-next.new.area.now

left_ends : (t : ℕ) (c : After-walk-next t) → LeftEnds t c (end_of c.walk-next.result c.walk-next.new.counts)
left_ends t c = rw (sym c.count_fork.ensures, sym c.store.ensures) c.walk-next.ensures.walks

-- and leaves the area as long as it was
left_kept : (t : ℕ) (c : After-walk-next t) → length c.walk-next.new.area.now ≡ length c.straight.new.area
left_kept t c = c.walk-next.ensures.long ∙ c.store.auto.area

-- the left side is closed where its answer is no refusal
left_closed : (t : ℕ) (c : After-walk-next t) → c.walk-next.result < first_refusal
    → LeftEnds t c (Ok (c.walk-next.result, c.walk-next.new.counts))
left_closed t c below = subst (LeftEnds t c) (end_closed c.walk-next.result c.walk-next.new.counts below) (left_ends t c)

pub returns-then-waiting-ge-MAX_WAITING-clause-walks : goal.returns-then-waiting-ge-MAX_WAITING-clause-walks
returns-then-waiting-ge-MAX_WAITING-clause-walks t c =
    rw (c.refusal_code-then-waiting-ge-MAX_WAITING.ensures.ends _)
    (walk_crowded (at_fork t (goal.at.returns-then-waiting-ge-MAX_WAITING-clause-walks t c).In-Ok-Fork) c.if-waiting-ge-MAX_WAITING.true)

pub walk-next-requires : goal.walk-next-requires
walk-next-requires t c =
    let stops = at_fork t (goal.at.walk-next-requires t c).In-Ok-Fork in (
      omega (arith, c.decreases, stops.says.0.later, stops.says.1.0.0),
      (
        rw c.store.ensures (left_lent stops),
        (c.requires.set_of, (search rules, rw c.count_fork.ensures (fork_bounded c.requires.waiting_le_max_waiting.1 stops))),
      ),
    )

pub returns-then-next-ge-FIRST_REFUSAL-clause-walks : goal.returns-then-next-ge-FIRST_REFUSAL-clause-walks
returns-then-next-ge-FIRST_REFUSAL-clause-walks t c =
    let w = (goal.at.returns-then-next-ge-FIRST_REFUSAL-clause-walks t c).After-walk-next in
    let stops = at_fork t (goal.at.returns-then-next-ge-FIRST_REFUSAL-clause-walks t c).In-Ok-Fork in
    let refused = end_refused c.walk-next.result c.walk-next.new.counts c.if-next-ge-FIRST_REFUSAL.true in
    rw refused (walk_left_refused stops c.if-waiting-ge-MAX_WAITING.false (subst (LeftEnds t w) refused (left_ends t w)))

pub walk-requires : goal.walk-requires
walk-requires t c =
    let w = (goal.at.walk-requires t c).After-walk-next in
    let stops = at_fork t (goal.at.walk-requires t c).In-Ok-Fork in
    let closed = left_closed t w (omega arith) in
    let end = closed.says in (
      omega (arith, c.decreases, stops.says.0.later, end.later, end.steps_left),
      (
        rw c.store-in-Ok-Fork.ensures (right_lent stops closed (left_kept t w)),
        (c.requires.set_of, (c.requires.waiting_le_max_waiting.0, end.bounded)),
      ),
    )

pub returns-in-Ok-Clash-clause-walks : goal.returns-in-Ok-Clash-clause-walks
returns-in-Ok-Clash-clause-walks t c =
    let stops = at_clash t (goal.at.returns-in-Ok-Clash-clause-walks t c).In-Ok-Clash in
    let next = c.in-Ok-Clash.at + 1 in
    let fits : next < first_refusal = omega (arith, stops.says.1.0, stops.says.0.lent.few_steps) in
    rw (end_closed next c.count_clash.new.counts fits, c.count_clash.ensures)
    (walk_clash c.requires.waiting_le_max_waiting.1 stops)

pub returns-else-next-ge-FIRST_REFUSAL-clause-walks : goal.returns-else-next-ge-FIRST_REFUSAL-clause-walks
returns-else-next-ge-FIRST_REFUSAL-clause-walks t c =
    let w = (goal.at.returns-else-next-ge-FIRST_REFUSAL-clause-walks t c).After-walk-next in
    let stops = at_fork t (goal.at.returns-else-next-ge-FIRST_REFUSAL-clause-walks t c).In-Ok-Fork in
    let closed = left_closed t w (omega arith) in
    walk_right stops c.if-waiting-ge-MAX_WAITING.false closed (left_kept t w) (rw c.store-in-Ok-Fork.ensures at c.walk.ensures.walks)
