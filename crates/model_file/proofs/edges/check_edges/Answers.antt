-- `model_file::edges::check_edges` meets its contract: every record passed has passed its check, by the laws of `each_below`, and the least
-- number is that of the order.
-- Assumes nothing.
use Rattle.std.proofs.Common.{below_none, below_more, lt-ltb, le-ltb, ◌≡◌, refl, sym, ap, ap₂, ◌∙◌, Bool, true, false, not, arith, ltb}
use Rattle.std.proofs.lemmas.Result.{err_from_is_err_and}
use Rattle.pattern.specs.Checks.Range.{each_below_law, each_first}
use Rattle.model_records.specs.Order.{edge_at, in_order}
use Rattle.model_records.specs.Rising.{rank_of, least_behind, least_next}
use Rattle.model_records.proofs.Rising.{order_ranked}
use Rattle.model_records.specs.Valid.{edge_decides, order_refuses, order_passes}
use Rattle.model_file.proofs.edges.check_edges.Goals.{After-edge_rank-rank}
use Rattle.model_file.proofs.edges.check_edges.Goals as goal

pub loop-i-init : goal.loop-i-init
loop-i-init c = (below_none _, refl)

pub returns-in_err-check_edge : goal.returns-in_err-check_edge
returns-in_err-check_edge c =
    let p = err_from_is_err_and c.from_residual.result c.from_residual.ensures.1 in
    rw (p.1, p.2)
    (sym
    (each_first _ _ c.loop-i.i _ _ (rw c.edge_count-i-end.ensures at c.loop-i-test.true) c.loop-i.invariant.0
    (edge_decides _ _ _ _ _ (sym c.in_err-check_edge.ensures))))

-- the record's number
number : (c : After-edge_rank-rank) → c.edge_rank-rank.result ≡ rank_of (edge_at c.args.d.now c.loop-i.i)
number c = c.edge_rank-rank.ensures ∙ ap rank_of c.at.ensures

-- it stands in order where its number isn't below the least
ranked : (c : After-edge_rank-rank) (t : Bool)
    → let a = c.args in
    ltb c.edge_rank-rank.result c.loop-i.least ≡ t → in_order a.order a.d.now c.loop-i.i ≡ not t
ranked c t h =
    order_ranked c.args.d.now (λ k. omega (arith, c.type_inv.d k)) c.args.order c.loop-i.i
    ∙ ap not (ap₂ ltb (sym (number c)) (sym c.loop-i.invariant.1) ∙ h)

pub returns-then-rank-least : goal.returns-then-rank-least
returns-then-rank-least c =
    let at = (goal.at.returns-then-rank-least c).After-edge_rank-rank in
    sym
    (each_first _ _ c.loop-i.i _ _ (rw c.edge_count-i-end.ensures at c.loop-i-test.true) c.loop-i.invariant.0
    (order_refuses _ _ _ (sym c.in_ok-check_edge.ensures) (ranked at true (lt-ltb _ _ c.if-rank-least.true))))

pub loop-i-preserved : goal.loop-i-preserved
loop-i-preserved c =
    let at = (goal.at.loop-i-preserved c).After-edge_rank-rank in
    let order = c.args.order in (
      below_more _ _ c.loop-i.invariant.0
          (order_passes _ _ _ (sym c.in_ok-check_edge.ensures) (ranked at false (le-ltb _ _ c.if-rank-least.false))),
      c.least_behind-least.ensures ∙ ap (least_behind order) (number at) ∙ sym (least_next order _ c.loop-i.i),
    )

pub returns : goal.returns
returns c = sym (each_below_law _ _ (λ j h. c.loop-i.invariant.0 j (omega (arith, c.edge_count-i-end.ensures))))
