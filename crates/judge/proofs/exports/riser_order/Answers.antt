-- `judge::exports::riser_order` meets its contract: it packs what putting in order finds.
-- Assumes nothing.
use Rattle.model_order.specs.Ordering.{finding_of}
use Rattle.judge.specs.Told.{order_told}
use Rattle.judge.proofs.exports.riser_order.Goals as goal

pub returns : goal.returns
returns c =
    let is = order_told c.args.d.now c.args.out.now _ (finding_of c.put_in_order.result) _ c.put_in_order.ensures c.order_answer.ensures in
    record { answer = is.0; finding = is.1.0; promise = is.1.1 }
