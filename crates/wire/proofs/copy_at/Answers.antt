-- `wire::copy_at` meets its contract: each pass stores one byte more, and what is left to store after it is the rest of the bytes.
-- Assumes nothing.
use Rattle.std.proofs.Common.{rules, refl, sym, ap, ◌∙◌, ℕ, List, length-set, drop_of_length-le}
use Rattle.wire.specs.Blocks.{put_from, from_next}
use Rattle.wire.proofs.copy_at.Goals as goal

pub loop-k-init : goal.loop-k-init
loop-k-init c = (refl, refl)

pub loop-k-preserved : goal.loop-k-preserved
loop-k-preserved c =
    let a = c.args in (
      simp length-set c.loop-k.invariant.0,
      from_next c.loop-k.out a.at c.loop-k.k a.bytes.now (search rules) ∙ c.loop-k.invariant.1,
    )

pub returns : goal.returns
returns c =
    let a = c.args in
    ap (λ (bs : List ℕ). put_from c.loop-k.out a.at c.loop-k.k bs) (sym (drop_of_length-le a.bytes.now {i = c.loop-k.k} (search rules)))
    ∙ c.loop-k.invariant.1
