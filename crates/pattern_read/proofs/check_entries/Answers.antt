-- `pattern_read::check_entries` meets its contract: every entry passed has passed its check, by the laws of `each_below`.
-- Assumes nothing.
use Rattle.std.proofs.Common.{rules, sym, ap, ◌∙◌, arith, length-set, below_none, below_more}
use Rattle.pattern.specs.Checks.Tests.{err_is}
use Rattle.pattern.specs.Checks.Range.{each_below_law, each_first}
use Rattle.pattern_read.specs.Enums.{check_of}
use Rattle.repeats.specs.Slots.{seen_next}
use Rattle.pattern_read.proofs.check_entries.Goals as goal

pub loop-k-init : goal.loop-k-init
loop-k-init c = (search rules, search rules, search rules, below_none _, below_none _)

pub returns-in_err-check_entry : goal.returns-in_err-check_entry
returns-in_err-check_entry c =
    ap check_of (err_is _ _ c.from_residual.ensures.1)
    ∙ sym
    (each_first _ _ c.loop-k.k _ _ (search rules) c.loop-k.invariant.4
    (sym c.check_entry.ensures ∙ ap check_of c.in_err-check_entry.was))

pub loop-k-preserved : goal.loop-k-preserved
loop-k-preserved c = (
  search rules,
  search rules,
  rw (c.mark.ensures, length-set) c.loop-k.invariant.2,
  rw c.mark.ensures (seen_next c.args.p.now c.loop-k.seen c.loop-k.k c.loop-k.invariant.2 c.loop-k.invariant.3),
  below_more _ _ c.loop-k.invariant.4 (sym c.check_entry.ensures ∙ ap check_of c.in_ok-check_entry.was),
)

pub returns : goal.returns
returns c =
    sym (each_below_law _ _ (λ i h. c.loop-k.invariant.4 i (omega arith)))
