-- `model_file::check_names` meets its contract: every record passed has passed its check, by the laws of `each_below`, and the
-- set has their names.
-- Assumes nothing.
use Rattle.std.proofs.Common.{below_none, below_more, ◌≤◌, sym, arith}
use Rattle.std.proofs.lemmas.Result.{err_from_is_err_and}
use Rattle.pattern.specs.Checks.Range.{each_below_law, each_first}
use Rattle.pattern.specs.File.Types.{max_name}
use Rattle.model_records.specs.Layout.{name_of}
use Rattle.model_records.specs.Valid.{name_passes}
use Rattle.model_file.specs.Listing.{listed_none, listed_more}
use Rattle.model_file.proofs.check_names.Goals.{In_ok-check_name}
use Rattle.model_file.proofs.check_names.Goals as goal

pub loop-j-init : goal.loop-j-init
loop-j-init c = (listed_none c.args.d.now c.empty-seen.result c.empty-seen.ensures, below_none _)

pub returns-in_err-check_name : goal.returns-in_err-check_name
returns-in_err-check_name c =
    let p = err_from_is_err_and c.from_residual.result c.from_residual.ensures.1 in
    rw (p.1, p.2)
    (sym
    (each_first _ _ c.loop-j.j _ _ (rw c.name_count-j-end.ensures at c.loop-j-test.true) c.loop-j.invariant.1
    (sym c.in_err-check_name.ensures)))

-- where the loop goes on, the record has passed its check
name_within : (c : In_ok-check_name)
    → name_of c.args.d.now c.loop-j.j ≤ max_name
name_within c = (name_passes _ _ (sym c.in_ok-check_name.ensures)).name_within

pub insert-seen-requires : goal.insert-seen-requires
insert-seen-requires c = rw c.at.ensures.name (name_within (goal.at.insert-seen-requires c).In_ok-check_name)

pub loop-j-preserved : goal.loop-j-preserved
loop-j-preserved c = (
  listed_more c.args.d.now c.loop-j.j c.at.result.name c.loop-j.seen c.insert-seen.result
      c.at.ensures.name (name_within (goal.at.loop-j-preserved c).In_ok-check_name) c.insert-seen.ensures c.loop-j.invariant.0,
  below_more _ _ c.loop-j.invariant.1 (sym c.in_ok-check_name.ensures),
)

pub returns : goal.returns
returns c = sym (each_below_law _ _ (λ i h. c.loop-j.invariant.1 i (omega (arith, c.name_count-j-end.ensures))))
