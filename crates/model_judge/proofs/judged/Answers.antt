-- `model_judge::judged` meets its contract, by the laws of `judged_by`.
-- Assumes nothing.
use Rattle.std.proofs.Common.{sym, ◌∙◌, ap₂, eqb-true}
use Rattle.nodeset.specs.Set.{width, has, size_of}
use Rattle.nodeset.specs.Members.{lowest_member}
use Rattle.decision.specs.Judged.{met}
use Rattle.decision.proofs.Judged.{judged_empty, judged_low}
use Rattle.model_judge.proofs.judged.Goals as goal

pub returns-in_default : goal.returns-in_default
returns-in_default c = let s = c.args.s in
    sym (judged_empty width (has s) (eqb-true (size_of s) 0 c.in_default.ensures))

pub returns : goal.returns
returns c = let s = c.args.s in
    let some = (lowest_member s c.in-Some.ensures.0).0 in
    ap₂ met c.in-Some.ensures.1 c.count-number.ensures ∙ sym (judged_low width (has s) some)
