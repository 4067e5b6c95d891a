-- `steps::take::take` meets its contract: the checks are those of `stepping`, in its order. What each test shows is said once, at the place
-- behind it.
-- Assumes nothing.
use Rattle.std.proofs.Common.{◌≡◌, refl, sym, ◌∙◌, Bool, false}
use borrow.Author.Tests.{not-true, not-false}
use Rattle.rules.specs.Rules.{rule_at, is_unknown}
use Rattle.branch_lines.specs.Stored.{lines_from, length_lines}
use Rattle.steps.specs.Steps.{field_fault, is_stale, stepping}
use Rattle.steps.specs.AtStep.{readable}
use Rattle.steps.proofs.take.take.Goals.{Else-not-is_known, After-field_fault, After-is_stale}
use Rattle.steps.proofs.take.take.Goals as goal

known : (c : Else-not-is_known) → is_unknown (rule_at c.args.s.rule) ≡ false
known c = not-true _ (sym c.is_known.ensures ∙ c.if-not-is_known.false)

fields : (c : After-field_fault) {t : Bool}
    → c.field_fault.result ≡ t
    → let a = c.args in
    field_fault (lines_from a.area.now 0 a.len) a.s ≡ t
fields c h =
    let a = c.args in
    sym (c.field_fault.ensures (lines_from a.area.now 0 a.len) (length_lines a.area.now 0 a.len)) ∙ h

pub returns-then-not-is_known : goal.returns-then-not-is_known
unfolding stepping
returns-then-not-is_known c =
    let rule = c.args.s.rule in
    rw (not-false (is_unknown (rule_at rule)) (sym c.is_known.ensures ∙ c.if-not-is_known.true)) refl

pub returns-then-field_fault : goal.returns-then-field_fault
unfolding stepping
returns-then-field_fault c = rw (known (goal.at.returns-then-field_fault c).Else-not-is_known, fields (goal.at.returns-then-field_fault c).After-field_fault c.if-field_fault.true) refl

pub step_outcome-requires : goal.step_outcome-requires
step_outcome-requires c = record {
  readable = readable c.requires.at_step;
  s_value = fields (goal.at.step_outcome-requires c).After-field_fault c.if-field_fault.false;
}

pub returns-in_default : goal.returns-in_default
unfolding stepping
returns-in_default c =
    rw (
      known (goal.at.returns-in_default c).Else-not-is_known,
      fields (goal.at.returns-in_default c).After-field_fault c.if-field_fault.false,
      sym c.step_outcome.ensures ∙ c.in_default.is,
    ) refl

stale : (c : After-is_stale) {t : Bool}
    → c.is_stale.result ≡ t
    → let a = c.args in
    is_stale a.p.now (lines_from a.area.now 0 a.len) c.in-Some.conclusion ≡ t
stale c h =
    sym (c.is_stale.ensures _ c.requires.set_of) ∙ h

pub returns-then-is_stale : goal.returns-then-is_stale
unfolding stepping
returns-then-is_stale c =
    rw (
      known (goal.at.returns-then-is_stale c).Else-not-is_known,
      fields (goal.at.returns-then-is_stale c).After-field_fault c.if-field_fault.false,
      sym c.step_outcome.ensures ∙ c.in-Some.is,
      stale (goal.at.returns-then-is_stale c).After-is_stale c.if-is_stale.true,
    ) refl

pub returns : goal.returns
unfolding stepping
returns c =
    rw (
      known (goal.at.returns c).Else-not-is_known,
      fields (goal.at.returns c).After-field_fault c.if-field_fault.false,
      sym c.step_outcome.ensures ∙ c.in-Some.is,
      stale (goal.at.returns c).After-is_stale c.if-is_stale.false,
    ) refl
