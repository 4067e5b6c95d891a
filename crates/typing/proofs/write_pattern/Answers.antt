-- `typing::write_pattern` meets its contract: by what the bytes are found to be, and the promise follows from finding and destination.
-- Assumes nothing.
use Rattle.std.proofs.Common.{sym, ap, ◌∙◌, List, ℕ, length}
use Rattle.pattern.specs.Checks.Finding.{Finding, written, destination_after}
use Rattle.typed_text.proofs.Viable.{place_faulty, place_whole}
use Rattle.text_tokens.specs.Stack.{grammar_of}
use Rattle.typing.specs.declared.finding.TypeRefusal.{TypeRefusal}
use Rattle.typing.specs.Written.{handed_on}
use Rattle.typing.proofs.Findings.{typing_long, typing_text, typing_fault, promise}
use Rattle.typing.proofs.write_pattern.Goals as goal

pub returns-then-text-gt-TEXT_BYTES : goal.returns-then-text-gt-TEXT_BYTES
returns-then-text-gt-TEXT_BYTES c =
    let is = typing_long c.args.text.now (length c.args.out.now) c.if-text-gt-TEXT_BYTES.true in
    promise c.args.text.now c.args.out.now _ _ (sym (ap written is)) (sym (ap (λ (f : Finding (List ℕ)). destination_after f c.args.out.now) is))

pub returns-in_err-check : goal.returns-in_err-check
returns-in_err-check c =
    let fault = place_faulty c.args.text.now _ (sym c.check.ensures ∙ ap grammar_of c.in_err-check.was) in
    let is = typing_fault c.args.text.now (length c.args.out.now) c.if-text-gt-TEXT_BYTES.false _ fault in
    promise c.args.text.now c.args.out.now _ _ (handed_on (TypeRefusal.Grammar c.in_err-check.field-0.0.0) _ c.from_residual.ensures.1 ∙ sym (ap written is))
    (sym (ap (λ (f : Finding (List ℕ)). destination_after f c.args.out.now) is))

pub write_text-requires-clause-t_value : goal.write_text-requires-clause-t_value
write_text-requires-clause-t_value c = place_whole c.args.text.now (sym c.check.ensures ∙ ap grammar_of c.in_ok-check.was)

pub returns : goal.returns
returns c =
    let text = place_whole c.args.text.now (sym c.check.ensures ∙ ap grammar_of c.in_ok-check.was) in
    let is = typing_text c.args.text.now (length c.args.out.now) c.if-text-gt-TEXT_BYTES.false text.0 text.1 in
    let done = c.write_text.ensures in
    promise c.args.text.now c.args.out.now _ _ (done.finding text.0 text.1 ∙ sym (ap written is))
    (done.destination text.0 text.1 ∙ sym (ap (λ (f : Finding (List ℕ)). destination_after f c.args.out.now) is))
