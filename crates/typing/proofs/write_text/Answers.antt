-- `typing::write_text` meets its contract: the tokens that were read are the text's.
-- Assumes nothing.
use Rattle.std.proofs.Common.{◌≡◌, refl, sym, ap, ◌∙◌, List, ℕ, length, []}
use Rattle.pattern.specs.Checks.Finding.{Finding, refused, written, destination_after}
use Rattle.typed_text.specs.Text.{NodeText, node}
use Rattle.text_tokens.specs.Ranged.{ranged_of}
use Rattle.typing.specs.declared.finding.TypeRefusal.{TypeRefusal}
use Rattle.typing.specs.Typing.{text_within}
use Rattle.typing.specs.Written.{tokens_held, text_ranged, text_beyond, handed_on}
use Rattle.typing.proofs.write_text.Goals.{After-from_residual}
use Rattle.typing.proofs.write_text.Goals as goal

-- a number is out of range
beyond : (c : After-from_residual) → (t : NodeText) → node t [] ≡ c.args.text.now
    → text_within t (length c.args.out.now) ≡ refused 31 c.in_err-n.field-0.0.0
beyond c t e = text_beyond t c.args.text.now e _ (length c.args.out.now) (sym (ap ranged_of c.in_err-n.was) ∙ c.read_tokens.ensures.answer)

pub returns-in_err-n-clause-finding : goal.returns-in_err-n-clause-finding
returns-in_err-n-clause-finding c = λ t e. handed_on (TypeRefusal.Range c.in_err-n.field-0.0.0) _ c.from_residual.ensures.1 ∙ sym (ap written (beyond c t e))

pub returns-in_err-n-clause-destination : goal.returns-in_err-n-clause-destination
returns-in_err-n-clause-destination c = λ t e. sym (ap (λ (f : Finding (List ℕ)). destination_after f c.args.out.now) (beyond c t e))

pub write_tokens-requires-clause-tokens_len : goal.write_tokens-requires-clause-tokens_len
write_tokens-requires-clause-tokens_len c =
    let answer = sym (ap ranged_of c.in_ok-n.was) ∙ c.read_tokens.ensures.answer in
    (tokens_held c.requires.t_value.0 c.args.text.now c.requires.t_value.1 _ answer c.read_tokens.new.tokens _ refl c.requires.text_len_bound c.read_tokens.ensures.words).0

pub write_tokens-requires-clause-tokens_of : goal.write_tokens-requires-clause-tokens_of
write_tokens-requires-clause-tokens_of c =
    let answer = sym (ap ranged_of c.in_ok-n.was) ∙ c.read_tokens.ensures.answer in
    let held = tokens_held c.requires.t_value.0 c.args.text.now c.requires.t_value.1 _ answer c.read_tokens.new.tokens _ refl c.requires.text_len_bound c.read_tokens.ensures.words in
    (c.requires.t_value.0, held.1)

pub returns-clause-finding : goal.returns-clause-finding
returns-clause-finding c = λ t e.
    let answer = sym (ap ranged_of c.in_ok-n.was) ∙ c.read_tokens.ensures.answer in
    let held = tokens_held t c.args.text.now e _ answer c.read_tokens.new.tokens _ refl c.requires.text_len_bound c.read_tokens.ensures.words in
    c.write_tokens.ensures.finding t held.1 ∙ ap written (text_ranged t c.args.text.now e _ answer (length c.args.out.now))

pub returns-clause-destination : goal.returns-clause-destination
returns-clause-destination c = λ t e.
    let answer = sym (ap ranged_of c.in_ok-n.was) ∙ c.read_tokens.ensures.answer in
    let held = tokens_held t c.args.text.now e _ answer c.read_tokens.new.tokens _ refl c.requires.text_len_bound c.read_tokens.ensures.words in
    c.write_tokens.ensures.destination t held.1
    ∙ ap (λ (f : Finding (List ℕ)). destination_after f c.args.out.now) (text_ranged t c.args.text.now e _ answer (length c.args.out.now))
