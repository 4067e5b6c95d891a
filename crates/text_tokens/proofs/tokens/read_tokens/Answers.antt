-- `text_tokens::tokens::read_tokens` meets its contract: between two tokens those before are stored and held to their ranges.
-- Assumes nothing.
use Rattle.std.proofs.Common.{sym, ◌∙◌, arith}
use Rattle.text_tokens.specs.SoFar.{none_yet, token_is, end_is, one_more, all_words, all_within}
use Rattle.text_tokens.proofs.tokens.read_tokens.Goals as goal

pub loop-token-init : goal.loop-token-init
loop-token-init c = let a = c.args in none_yet a.text.now a.tokens.now

pub loop-token-preserved : goal.loop-token-preserved
loop-token-preserved c = let xs = c.args.text.now in
    let told = token_is xs c.loop-token.at c.in-Some.token (sym c.next.ensures ∙ c.in-Some.is) in
    one_more c.loop-token.invariant (omega arith) told.0 c.in-Some.token told.1 c.word.result c.beyond_after-beyond.result c.word.ensures
    c.beyond_after-beyond.ensures

pub returns-in-None-clause-answer : goal.returns-in-None-clause-answer
returns-in-None-clause-answer c = let xs = c.args.text.now in
    all_within c.loop-token.invariant (end_is xs c.loop-token.at (sym c.next.ensures ∙ c.in_default.is)) c.in-None.is

pub returns-in-None-clause-words : goal.returns-in-None-clause-words
returns-in-None-clause-words c = let xs = c.args.text.now in
    all_words c.loop-token.invariant (end_is xs c.loop-token.at (sym c.next.ensures ∙ c.in_default.is))

pub returns-in-Some-beyond-clause-words : goal.returns-in-Some-beyond-clause-words
returns-in-Some-beyond-clause-words c = let xs = c.args.text.now in
    all_words c.loop-token.invariant (end_is xs c.loop-token.at (sym c.next.ensures ∙ c.in_default.is))
