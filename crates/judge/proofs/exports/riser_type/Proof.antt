-- `judge::exports::riser_type` meets its contract: it packs what typing finds; the clause `everywhere` follows from the promise.
-- Assumes nothing.
use contract.Running.{tables_of}
use borrow.Fn.Function.{plain_of}
use borrow.Fn.Run.{Over}
use borrow.Fn.World.{World}
use borrow.Fn.Written as closing
use borrow.Author.Rules.{rules}
use Rattle.typing.specs.Typing.{finding_of}
use Rattle.typing.proofs.Findings.{typed_everywhere}
use Rattle.judge.specs.Told.{type_told}
use Rattle.typing.proofs.Everywhere.{held}
use Rattle.judge.proofs.exports.riser_type.Statement.{statement}
use Rattle.judge.proofs.exports.riser_type.Tie as tie
use Rattle.judge.proofs.exports.riser_type.Lts as lts
use Rattle.judge.proofs.exports.riser_type.Reads as reads
use Rattle.judge.proofs.exports.riser_type.Code as code
use Rattle.judge.specs.contracts.exports.riser_type.Key as key
use Rattle.judge.proofs.exports.riser_type.Kinds as kinds

type_pattern-requires : tie.Need-type_pattern-requires
type_pattern-requires c κs = search rules

type_answer-requires : tie.Need-type_answer-requires
type_answer-requires c κs = search rules

shape_of-out : tie.Need-shape_of-out
shape_of-out c = search rules

returns : tie.Need-returns
returns c =
    type_told c.args.text.now c.args.out.now _ (finding_of c.type_pattern.result) _ c.type_pattern.ensures c.type_answer.ensures

-- the clause over every data model, by the promise
passes : (w : World) → closing.Passes 2 kinds.ps kinds.r reads.Ghost reads.requires reads.ensures reads.pre_read reads.Pinned reads.Owned reads.post_read w
passes w κs a g r ws ft p q = held w _ (λ f h. typed_everywhere (q.1.1 f h))

pub riser_type_spec : {M : Type 1} → statement M
unfolding tables_of
riser_type_spec {M} 𝓤 𝓛 𝓜 𝓡 wired =
    let w : World = record { M = M; 𝓤 = 𝓤; 𝓛 = 𝓛; 𝓜 = 𝓜; 𝓡 = 𝓡 } in
    closing.close 2 kinds.ps kinds.r reads.Ghost reads.requires reads.ensures reads.pre_read reads.Pinned reads.Owned reads.post_read w
    𝓡.env key.name code.function (code.unfolded 𝓤 𝓛.H 𝓜 𝓡 wired) (λ κs a g. tt) (λ κs. reads.owns κs w) (passes w)
    (λ g. closing.at_code 𝓤 𝓛.H (Over 𝓛 𝓜 𝓡 𝓡.env).C (Over 𝓛 𝓜 𝓡 𝓡.env).Λ lts.function code.function tie.same_locals tie.same_body
    (plain_of 𝓛 2 lts.ps lts.r reads.Pre reads.Post)
    (tie.spec type_pattern-requires type_answer-requires shape_of-out returns 𝓤 𝓛 (Over 𝓛 𝓜 𝓡 𝓡.env) (tie.known-0 𝓤 𝓛 𝓜 𝓡 wired) (tie.known-1 𝓤 𝓛 𝓜 𝓡 wired)))
