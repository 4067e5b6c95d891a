-- `typing::type_pattern` meets its contract: `write_pattern` keeps the promise, from which the clause `everywhere` follows.
-- Assumes nothing.
use contract.Running.{tables_of}
use borrow.Fn.Function.{plain_of}
use borrow.Fn.Run.{Over}
use borrow.Fn.World.{World}
use borrow.Fn.Written as closing
use borrow.Author.Rules.{rules}
use Rattle.typing.proofs.Findings.{typed_everywhere}
use Rattle.typing.proofs.Everywhere.{held}
use Rattle.typing.proofs.type_pattern.Statement.{statement}
use Rattle.typing.proofs.type_pattern.Tie as tie
use Rattle.typing.proofs.type_pattern.Lts as lts
use Rattle.typing.proofs.type_pattern.Reads as reads
use Rattle.typing.proofs.type_pattern.Code as code
use Rattle.typing.specs.contracts.type_pattern.Key as key
use Rattle.typing.proofs.type_pattern.Kinds as kinds

write_pattern-requires : tie.Need-write_pattern-requires
write_pattern-requires c κs = tt

shape_of-out : tie.Need-shape_of-out
shape_of-out c = search rules

returns : tie.Need-returns
returns c = c.write_pattern.ensures

-- the clause over every data model, by the promise
passes : (w : World) → closing.Passes 2 kinds.ps kinds.r reads.Ghost reads.requires reads.ensures reads.pre_read reads.Pinned reads.Owned reads.post_read w
passes w κs a g r ws ft p q = held w _ (typed_everywhere q)

pub type_pattern_spec : {M : Type 1} → statement M
unfolding tables_of
type_pattern_spec {M} 𝓤 𝓛 𝓜 𝓡 wired =
    let w : World = record { M = M; 𝓤 = 𝓤; 𝓛 = 𝓛; 𝓜 = 𝓜; 𝓡 = 𝓡 } in
    closing.close 2 kinds.ps kinds.r reads.Ghost reads.requires reads.ensures reads.pre_read reads.Pinned reads.Owned reads.post_read w
    𝓡.env key.name code.function (code.unfolded 𝓤 𝓛.H 𝓜 𝓡 wired) (λ κs a g. tt) (λ κs. reads.owns κs w) (passes w)
    (λ g. closing.at_code 𝓤 𝓛.H (Over 𝓛 𝓜 𝓡 𝓡.env).C (Over 𝓛 𝓜 𝓡 𝓡.env).Λ lts.function code.function tie.same_locals tie.same_body
    (plain_of 𝓛 2 lts.ps lts.r reads.Pre reads.Post)
    (tie.spec write_pattern-requires shape_of-out returns 𝓤 𝓛 (Over 𝓛 𝓜 𝓡 𝓡.env) (tie.known-0 𝓤 𝓛 𝓜 𝓡 wired)))
