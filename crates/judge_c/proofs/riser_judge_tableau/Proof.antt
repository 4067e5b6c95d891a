-- `judge_c::riser_judge_tableau` meets its contract: it answers what `judge::exports::riser_judge_tableau` does; the clause `everywhere` follows from the promise.
-- Assumes nothing.
use contract.Running.{tables_of}
use borrow.Fn.Function.{plain_of}
use borrow.Fn.Run.{Over}
use borrow.Fn.World.{World}
use borrow.Fn.Written as closing
use borrow.Author.Rules.{rules}
use Rattle.typing.proofs.Everywhere.{held}
use Rattle.judge.specs.Told.{told_everywhere}
use Rattle.judge_c.proofs.riser_judge_tableau.Statement.{statement}
use Rattle.judge_c.proofs.riser_judge_tableau.Tie as tie
use Rattle.judge_c.proofs.riser_judge_tableau.Lts as lts
use Rattle.judge_c.proofs.riser_judge_tableau.Reads as reads
use Rattle.judge_c.proofs.riser_judge_tableau.Code as code
use Rattle.judge_c.specs.contracts.riser_judge_tableau.Key as key
use Rattle.judge_c.proofs.riser_judge_tableau.Kinds as kinds

riser_judge_tableau-requires : tie.Need-riser_judge_tableau-requires
riser_judge_tableau-requires c κs = search rules

shape_of-area : tie.Need-shape_of-area
shape_of-area c = search rules

returns : tie.Need-returns
returns c = search rules

-- the clause over every data model, by the promise
passes : (w : World) → closing.Passes 3 kinds.ps kinds.r reads.Ghost reads.requires reads.ensures reads.pre_read reads.Pinned reads.Owned reads.post_read w
passes w κs a g r ws ft p q = held w _ (told_everywhere q.0 q.1.0 q.1.1.0)

pub riser_judge_tableau_spec : {M : Type 1} → statement M
unfolding tables_of
riser_judge_tableau_spec {M} 𝓤 𝓛 𝓜 𝓡 wired =
    let w : World = record { M = M; 𝓤 = 𝓤; 𝓛 = 𝓛; 𝓜 = 𝓜; 𝓡 = 𝓡 } in
    closing.close 3 kinds.ps kinds.r reads.Ghost reads.requires reads.ensures reads.pre_read reads.Pinned reads.Owned reads.post_read w
    𝓡.env key.name code.function (code.unfolded 𝓤 𝓛.H 𝓜 𝓡 wired) (λ κs a g. tt) (λ κs. reads.owns κs w) (passes w)
    (λ g. closing.at_code 𝓤 𝓛.H (Over 𝓛 𝓜 𝓡 𝓡.env).C (Over 𝓛 𝓜 𝓡 𝓡.env).Λ lts.function code.function tie.same_locals tie.same_body
    (plain_of 𝓛 3 lts.ps lts.r reads.Pre reads.Post)
    (tie.spec riser_judge_tableau-requires shape_of-area returns 𝓤 𝓛 (Over 𝓛 𝓜 𝓡 𝓡.env) (tie.known-0 𝓤 𝓛 𝓜 𝓡 wired)))
