-- `judge::judge_tableau` meets its contract: it is what `tableau_judge` found, so it keeps the promise, and the clause `everywhere` follows
-- from that.
-- Assumes nothing.
use contract.Running.{tables_of}
use borrow.Fn.Function.{plain_of}
use borrow.Fn.Run.{Over}
use borrow.Fn.World.{World}
use borrow.Fn.Written as closing
use borrow.Author.Rules.{rules}
use Rattle.tableau.specs.Judging.{finding_of}
use Rattle.judge.specs.Together.{tableau_promised, closed_everywhere}
use Rattle.typing.proofs.Everywhere.{held}
use Rattle.judge.proofs.judge_tableau.Statement.{statement}
use Rattle.judge.proofs.judge_tableau.Tie as tie
use Rattle.judge.proofs.judge_tableau.Lts as lts
use Rattle.judge.proofs.judge_tableau.Reads as reads
use Rattle.judge.proofs.judge_tableau.Code as code
use Rattle.judge.specs.contracts.judge_tableau.Key as key
use Rattle.judge.proofs.judge_tableau.Kinds as kinds

judge-requires : tie.Need-judge-requires
judge-requires c κs = search rules

shape_of-area : tie.Need-shape_of-area
shape_of-area c = search rules

returns : tie.Need-returns
returns c =
    tableau_promised c.args.p.now c.args.t.now c.args.area.now _ (finding_of c.judge.result) c.judge.ensures.0 c.judge.ensures.1

-- the clause over every data model, by the promise
passes : (w : World) → closing.Passes 3 kinds.ps kinds.r reads.Ghost reads.requires reads.ensures reads.pre_read reads.Pinned reads.Owned reads.post_read w
passes w κs a g r ws ft p q = held w _ (λ c e. closed_everywhere q c e)

pub judge_tableau_spec : {M : Type 1} → statement M
unfolding tables_of
judge_tableau_spec {M} 𝓤 𝓛 𝓜 𝓡 wired =
    let w : World = record { M = M; 𝓤 = 𝓤; 𝓛 = 𝓛; 𝓜 = 𝓜; 𝓡 = 𝓡 } in
    closing.close 3 kinds.ps kinds.r reads.Ghost reads.requires reads.ensures reads.pre_read reads.Pinned reads.Owned reads.post_read w
    𝓡.env key.name code.function (code.unfolded 𝓤 𝓛.H 𝓜 𝓡 wired) (λ κs a g. tt) (λ κs. reads.owns κs w) (passes w)
    (λ g. closing.at_code 𝓤 𝓛.H (Over 𝓛 𝓜 𝓡 𝓡.env).C (Over 𝓛 𝓜 𝓡 𝓡.env).Λ lts.function code.function tie.same_locals tie.same_body
    (plain_of 𝓛 3 lts.ps lts.r reads.Pre reads.Post)
    (tie.spec judge-requires shape_of-area returns 𝓤 𝓛 (Over 𝓛 𝓜 𝓡 𝓡.env) (tie.known-0 𝓤 𝓛 𝓜 𝓡 wired)))
