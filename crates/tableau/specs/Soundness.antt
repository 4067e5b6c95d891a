-- Demand 3 for tableaux: where a tableau closes, no data model has a node where the root holds.
-- Assumes nothing.
use Rattle.std.proofs.Common.{sym, arith}
use Rattle.std.specs.Prelude.{List, ℕ, ◌-◌}
use Rattle.pattern.specs.Logic.Semantics.{Model, Naming, Holds}
use Rattle.pattern.specs.Logic.Finite.{model_of, naming_of}
use Rattle.pattern.specs.File.Reading.{count_of}
use Rattle.pattern.specs.File.Valid.{Valid}
use Rattle.pattern.specs.Meaning.Expression.{root_of}
use Rattle.lines.specs.declared.line.Line.{Line}
use Rattle.steps.specs.declared.step.Step.{Step}
use Rattle.lines.specs.Formed.{IsNode, AllFormed, formed_append}
use Rattle.lines.specs.Truth.{AllTrue, true_append}
use Rattle.lines.specs.Naming.{renamed, renamed_same, moved_holds}
use Rattle.soundness.specs.FormedRules.{EachFormed, step_formed}
use Rattle.soundness.specs.Sound.{EachRefuted, step_sound, renamed_true}
use Rattle.tableau.specs.declared.finding.Closed.{Closed}
use Rattle.tableau.specs.Closing.{Closes, CloseEach, step, none, side}
use Rattle.tableau.specs.Judging.{start_of}
use Rattle.tableau.specs.Closure.{Closure, ExcludedEverywhere, Excluded}

module _ {bs : List ℕ} {n : ℕ} (ok : Valid bs n) (M : Model) where
  -- The lines of a branch that closes aren't all true, in any data model and under any naming. Each side of a step is refuted by itself, and
  -- the rule's soundness makes ⊥ of the refutations: no side is chosen. Under a naming that gives the new names other nodes the lines of the
  -- branch stay true.
  mutual
    pub sound : (nom : Naming M) {b : List Line} {ss left : List Step} → Closes bs b ss left → AllFormed bs n b → AllTrue bs M nom b → ⊥
    sound nom (step {b} {s} c f e) formed so =
        (step_sound ok M nom b formed so s c f).not_all_refuted
        (λ nom' renames. each_refuted nom' e formed (step_formed ok b formed s c f)
        (renamed_true ok M nom nom' b s c f renames formed so))

    each_refuted : (nom : Naming M) {b : List Line} {news : List (List Line)} {ss left : List Step} → CloseEach bs b news ss left
        → AllFormed bs n b → EachFormed bs n news → AllTrue bs M nom b → EachRefuted bs M nom news
    each_refuted nom none formed each so = tt
    each_refuted nom (side {b} {new} d e) formed each so = (
      λ truly. sound nom d (formed_append bs n b new formed each.0) (true_append bs M nom b new so truly),
      each_refuted nom e formed each.1 so,
    )

-- A closed tableau excludes the root: over every abstract data model, of whatever nodes, and every naming. The start name isn't used in the
-- pattern, so that it may be that of the node.
pub excludes : {bs ts : List ℕ} {size : ℕ} {c : Closed} → Closure bs ts size c → (M : Model) (nom : Naming M) (u : M.Node)
    → Holds M nom (root_of bs) u → ⊥
excludes {bs} {ts} closure M nom u holds =
    let i = start_of ts in
    let ok = closure.pattern_valid in
    let root = count_of bs - 1 in
    let node : IsNode bs (count_of bs) root = (omega (arith, ok.header.some_entry), ok.root_node) in
    let starts = moved_holds ok M nom i u closure.header_valid.start_unused root node (sym (renamed_same M nom i u)) holds in
    sound ok M (renamed M nom i u) closure.closes (node, tt) (starts, tt)

-- what is excluded everywhere is excluded in the finite ones
pub excluded_finite : (bs : List ℕ) → ExcludedEverywhere bs → Excluded bs
excluded_finite bs everywhere F ok x = everywhere (model_of F) (naming_of F ok) x
