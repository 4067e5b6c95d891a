-- `path_rows::clause_row` meets its contract, kind by kind.
-- Assumes nothing.
use Rattle.std.proofs.Common.{◌≡◌, sym, ◌∙◌, Some, true, ℕ, ◌<◌, rules}
use mathlib.Core.Bool.{false≢true}
use Rattle.nodeset.specs.declared.NodeSet.{NodeSet}
use Rattle.nodeset.specs.Set.{has}
use Rattle.relations.specs.declared.kinds.PathKind.{PathKind}
use Rattle.relations.specs.Members.{exactly_empty, exactly_union}
use Rattle.relations.specs.Covered.{Within, within_first}
use Rattle.path_rows.proofs.clause_row.Goals.{Start}
use Rattle.path_rows.proofs.clause_row.Goals as goal

-- the rows that a set of nodes below n asks for
asked : (c : Start) (s : NodeSet) → ((v : ℕ) → has s v ≡ true → v < c.args.n)
    → Within c.args.rows.now c.args.second s c.args.all
asked c s bound =
    let a = c.args in
    within_first a.rows.now a.n a.second s a.all c.requires.parts.second_fits c.requires.covers bound

pub step_row-requires : goal.step_row-requires
step_row-requires c =
    let told : c.args.kind ≡ Some PathKind.Step = search rules in
    let bounded = rw told at c.requires.parts.bounded in record {
      model_rows_in_bounds = (c.requires.parts.table_long, rw told at c.requires.parts.within_ranges, search rules);
      within = asked (goal.at.step_row-requires c).Start _ (λ v. bounded c.args.u v c.requires.u_lt_n);
      filled_below = rw told at c.requires.filled_below;
    }

pub with_name-requires : goal.with_name-requires
with_name-requires c =
    let told : c.args.kind ≡ Some PathKind.Jump = search rules in record {
      model_rows_in_bounds = c.requires.parts.table_long;
      name_le_max_name = rw told at c.requires.parts.within_ranges;
    }

pub union_within-requires : goal.union_within-requires
union_within-requires c =
    let told : c.args.kind ≡ Some PathKind.Jump = search rules in
    let bounded = rw told at c.requires.parts.bounded in
    asked (goal.at.union_within-requires c).Start _ (λ v m. bounded v (rw c.with_name.ensures at m))

pub returns-then-has : goal.returns-then-has
returns-then-has c =
    let told : c.args.kind ≡ Some PathKind.Test = search rules in
    rw (told, c.load.ensures) (λ v. (λ h. (sym c.has.ensures ∙ c.if-has.true, h), λ r. r.1))

pub returns-in-Some-Step : goal.returns-in-Some-Step
returns-in-Some-Step c =
    let told : c.args.kind ≡ Some PathKind.Step = search rules in
    rw told c.step_row.ensures

pub returns-in-Some-Jump : goal.returns-in-Some-Jump
returns-in-Some-Jump c =
    let told : c.args.kind ≡ Some PathKind.Jump = search rules in
    rw told (rw c.with_name.ensures at c.union_within.ensures)

pub returns-else-has : goal.returns-else-has
returns-else-has c =
    let told : c.args.kind ≡ Some PathKind.Test = search rules in
    rw (told, c.empty.ensures) (exactly_empty _ (λ v r. false≢true (sym c.if-has.false ∙ c.has.ensures ∙ r.0)))

pub returns-in-Some-Fork : goal.returns-in-Some-Fork
returns-in-Some-Fork c =
    let told : c.args.kind ≡ Some PathKind.Fork = search rules in
    rw (told, c.union.ensures, c.load-s.ensures, c.load-in-Some-Fork.ensures) (exactly_union _ _)

pub returns-in-None : goal.returns-in-None
returns-in-None c = rw (c.in-None.is, c.empty-in-None.ensures) (exactly_empty _ (λ v r. r))
