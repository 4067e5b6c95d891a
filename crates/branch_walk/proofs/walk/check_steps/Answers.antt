-- `branch_walk::walk::check_steps` meets its contract: the walk begins on line 0, and the area is cleared.
-- Assumes nothing.
use Rattle.std.proofs.Common.{rules, ◌∙◌, ap, arith}
use Rattle.pattern.proofs.File.Valid.{valid}
use Rattle.branch_end.specs.Ends.{finished}
use Rattle.branch_walk.specs.WalkLaws.{first_lent, none_bounded, walk_finishes, finished_clears}
use Rattle.branch_walk.proofs.walk.check_steps.Goals as goal

pub overflow_sub-first : goal.overflow_sub-first
overflow_sub-first c =
    let ok = valid _ _ c.requires.p_value in
    omega (arith, ok.header.some_entry, ok.count_is)

pub walk_first-requires : goal.walk_first-requires
walk_first-requires c = record {
  walk_lent = rw c.store.ensures
      (first_lent c.args.area.now c.args.start c.requires.p_value c.requires.steps_len.0 c.requires.steps_len.1 c.requires.area_len);
  set_of = c.requires.set_of;
  bounded = none_bounded;
}

pub returns-clause-finding : goal.returns-clause-finding
returns-clause-finding c =
    c.finish.ensures ∙ ap (finished c.args.s) c.end_of.ensures
    ∙ walk_finishes c.args.area.now _ (search rules) (rw c.store.ensures at c.walk_first.ensures.walks)

pub returns-clause-clears : goal.returns-clause-clears
returns-clause-clears c = λ xs. rw c.finish.ensures (finished_clears c.args.s c.end_of.result xs)
