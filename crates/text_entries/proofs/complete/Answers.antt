-- `text_entries::complete` meets its contract: what lies on the stack completes to the root's entries, step by step (`Stack`).
-- Assumes nothing.
use Rattle.std.proofs.Common.{◌≡◌, sym, ap, subst, ◌∙◌, ◌≤◌, arith, List, Ok, length, take, take_all}
use Rattle.wire.specs.Onto.{onto}
use Rattle.typed_file.specs.Entries.{Entry, entries_of, entry_bytes}
use Rattle.typed_file.specs.Trees.{Tree}
use Rattle.text_cells.specs.Cells.{cell_once}
use Rattle.text_entries.specs.Completing.{counted_as, told_many, told_all}
use Rattle.text_entries.specs.Stack.{head, cell_is, going_start, going_end, going_open, entries_long, kind_small, full_step, placed_step}
use Rattle.text_entries.proofs.complete.Goals as goal

pub loop-at-init : goal.loop-at-init
loop-at-init c =
    let r = c.requires in
    (r.cell_is.0, (r.cell_is.1, going_start r.entries_len c.args.count r.le_count.0 r.le_count.1 r.cell_is.1))

pub overflow_sub-at-in-Err : goal.overflow_sub-at-in-Err
overflow_sub-at-in-Err c =
    (going_open c.requires.entries_len c.loop-at.invariant.1.1 c.loop-at-test.true c.in-Err.field-0 (sym c.fields_of.ensures ∙ c.in-Err.is)).0

pub loop-at-smaller-in-Err : goal.loop-at-smaller-in-Err
loop-at-smaller-in-Err c =
    let some = (going_open c.requires.entries_len c.loop-at.invariant.1.1 c.loop-at-test.true c.in-Err.field-0 (sym c.fields_of.ensures ∙ c.in-Err.is)).0 in
    omega (arith, some)

pub loop-at-preserved-in-Err : goal.loop-at-preserved-in-Err
loop-at-preserved-in-Err c =
    let i = c.loop-at.invariant in
    (i.0, (i.1.0, (going_open c.requires.entries_len i.1.1 c.loop-at-test.true c.in-Err.field-0 (sym c.fields_of.ensures ∙ c.in-Err.is)).1))

pub kind_of-requires-clause-cell_bound_2 : goal.kind_of-requires-clause-cell_bound_2
kind_of-requires-clause-cell_bound_2 c =
    let g = c.loop-at.invariant.1.1 in
    kind_small c.args.cells.now (head c.requires.entries_len g c.loop-at-test.true).top _ (cell_is c.requires.entries_len g c.loop-at-test.true)

pub place-requires : goal.place-requires
place-requires c = entries_long c.requires.entries_len c.loop-at.invariant.1.1

pub returns-in_err-number-in-Ok-clause-answer : goal.returns-in_err-number-in-Ok-clause-answer
returns-in_err-number-in-Ok-clause-answer c =
    let i = c.loop-at.invariant in
    let full = full_step c.requires.entries_len i.1.1 c.loop-at-test.true c.in-Ok.fields (sym c.fields_of.ensures ∙ c.in-Ok.is) c.kind_of.result
    c.place.result c.place.new.entries c.kind_of.ensures c.place.ensures.number c.place.ensures.entries c.in_err-number-in-Ok.field-0.0 c.in_err-number-in-Ok.was in
    λ t is. subst (λ (u : Tree). c.from_residual.result ≡ counted_as (length (entries_of u))) (cell_once i.0 t c.args.cells.now _ i.1.0 is)
    (told_many c.from_residual.result (length (entries_of i.0)) c.from_residual.ensures.0 full.0)

pub returns-in_err-number-in-Ok-clause-bytes : goal.returns-in_err-number-in-Ok-clause-bytes
returns-in_err-number-in-Ok-clause-bytes c =
    let i = c.loop-at.invariant in
    let full = full_step c.requires.entries_len i.1.1 c.loop-at-test.true c.in-Ok.fields (sym c.fields_of.ensures ∙ c.in-Ok.is) c.kind_of.result
    c.place.result c.place.new.entries c.kind_of.ensures c.place.ensures.number c.place.ensures.entries c.in_err-number-in-Ok.field-0.0 c.in_err-number-in-Ok.was in
    λ t is. subst (λ (u : Tree). c.place.new.entries ≡ onto (entry_bytes (take 255 (entries_of u))) c.args.entries.now)
    (cell_once i.0 t c.args.cells.now _ i.1.0 is) full.1

pub loop-at-smaller : goal.loop-at-smaller
loop-at-smaller c =
    let done = placed_step c.requires.entries_len c.loop-at.invariant.1.1 c.loop-at-test.true c.in-Ok.fields (sym c.fields_of.ensures ∙ c.in-Ok.is) c.kind_of.result
    c.place.result c.place.new.entries c.kind_of.ensures c.place.ensures.number c.place.ensures.entries _ _ c.in_ok-number-in-Ok.was c.count_after-n.ensures in
    omega (arith, done.1, c.loop-at-test.true)

pub loop-at-preserved : goal.loop-at-preserved
loop-at-preserved c =
    let i = c.loop-at.invariant in (
      i.0,
      (
        i.1.0,
        (placed_step c.requires.entries_len i.1.1 c.loop-at-test.true c.in-Ok.fields (sym c.fields_of.ensures ∙ c.in-Ok.is) c.kind_of.result
            c.place.result c.place.new.entries c.kind_of.ensures c.place.ensures.number c.place.ensures.entries _ _ c.in_ok-number-in-Ok.was c.count_after-n.ensures).0,
      ),
    )

pub returns-clause-answer : goal.returns-clause-answer
returns-clause-answer c =
    let i = c.loop-at.invariant in
    let end = going_end c.requires.entries_len i.1.1 c.loop-at-test.false in
    λ t is. subst (λ (u : Tree). Ok c.loop-at.n ≡ counted_as (length (entries_of u))) (cell_once i.0 t c.args.cells.now _ i.1.0 is)
    (told_all c.loop-at.n (length (entries_of i.0)) end.0 i.1.1.few)

pub returns-clause-bytes : goal.returns-clause-bytes
returns-clause-bytes c =
    let i = c.loop-at.invariant in
    let end = going_end c.requires.entries_len i.1.1 c.loop-at-test.false in
    let few : length (entries_of i.0) ≤ 255 = omega (arith, end.0, i.1.1.few) in
    λ t is. subst (λ (u : Tree). c.loop-at.entries ≡ onto (entry_bytes (take 255 (entries_of u))) c.args.entries.now)
    (cell_once i.0 t c.args.cells.now _ i.1.0 is)
    (end.1 ∙ ap (λ (es : List Entry). onto (entry_bytes es) c.args.entries.now) (sym (take_all 255 (entries_of i.0) few)))
