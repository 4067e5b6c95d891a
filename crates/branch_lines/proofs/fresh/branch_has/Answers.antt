-- `branch_lines::fresh::branch_has` meets its contract: the lines from the next one on have the name exactly where the branch has it, since none
-- that was passed has it.
-- Assumes nothing.
use Rattle.std.proofs.Common.{◌≡◌, refl, sym, ap, ◌∙◌, ◌||◌, ℕ, ◌+◌, ◌-◌, rules}
use native.Mathlib.Nat.{sub-zero}
use Rattle.lines.specs.Lines.{line_has, branch_has}
use Rattle.branch_lines.specs.Stored.{line_at, lines_from, branch_end, branch_next}
use Rattle.branch_lines.proofs.fresh.branch_has.Goals.{After-line_has}
use Rattle.branch_lines.proofs.fresh.branch_has.Goals as goal

pub loop-k-init : goal.loop-k-init
loop-k-init c =
    let a = c.args in
    ap (λ (m : ℕ). branch_has (lines_from a.area.now 0 m) a.name.number) (sym (sub-zero a.len))

-- at line k the branch has the name where that line has it or the rest
here : (c : After-line_has)
    → let a = c.args in
    branch_has (lines_from a.area.now 0 a.len) a.name.number
    ≡ line_has (line_at a.area.now c.loop-k.k) a.name.number
    || branch_has (lines_from a.area.now (c.loop-k.k + 1) (a.len - (c.loop-k.k + 1))) a.name.number
here c =
    let a = c.args in
    c.loop-k.invariant ∙ branch_next a.area.now c.loop-k.k a.len a.name.number (search rules)

pub returns-then-line_has : goal.returns-then-line_has
returns-then-line_has c = sym (here (goal.at.returns-then-line_has c).After-line_has ∙ rw (sym c.line_has.ensures ∙ c.if-line_has.true) refl)

pub loop-k-preserved : goal.loop-k-preserved
loop-k-preserved c = here (goal.at.loop-k-preserved c).After-line_has ∙ rw (sym c.line_has.ensures ∙ c.if-line_has.false) refl

pub returns : goal.returns
returns c =
    let a = c.args in
    sym (c.loop-k.invariant ∙ branch_end a.area.now c.loop-k.k a.len a.name.number c.loop-k-test.false)
