-- `path_rows::leads_alike` meets its contract: sets that compare equal are one set.
-- Assumes nothing.
use Rattle.std.proofs.Common.{sym, ◌∙◌, rules}
use mathlib.Core.Bool.{false≢true}
use Rattle.nodeset.specs.Set.{equal_is}
use Rattle.path_rows.proofs.leads_alike.Goals as goal

pub returns-then-u-eq0 : goal.returns-then-u-eq0
returns-then-u-eq0 c h = absurd (false≢true h)

pub returns : goal.returns
returns c h =
    let same = sym (equal_is c.successors.result c.successors-2.result (sym c.eq.ensures ∙ h)) in
    (search rules, rw (c.successors-2.ensures, c.successors.ensures) at same)
