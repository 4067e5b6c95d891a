-- `path_rows::fill_end` meets its contract: each row gets its number alone.
-- Assumes nothing.
use Rattle.std.proofs.Common.{◌≡◌, ℕ, ◌+◌, subst, rules, arith}
use Rattle.nodeset.specs.Set.{only}
use Rattle.relations.specs.Filled.{Filled, filled_by, exactly_only}
use Rattle.path_rows.proofs.fill_end.Goals as goal

pub returns : goal.returns
returns c =
    let a = c.args in
    let from_first : (u : ℕ) → 0 + u ≡ u = λ u. omega arith in
    subst (λ (row : ℕ → ℕ). Filled row (λ u v. v ≡ u) a.n a.rows.now c.fill.new.rows) (λ i u. from_first u i)
    (filled_by _ 0 a.rows.now (λ u v. v ≡ u) a.n (search rules)
    (λ u zs s l same before asked.
    let says = asked.says in
    let told : s ≡ only u = search rules in
    rw told (exactly_only u (search rules)))
    a.n (search rules) c.fill.new.rows c.fill.ensures)
