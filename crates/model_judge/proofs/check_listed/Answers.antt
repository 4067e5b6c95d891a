-- `model_judge::check_listed` meets its contract: its lowest name is the lowest that is used and not listed.
-- Assumes nothing.
use Rattle.std.proofs.Common.{◌≡◌, sym, ◌∙◌, ap, ap₂, Bool, not, ◌&&◌, ◌+◌, arith}
use Rattle.nodeset.specs.Below.{lowest_below, lowest_same}
use Rattle.pattern.specs.Checks.Finding.{refuses}
use Rattle.pattern.specs.File.Types.{max_name}
use Rattle.names.specs.declared.NameSet.{NameSet}
use Rattle.names.specs.Set.{has, lowest_of, has_minus}
use Rattle.model.specs.Judging.{is_missing}
use Rattle.model.proofs.Judging.{lowest_refused, lowest_passes}
use Rattle.model_judge.proofs.check_listed.Goals.{After-minus-unlisted}
use Rattle.model_judge.proofs.check_listed.Goals as goal

pub used_names-requires : goal.used_names-requires
used_names-requires c = c.requires.p_value

pub listed_names-requires : goal.listed_names-requires
listed_names-requires c = c.requires.valid_model

-- the lowest name of the set is the lowest that is missing
lowest_is : (c : After-minus-unlisted)
    → let a = c.args in
    lowest_of c.minus-unlisted.result ≡ lowest_below (max_name + 1) (is_missing a.p.now a.d.now)
lowest_is c =
    lowest_same (max_name + 1) _ _
    (λ i h. ap (λ (s : NameSet). has s i) c.minus-unlisted.ensures ∙ has_minus c.used_names.result c.listed_names.result i
    ∙ ap₂ (λ (s t : Bool). s && not t) (c.used_names.ensures i) (c.listed_names.ensures i))

pub returns-in-Some : goal.returns-in-Some
returns-in-Some c =
    let e = lowest_is (goal.at.returns-in-Some c).After-minus-unlisted in
    let name = c.in-Some.ensures.1 ∙ e in
    ap (refuses 27) name ∙ sym (lowest_refused _ _ (omega (arith, name, c.in-Some.ensures.0)))

pub returns-in-None : goal.returns-in-None
returns-in-None c = sym (lowest_passes _ _ (rw (lowest_is (goal.at.returns-in-None c).After-minus-unlisted) at c.in-None.ensures))
