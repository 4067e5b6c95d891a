-- `model_file::listed_names` meets its contract: the set has the names of the records passed.
-- Assumes nothing.
use Rattle.std.proofs.Common.{◌≡◌, ◌∙◌, ap, ℕ, arith}
use Rattle.model_records.specs.Layout.{name_count}
use Rattle.model_records.specs.Contents.{is_listed_below, is_listed}
use Rattle.model_file.specs.Listing.{listed_none, listed_more}
use Rattle.model_file.proofs.listed_names.Goals as goal

pub loop-j-init : goal.loop-j-init
loop-j-init c = listed_none c.args.d.now c.empty-names.result c.empty-names.ensures

pub loop-j-preserved : goal.loop-j-preserved
loop-j-preserved c =
    let named = c.requires.names c.loop-j.j (rw c.name_count-j-end.ensures at c.loop-j-test.true) in
    listed_more c.args.d.now c.loop-j.j c.at.result.name c.loop-j.names c.insert-names.result
    c.at.ensures.name named.name_within c.insert-names.ensures c.loop-j.invariant

pub returns : goal.returns
unfolding is_listed
returns c i =
    let d = c.args.d.now in
    let all : c.loop-j.j ≡ name_count d = omega (arith, c.name_count-j-end.ensures) in
    c.loop-j.invariant i ∙ ap (λ (m : ℕ). is_listed_below d m i) all
