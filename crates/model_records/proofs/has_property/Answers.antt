-- `model_records::has_property` meets its contract: the four bytes make the property set of the node.
-- Assumes nothing.
use Rattle.std.proofs.Common.{ℕ, ◌^◌, ◌/◌, ◌%◌, ◌≡◌, ap, ◌∙◌, eqb}
use Rattle.wire.specs.Fields.{word32_at}
use Rattle.model_records.specs.Layout.{property_set}
use Rattle.model_records.proofs.has_property.Goals.{After-word32-set}
use Rattle.model_records.proofs.has_property.Goals as goal

-- the set that is read
set_is : (c : After-word32-set) → let a = c.args in c.word32-set.result ≡ property_set a.d.now a.u
set_is c =
    let a = c.args in
    c.word32-set.ensures ∙ ap (λ (k : ℕ). word32_at a.d.now k) c.node_record.ensures

pub returns : goal.returns
returns c = let p = c.args.p in ap (λ (set : ℕ). eqb (set / 2 ^ p % 2) 1) (set_is (goal.at.returns c).After-word32-set)
