-- `model_tables::model::fill_properties` meets its contract: the rows of the entries passed are made, by `made_more`.
-- Assumes nothing.
use Rattle.std.proofs.Common.{arith, ℕ, refl, ◌∙◌, subst, below_none}
use Rattle.pattern.proofs.File.Valid.{valid}
use Rattle.model_tables.specs.Entries.{MadeBelow, made_more}
use Rattle.model_tables.specs.Tables.{PropertyMade, is_property, property_within}
use Rattle.model_tables.proofs.model.fill_properties.Goals as goal

pub bounds-p-5 : goal.bounds-p-5
bounds-p-5 c = omega (arith, (valid _ _ c.requires.p_value).header.length_is)

pub loop-k-init : goal.loop-k-init
loop-k-init c = (below_none _, λ i l. refl)

pub at-requires : goal.at-requires
at-requires c =
    omega (arith, (valid _ _ c.requires.p_value).header.length_is)

pub fill_property-requires : goal.fill_property-requires
fill_property-requires c = record {
  valid_model = c.requires.valid_model;
  x_le_max_property = rw c.at.ensures (property_within (valid _ _ c.requires.p_value) c.loop-k.k c.loop-k-test.true);
}

pub loop-k-preserved : goal.loop-k-preserved
loop-k-preserved c =
    let p = c.args.p.now in (
      made_more (PropertyMade c.args.d.now) is_property p c.loop-k.k c.loop-k.table _
          (rw c.at.ensures at c.fill_property.ensures.grown) c.loop-k.invariant.0,
      λ i b. c.fill_property.ensures.stay i b ∙ c.loop-k.invariant.1 i b,
    )

pub returns : goal.returns
returns c = record {
  made = subst (λ (k : ℕ). MadeBelow (PropertyMade c.args.d.now) is_property c.args.p.now k c.loop-k.table) (omega arith) c.loop-k.invariant.0;
  stay = c.loop-k.invariant.1;
}
