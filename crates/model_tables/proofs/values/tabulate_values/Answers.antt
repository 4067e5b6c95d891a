-- `model_tables::values::tabulate_values` meets its contract: the channels of the entries passed are made, by `made_more`.
-- Assumes nothing.
use Rattle.std.proofs.Common.{arith, ℕ, subst, below_none}
use Rattle.pattern.proofs.File.Valid.{valid}
use Rattle.model_tables.specs.Entries.{MadeBelow, made_more}
use Rattle.model_tables.specs.Values.{ChannelMade, is_comparison, channel_within, none_made, alike_made}
use Rattle.model_tables.proofs.values.tabulate_values.Goals as goal

pub bounds-p-5 : goal.bounds-p-5
bounds-p-5 c = omega (arith, (valid _ _ c.requires.p_value).header.length_is)

pub loop-k-init : goal.loop-k-init
loop-k-init c =
    (below_none _, none_made c.args.d.now c.args.alike.now c.requires.by_index)

pub at-requires : goal.at-requires
at-requires c =
    omega (arith, (valid _ _ c.requires.p_value).header.length_is)

pub fill_compared-requires : goal.fill_compared-requires
fill_compared-requires c = record {
  valid_model = c.requires.valid_model;
  x_le_max_channel = rw c.at.ensures (channel_within (valid _ _ c.requires.p_value) c.loop-k.k c.loop-k-test.true);
  whole = c.loop-k.invariant.1;
}

pub loop-k-preserved : goal.loop-k-preserved
loop-k-preserved c = (
  made_more (ChannelMade c.args.d.now) is_comparison c.args.p.now c.loop-k.k c.loop-k.alike _
      (rw c.at.ensures at c.fill_compared.ensures.grown) c.loop-k.invariant.0,
  c.fill_compared.ensures.whole,
)

pub returns : goal.returns
returns c =
    let p = c.args.p.now in
    let d = c.args.d.now in
    alike_made d p c.loop-k.alike (valid _ _ c.requires.p_value)
    (subst (λ (k : ℕ). MadeBelow (ChannelMade d) is_comparison p k c.loop-k.alike) (omega arith) c.loop-k.invariant.0)
