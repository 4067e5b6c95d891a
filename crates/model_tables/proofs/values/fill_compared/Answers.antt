-- `model_tables::values::fill_compared` meets its contract, by `channel_grown`.
-- Assumes nothing.
use Rattle.model_tables.specs.Values.{is_comparison, channel_grown, still_whole}
use Rattle.model_tables.proofs.values.fill_compared.Goals as goal

pub returns-then-not-is_made-clause-grown : goal.returns-then-not-is_made-clause-grown
returns-then-not-is_made-clause-grown c =
    channel_grown c.args.d.now c.requires.valid_model.header.narrow c.args.e.x _ _ c.fill_channel.ensures (is_comparison c.args.e.kind)

pub returns-then-not-is_made-clause-whole : goal.returns-then-not-is_made-clause-whole
returns-then-not-is_made-clause-whole c =
    still_whole c.args.d.now c.requires.valid_model.header.narrow c.args.e.x _ _ c.fill_channel.ensures c.requires.whole
