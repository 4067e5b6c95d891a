-- `model_tables::values::is_made` meets its contract: the row is that of node 0.
-- Assumes nothing.
use Rattle.std.proofs.Common.{◌∙◌, ap, not}
use Rattle.nodeset.specs.Set.{is_empty}
use Rattle.nodeset.specs.Stored.{set_at}
use Rattle.model_tables.proofs.values.is_made.Goals as goal

pub returns : goal.returns
returns c =
    let a = c.args in
    ap not (c.is_empty.ensures ∙ ap is_empty (c.load.ensures ∙ ap (set_at a.alike.now) c.row_of.ensures))
