-- `model_judge::area_wanted` meets its contract.
-- Assumes nothing.
use Rattle.std.proofs.Common.{sym}
use Rattle.pattern.specs.File.Valid.{read_passes, read_refuses}
use Rattle.model_judge.proofs.area_wanted.Goals as goal

pub returns-in-Err : goal.returns-in-Err
returns-in-Err c = rw (read_refuses c.args.p.now _ _ (sym c.in-Err.ensures))

pub returns-in-Ok : goal.returns-in-Ok
returns-in-Ok c = rw (read_passes _ _ (sym c.in-Ok.ensures)).0 c.area_bytes.ensures
