-- `answers::packed` meets its contract: no sum overflows, and the answer is the packed number.
-- Assumes nothing.
use Rattle.std.proofs.Common.{refl}
use Rattle.answers.specs.Packed.{packed}
use Rattle.answers.proofs.packed.Goals as goal

pub returns : goal.returns
unfolding packed
returns c = refl
