-- `judge::exports::riser_read` meets its contract: it packs what reading finds.
-- Assumes nothing.
use Rattle.std.proofs.Common.{◌∙◌, ap}
use Rattle.answers.specs.Packed.{read_answer}
use Rattle.answers.specs.Unpacked.{unpack_read, unpack_read_law}
use Rattle.judge.proofs.exports.riser_read.Goals as goal

pub returns : goal.returns
returns c =
    let answer = c.read_answer.ensures ∙ ap read_answer c.read.ensures in
    record { answer = answer; finding = ap unpack_read answer ∙ unpack_read_law c.args.p.now }
