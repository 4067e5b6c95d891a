-- `typing::write_file` meets its contract: header and entries are stored one behind the other, `both_written`.
-- Assumes nothing.
use Rattle.std.proofs.Common.{◌≡◌, sym, ap, ◌∙◌, List, ℕ, ◌+◌, ◌*◌, arith, length}
use Rattle.wire.specs.Blocks.{put_from}
use Rattle.pattern.specs.Checks.Finding.{Finding, found, written, destination_after}
use Rattle.typing.specs.Written.{file_with, front, front_four, within_short, within_enough, both_written}
use Rattle.typing.proofs.write_file.Goals as goal

pub returns-then-out-bytes : goal.returns-then-out-bytes
returns-then-out-bytes c =
    let is = within_short c.args.n (front c.args.entries.now c.args.n) (front_four c.args.entries.now c.args.n c.requires) (length c.args.out.now) c.if-out-bytes.true in record {
      finding = sym (ap written is);
      destination = sym (ap (λ (f : Finding (List ℕ)). destination_after f c.args.out.now) is);
    }

pub returns : goal.returns
returns c =
    let bytes = front c.args.entries.now c.args.n in
    let four = front_four c.args.entries.now c.args.n c.requires in
    let room = c.if-out-bytes.false in
    let is = within_enough c.args.n bytes four (length c.args.out.now) room in
    let long : length (file_with c.args.n bytes) ≡ 6 + 4 * c.args.n = omega (arith, four) in record {
      finding = ap found (sym long) ∙ sym (ap written is);
      destination = c.copy_at-2.ensures ∙ ap (λ (ys : List ℕ). put_from ys 6 0 bytes) c.copy_at.ensures
          ∙ both_written c.args.n bytes c.args.out.now (omega (arith, four, room))
          ∙ sym (ap (λ (f : Finding (List ℕ)). destination_after f c.args.out.now) is);
    }
