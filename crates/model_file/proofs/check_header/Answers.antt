-- `model_file::check_header` meets its contract: each test is a check of `header_check`, asked in its order.
-- Assumes nothing.
use Rattle.std.proofs.Common.{arith}
use Rattle.std.proofs.lemmas.Bool.Decides.{nat_tests}
use Rattle.model_records.specs.Checks.{header_check}
use Rattle.model_file.proofs.check_header.Goals as goal

pub returns-then-d-lt9 : goal.returns-then-d-lt9
unfolding header_check
returns-then-d-lt9 c = grind (arith, nat_tests)

pub returns-then-word-ne1 : goal.returns-then-word-ne1
unfolding header_check
returns-then-word-ne1 c = grind (arith, nat_tests)

pub returns-then-counts_wrong : goal.returns-then-counts_wrong
unfolding header_check
returns-then-counts_wrong c = grind (arith, nat_tests)

pub returns : goal.returns
unfolding header_check
returns c = grind (arith, nat_tests)
