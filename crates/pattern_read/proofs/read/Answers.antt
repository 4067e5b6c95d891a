-- `pattern_read::read` meets its contract: the checks are those of `pattern_check`, in its order. What each check that passed shows is said
-- once, at the place behind it.
-- Assumes nothing.
use Rattle.std.proofs.Common.{◌≡◌, refl, sym, ap, ◌∙◌, arith}
use Rattle.pattern.specs.Checks.Finding.{passes}
use Rattle.pattern.specs.Checks.Range.{each_below}
use Rattle.pattern.specs.File.Table.{is_path}
use Rattle.pattern.specs.File.Reading.{count_of, header_check, entry_check, root_check, pattern_check, reading_of}
use Rattle.pattern_read.specs.Enums.{check_of}
use Rattle.pattern.specs.File.Valid.{ValidHeader, header_passes}
use Rattle.pattern.specs.Checks.Tests.{asked, err_is}
use Rattle.pattern_read.proofs.read.Goals.{In_ok-check_header, In_ok-check_entries}
use Rattle.pattern_read.proofs.read.Goals as goal

pub returns-in_err-check_header : goal.returns-in_err-check_header
unfolding pattern_check reading_of
returns-in_err-check_header c = rw (err_is _ _ c.from_residual.ensures.1, sym c.check_header.ensures ∙ ap check_of c.in_err-check_header.was) refl

header-passed : (c : In_ok-check_header) → header_check c.args.p.now ≡ passes
header-passed c = sym c.check_header.ensures ∙ ap check_of c.in_ok-check_header.was

header_of : (c : In_ok-check_header) → ValidHeader c.args.p.now
header_of c = header_passes c.args.p.now (header-passed c)

pub bounds-p-5 : goal.bounds-p-5
bounds-p-5 c = omega (arith, header_of (goal.at.bounds-p-5 c).In_ok-check_header)

pub check_entries-requires : goal.check_entries-requires
check_entries-requires c = (header_of (goal.at.check_entries-requires c).In_ok-check_header).length_is

pub returns-in_err-check_entries : goal.returns-in_err-check_entries
unfolding pattern_check reading_of
returns-in_err-check_entries c =
    rw (
      err_is _ _ c.from_residual-in_err-check_entries.ensures.1,
      header-passed (goal.at.returns-in_err-check_entries c).In_ok-check_header,
      sym c.check_entries.ensures ∙ ap check_of c.in_err-check_entries.was,
    ) refl

entries-passed : (c : In_ok-check_entries)
    → let p = c.args.p.now in
    each_below (count_of p) (entry_check p) ≡ passes
entries-passed c = sym c.check_entries.ensures ∙ ap check_of c.in_ok-check_entries.was

pub overflow_sub-root : goal.overflow_sub-root
overflow_sub-root c = omega (arith, header_of (goal.at.overflow_sub-root c).In_ok-check_header)

pub sort_at-requires : goal.sort_at-requires
sort_at-requires c = omega (arith, header_of (goal.at.sort_at-requires c).In_ok-check_header)

pub returns-then-is_path : goal.returns-then-is_path
unfolding root_check pattern_check reading_of
returns-then-is_path c =
    rw (
      header-passed (goal.at.returns-then-is_path c).In_ok-check_header,
      entries-passed (goal.at.returns-then-is_path c).In_ok-check_entries,
      asked is_path c.sort_at.ensures c.is_path.ensures c.if-is_path.true,
    ) refl

pub returns : goal.returns
unfolding root_check pattern_check reading_of
returns c =
    rw (
      header-passed (goal.at.returns c).In_ok-check_header,
      entries-passed (goal.at.returns c).In_ok-check_entries,
      asked is_path c.sort_at.ensures c.is_path.ensures c.if-is_path.false,
    )
