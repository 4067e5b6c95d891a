-- Two trees with the same bytes ask for the same entries; when a text's file is written; how small the numbers of a finding are.
-- What is found of any bytes, and what a finding says, is proved in `proofs/Findings`.
-- Assumes nothing.
use Rattle.std.specs.Prelude.{◌≡◌, List, [], ℕ, ◌-◌, ◌≤◌, length}
use Rattle.std.proofs.Common.{sym, ap, subst, ◌∙◌, le-ltb}
use Rattle.pattern.specs.Checks.Finding.{Finding, found, refused, passes}
use Rattle.pattern.specs.File.Entries.{max_entries}
use Rattle.typed_text.specs.Text.{NodeText, node}
use Rattle.typed_text.specs.Tokens.{Token, tokens_of, range_check}
use Rattle.typed_text.specs.Spelled.{byte_tokens, token_words, tokens_spelled}
use Rattle.typed_file.specs.Trees.{node_tree}
use Rattle.typed_file.specs.Entries.{file_of}
use Rattle.text_cells.specs.Building.{built_of}
use Rattle.text_cells.specs.Cells.{cell_once}
use Rattle.text_cells.specs.Built.{TextCells, text_built}
use Rattle.typing.specs.Typing.{max_text, entries_in, file_within, text_within}

-- ---- laws

-- ---- two trees with the same bytes have the same tokens and, with numbers in range, the same entries
pub same_tokens : (t u : NodeText) → node t [] ≡ node u [] → tokens_of t ≡ tokens_of u
same_tokens t u e = sym (tokens_spelled t) ∙ ap byte_tokens e ∙ tokens_spelled u

pub same_trees : (t u : NodeText) → node t [] ≡ node u [] → range_check (tokens_of t) ≡ passes → node_tree t ≡ node_tree u
same_trees t u e h =
    let tokens = same_tokens t u e in
    let cells = text_built t h in
    let others = subst (λ (ts : List Token). TextCells (built_of (token_words ts)) u) (sym tokens) (text_built u (sym (ap range_check tokens) ∙ h)) in
    cell_once (node_tree t) (node_tree u) (built_of (token_words (tokens_of t))).cells ((built_of (token_words (tokens_of t))).count - 1) cells.root others.root

-- a text whose file is written
pub record Written (t : NodeText) (room : ℕ) : Type 0 where
  pub within_ranges : range_check (tokens_of t) ≡ passes
  pub few : length (entries_in t) ≤ max_entries
  pub fits : length (file_of (entries_in t)) ≤ room

pub written_within : (t : NodeText) (room : ℕ) → Written t room → text_within t room ≡ found (file_of (entries_in t))
unfolding text_within file_within
written_within t room w = rw (w.within_ranges, le-ltb max_entries (length (entries_in t)) w.few, le-ltb room (length (file_of (entries_in t))) w.fits)

-- the numbers of a finding are small
abbrev pub Small : Finding (List ℕ) → Type 0
Small (found file) = length file ≤ 1026
Small (refused number place) = (number ≤ 32) × (place ≤ max_text)
