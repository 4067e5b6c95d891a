-- `typing::write_tokens` meets its contract: the cells are those of the text, and its entries are completed from them.
-- Assumes nothing.
use Rattle.std.proofs.Common.{◌≡◌, sym, ap, ◌∙◌, List, ℕ, arith, length, take}
use Rattle.pattern.specs.Checks.Finding.{Finding, refused, written, destination_after}
use Rattle.typed_text.specs.Text.{NodeText}
use Rattle.typed_file.specs.Trees.{node_tree}
use Rattle.typing.specs.declared.finding.TypeRefusal.{TypeRefusal}
use Rattle.typing.specs.Typing.{file_within}
use Rattle.typing.specs.Written.{TokensOf, bytes_within, front, CellsOf, cells_hold, take_few, file_many, file_bytes, handed_on}
use Rattle.typing.proofs.write_tokens.Goals.{After-build-count, After-from_residual, In_ok-k}
use Rattle.typing.proofs.write_tokens.Goals as goal

-- the cells are those of every text with these tokens
held : (c : After-build-count) → (t : NodeText) → TokensOf t (take c.args.n c.args.tokens.now)
    → CellsOf t c.build-count.result c.build-count.new.cells
held c t h =
    cells_hold t (take c.args.n c.args.tokens.now) _ c.build-count.new.cells c.build-count.result h
    (omega (arith, take_few c.args.n c.args.tokens.now, c.requires.tokens_len.1)) c.build-count.ensures.count c.build-count.ensures.cells

pub complete-requires-clause-le_count : goal.complete-requires-clause-le_count
complete-requires-clause-le_count c =
    let h = held (goal.at.complete-requires-clause-le_count c).After-build-count c.requires.tokens_of.0 c.requires.tokens_of.1 in
    (h.some_cell, h.few_cells)

pub complete-requires-clause-cell_is : goal.complete-requires-clause-cell_is
complete-requires-clause-cell_is c =
    let h = held (goal.at.complete-requires-clause-cell_is c).After-build-count c.requires.tokens_of.0 c.requires.tokens_of.1 in
    (node_tree c.requires.tokens_of.0, h.root)

-- too many entries
many : (c : After-from_residual) → (t : NodeText) → TokensOf t (take c.args.n c.args.tokens.now) → file_within t (length c.args.out.now) ≡ refused 32 0
many c t w =
    file_many t (length c.args.out.now) c.in_err-k.field-0.0
    (sym c.in_err-k.was ∙ c.complete.ensures.answer (node_tree t) (held (goal.at.returns-in_err-k-clause-finding c).After-build-count t w).root)

pub returns-in_err-k-clause-finding : goal.returns-in_err-k-clause-finding
returns-in_err-k-clause-finding c = λ t w. handed_on TypeRefusal.Room _ c.from_residual.ensures.1 ∙ sym (ap written (many c t w))

pub returns-in_err-k-clause-destination : goal.returns-in_err-k-clause-destination
returns-in_err-k-clause-destination c = λ t w. sym (ap (λ (f : Finding (List ℕ)). destination_after f c.args.out.now) (many c t w))

-- or their file
few : (c : In_ok-k) → (t : NodeText) → CellsOf t c.build-count.result c.build-count.new.cells
    → bytes_within c.in_ok-k.k (front c.complete.new.entries c.in_ok-k.k) (length c.args.out.now) ≡ file_within t (length c.args.out.now)
few c t h =
    file_bytes t (length c.args.out.now) c.in_ok-k.k c.complete.new.entries _ (sym c.in_ok-k.was ∙ c.complete.ensures.answer (node_tree t) h.root)
    (c.complete.ensures.bytes (node_tree t) h.root)

pub returns-clause-finding : goal.returns-clause-finding
returns-clause-finding c = let at = goal.at.returns-clause-finding c in
    λ t w. c.write_file.ensures.finding ∙ ap written (few at.In_ok-k t (held at.After-build-count t w))

pub returns-clause-destination : goal.returns-clause-destination
returns-clause-destination c = let at = goal.at.returns-clause-destination c in
    λ t w. c.write_file.ensures.destination
    ∙ ap (λ (f : Finding (List ℕ)). destination_after f c.args.out.now) (few at.In_ok-k t (held at.After-build-count t w))
