-- The entries that a text asks for, as trees: an entry is its kind and three fields, each a number or an entry.
-- Assumes nothing.
use Rattle.std.specs.Prelude.{ℕ}
use Rattle.pattern.specs.File.Table.{end_of_path}
use Rattle.typed_text.specs.Text.{NodeText, RowText}
use Rattle.typed_text.specs.Tokens.{value_of}

mutual
  pub data Tree : Type 0 where
    tree : ℕ → Part → Part → Part → Tree

  -- what a field holds: a number, or an entry, its part
  pub data Part : Type 0 where
    number : ℕ → Part
    entry : Tree → Part

-- "Fields not listed are zero."
abbrev pub unused : Part
unused = number 0

-- by 01's table of entries and 02's row of either
abbrev mutual
  pub node_tree : NodeText → Tree
  node_tree (NodeText.property k) = tree 1 (number (value_of k)) unused unused
  node_tree (NodeText.name k) = tree 2 (number (value_of k)) unused unused
  node_tree (NodeText.not t) = tree 3 (entry (node_tree t)) unused unused
  node_tree (NodeText.both t u) = tree 4 (entry (node_tree t)) (entry (node_tree u)) unused
  node_tree (NodeText.either t u) = tree 12 (entry (node_tree t)) (entry (node_tree u)) unused
  node_tree (NodeText.after k t) = tree 5 (number (value_of k)) (entry (node_tree t)) unused
  node_tree (NodeText.same r k q) = tree 6 (number (value_of k)) (row_tree r (number end_of_path)) (row_tree q (number end_of_path))
  node_tree (NodeText.differ r k q) = tree 7 (number (value_of k)) (row_tree r (number end_of_path)) (row_tree q (number end_of_path))

  -- a row, with what follows it: "What follows a brace continues both of its paths."
  pub row_tree : RowText → Part → Part
  row_tree RowText.end rest = rest
  row_tree (RowText.step k r) rest = entry (tree 8 (number (value_of k)) (row_tree r rest) unused)
  row_tree (RowText.jump k r) rest = entry (tree 9 (number (value_of k)) (row_tree r rest) unused)
  row_tree (RowText.test t r) rest = entry (tree 10 (entry (node_tree t)) (row_tree r rest) unused)
  row_tree (RowText.brace a b r) rest = entry (tree 11 (row_tree a (row_tree r rest)) (row_tree b (row_tree r rest)) unused)
