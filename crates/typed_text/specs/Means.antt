-- What a text means: "the text being given source 000's composition".
-- Assumes nothing.
use Rattle.pattern.specs.declared.types.Comparison.{Comparison}
use Rattle.pattern.specs.Logic.Syntax.{NExp, PExp}
use Rattle.pattern.specs.Meaning.Expression.{end}
use Rattle.typed_text.specs.Text.{NodeText, RowText}
use Rattle.typed_text.specs.Tokens.{value_of}

abbrev mutual
  pub node_means : NodeText → NExp
  node_means (NodeText.property k) = NExp.property (value_of k)
  node_means (NodeText.name k) = NExp.name (value_of k)
  node_means (NodeText.not t) = NExp.not (node_means t)
  node_means (NodeText.both t u) = NExp.both (node_means t) (node_means u)
  node_means (NodeText.either t u) = NExp.either (node_means t) (node_means u)
  node_means (NodeText.after k t) = NExp.after (value_of k) (node_means t)
  node_means (NodeText.same r k q) = NExp.compare Comparison.Same (value_of k) (row_means r) (row_means q)
  node_means (NodeText.differ r k q) = NExp.compare Comparison.Differ (value_of k) (row_means r) (row_means q)

  -- a row: the composition of its items, in their order; a brace is the union of its paths, and "What follows a brace continues both of its
  -- paths."
  pub row_means : RowText → PExp
  row_means RowText.end = end
  row_means (RowText.step k r) = PExp.compose (PExp.down (value_of k)) (row_means r)
  row_means (RowText.jump k r) = PExp.compose (PExp.jump (value_of k)) (row_means r)
  row_means (RowText.test t r) = PExp.compose (PExp.test (node_means t)) (row_means r)
  row_means (RowText.brace a b r) = PExp.compose (PExp.union (row_means a) (row_means b)) (row_means r)
