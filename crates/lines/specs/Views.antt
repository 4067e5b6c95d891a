-- A line seen as one of its forms; a further form is a row of each.
-- Assumes nothing.
use Rattle.std.specs.Prelude.{Option, Some, None}
use Rattle.lines.specs.declared.line.CompareLine.{CompareLine}
use Rattle.lines.specs.declared.line.HasLine.{HasLine}
use Rattle.lines.specs.declared.line.IsLine.{IsLine}
use Rattle.lines.specs.declared.line.EdgeLine.{EdgeLine}
use Rattle.lines.specs.declared.line.Line.{Line}

abbrev pub has_view : Line → Option HasLine
has_view (Line.Has l) = Some l
has_view (Line.Is l) = None
has_view (Line.Edge l) = None
has_view (Line.Compare l) = None

abbrev pub is_view : Line → Option IsLine
is_view (Line.Has l) = None
is_view (Line.Is l) = Some l
is_view (Line.Edge l) = None
is_view (Line.Compare l) = None

abbrev pub edge_view : Line → Option EdgeLine
edge_view (Line.Has l) = None
edge_view (Line.Is l) = None
edge_view (Line.Edge l) = Some l
edge_view (Line.Compare l) = None

abbrev pub compare_view : Line → Option CompareLine
compare_view (Line.Has l) = None
compare_view (Line.Is l) = None
compare_view (Line.Edge l) = None
compare_view (Line.Compare l) = Some l
