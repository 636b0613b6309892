use Rattle.cells.specs.Columns.{held}
use Rattle.plans.proofs.Search.{Filled}
use Rattle.plans.proofs.drawing.Drawing.column_of.Given as goal

abbrev pub invariant-loop-tag : goal.invariant-loop-tag
invariant-loop-tag g l = Filled l.memory g.K.Length.figures.zero (held l.column) l.tag
