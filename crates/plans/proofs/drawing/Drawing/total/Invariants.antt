use Rattle.plans.specs.Drawn.{drawn}
use Rattle.plans.proofs.Folds.{Totalled}
use Rattle.plans.proofs.drawing.Drawing.total.Given as goal

abbrev pub invariant-loop-tag : goal.invariant-loop-tag
invariant-loop-tag g l = Totalled g.K.Length.figures l.self.size (drawn l.self.states) l.memory l.all l.tag
