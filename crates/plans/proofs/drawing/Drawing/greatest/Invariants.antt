use Rattle.plans.specs.Drawn.{drawn}
use Rattle.plans.proofs.Folds.{Greatest_to}
use Rattle.plans.proofs.drawing.Drawing.greatest.Given as goal

abbrev pub invariant-loop-tag : goal.invariant-loop-tag
invariant-loop-tag g l = Greatest_to g.K.Length.figures l.self.size (drawn l.self.states) l.memory l.most l.tag
