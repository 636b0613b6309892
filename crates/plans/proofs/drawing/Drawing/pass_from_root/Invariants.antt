use Rattle.plans.specs.Drawn.{drawn}
use Rattle.plans.proofs.FromRoot.{Raised_to}
use Rattle.plans.proofs.drawing.Drawing.pass_from_root.Given as goal

abbrev pub invariant-loop-tag : goal.invariant-loop-tag
invariant-loop-tag g l = Raised_to g.K.Length.figures l.self.size (drawn l.self.states) l.sides l.initial.memory l.memory l.tag
