use Rattle.plans.specs.Drawn.{drawn}
use Rattle.plans.proofs.Draws.{Read_to}
use Rattle.plans.proofs.drawing.states_of.Given as goal

abbrev pub invariant-loop-tag : goal.invariant-loop-tag
invariant-loop-tag g l = Read_to (g.B.Book.state l.book) (drawn l.states) l.tag
