use Rattle.plans.specs.Drawn.{parent_of, drawn}
use Rattle.plans.proofs.Chains.{Climbed}
use Rattle.plans.proofs.drawing.Drawing.chain.Given as goal

abbrev pub invariant-loop-at : goal.invariant-loop-at
invariant-loop-at g l = Climbed (λ x. parent_of (drawn l.self.states x)) l.from l.met l.at

abbrev pub decreases-loop-at : goal.decreases-loop-at
decreases-loop-at g l = l.at
