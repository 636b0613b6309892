use Rattle.plans.specs.Drawn.{drawn}
use Rattle.plans.proofs.Draws.{shows_falling}
use Rattle.plans.proofs.drawing.Drawing.of.Goals as goal

pub invariant_of-result-clause-falling : goal.invariant_of-result-clause-falling
invariant_of-result-clause-falling g c = shows_falling c.size-size.ensures.lawful (drawn c.states_of-states.result) c.states_of-states.ensures
