use Rattle.std.proofs.Common.{length}
use Rattle.looms.proofs.history.AnyLoom.step.Goals as goal

pub returns-in-Open-clause-does : goal.returns-in-Open-clause-does
returns-in-Open-clause-does g c = rw c.in-Open.is (c.step.ensures.does (length c.args.memory.now))
