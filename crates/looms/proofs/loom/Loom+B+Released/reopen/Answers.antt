use Rattle.std.proofs.Common.{refl}
use Rattle.looms.specs.declared.calls.Call.TheVariants as calls
use Rattle.looms.specs.declared.calls.Answer.TheVariants as answers
use Rattle.looms.proofs.Goes.{quiet}
use Rattle.looms.proofs.loom.«Loom+B+Released».reopen.Goals as goal

pub returns-clause-goes_on : goal.returns-clause-goes_on
returns-clause-goes_on g c = λ h was. rw (c.turn.ensures.book, c.turn.ensures.count) (quiet calls.Reopen answers.Done refl h was)
