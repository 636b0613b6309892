use Rattle.report.proofs.Cut.{cut_enough}
use Rattle.report.proofs.enough.Goals as goal

pub returns-clause-enough : goal.returns-clause-enough
returns-clause-enough c = cut_enough
