-- The array is the table, for which it is proved.
use Rattle.std.proofs.Common.{sym, subst, rules}
use Rattle.worked.specs.Worked.{WorkedOut}
use Rattle.worked.proofs.Trial.{worked_out}
use Rattle.worked.proofs.worked_cases.Goals as goal

pub returns-clause-answers : goal.returns-clause-answers
returns-clause-answers c = subst WorkedOut (sym (search rules)) worked_out
