-- (the check does not find these by itself: tried without)
use Rattle.std.proofs.Common.{arith, rules}
use Rattle.lengths.specs.Figures.{one}
use Rattle.lengths_tests.proofs.laws.stays_less.Goals as goal

pub returns : goal.returns
returns g c = λ a b d.
    let same = g.met.L.Length.laws.shift 1 1 1 (omega arith) (omega arith) (one (omega arith) a) (one (omega arith) b) (one (omega arith) d) in
    search rules
