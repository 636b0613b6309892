use Rattle.std.proofs.Common.{length}
use Rattle.plans.specs.Measures.{Reach}
use Rattle.plans.specs.Checks.{Ends, measure_causes}
use Rattle.plans.proofs.Told.{told, reach_turned, reach_bound}
use Rattle.plans.proofs.measures.reach.Goals as goal

pub returns-clause-turned : goal.returns-clause-turned
returns-clause-turned g c =
    let k = g.B.Kind.Length.figures in
    let size = g.B.Book.extent c.args.book.now in
    let state = g.B.Book.state c.args.book.now in
    let a = c.args.first in
    let b = c.args.last in
    told (Ends k size state a b) (λ r. Reach k state a b r) _ (measure_causes size (length c.args.memory.now) state a b)
    c.measure.result c.measure.ensures.answer c.measure.ensures.ends (reach_turned g.met.B.Kind.Length.laws a b)

pub returns-clause-bound : goal.returns-clause-bound
returns-clause-bound g c =
    let k = g.B.Kind.Length.figures in
    let size = g.B.Book.extent c.args.book.now in
    let state = g.B.Book.state c.args.book.now in
    let a = c.args.first in
    let b = c.args.last in
    told (Ends k size state a b) (λ r. Reach k state a b r) _ (measure_causes size (length c.args.memory.now) state a b)
    c.measure.result c.measure.ensures.answer c.measure.ensures.ends (reach_bound g.met.B.Kind.Length.laws a b)
