use Rattle.std.proofs.Common.{length}
use Rattle.plans.specs.Measures.{Distance}
use Rattle.plans.specs.Checks.{Ends, measure_causes}
use Rattle.plans.proofs.Told.{told, one_way, distance_turned, distance_bound}
use Rattle.plans.proofs.measures.distance.Goals as goal

pub returns-clause-way : goal.returns-clause-way
returns-clause-way g c =
    let k = g.B.Kind.Length.figures in
    let size = g.B.Book.extent c.args.book.now in
    let state = g.B.Book.state c.args.book.now in
    let a = c.args.first in
    let b = c.args.last in
    told (Ends k size state a b) (λ d. Distance k state a b d) _ (measure_causes size (length c.args.memory.now) state a b)
    c.measure.result c.measure.ensures.answer c.measure.ensures.ends (one_way g.met.B.Kind.Length.laws a b)

pub returns-clause-turned : goal.returns-clause-turned
returns-clause-turned g c =
    let k = g.B.Kind.Length.figures in
    let size = g.B.Book.extent c.args.book.now in
    let state = g.B.Book.state c.args.book.now in
    let a = c.args.first in
    let b = c.args.last in
    told (Ends k size state a b) (λ d. Distance k state a b d) _ (measure_causes size (length c.args.memory.now) state a b)
    c.measure.result c.measure.ensures.answer c.measure.ensures.ends (distance_turned g.met.B.Kind.Length.laws a b)

pub returns-clause-bound : goal.returns-clause-bound
returns-clause-bound g c =
    let k = g.B.Kind.Length.figures in
    let size = g.B.Book.extent c.args.book.now in
    let state = g.B.Book.state c.args.book.now in
    let a = c.args.first in
    let b = c.args.last in
    told (Ends k size state a b) (λ d. Distance k state a b d) _ (measure_causes size (length c.args.memory.now) state a b)
    c.measure.result c.measure.ensures.answer c.measure.ensures.ends (distance_bound g.met.B.Kind.Length.laws a b)
