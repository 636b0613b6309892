use Rattle.std.proofs.Common.{sym, ◌∙◌}
use Rattle.plans.proofs.MeasuresAre.{reach_is}
use Rattle.plans.proofs.weighing.ReachesMeasure.of.Goals as goal

pub returns-clause-figure : goal.returns-clause-figure
returns-clause-figure g c = λ state r p q. c.greatest.ensures state c.args.first c.args.last r p q (c.distances_to.ensures.distances state r p q)

pub returns-clause-only : goal.returns-clause-only
returns-clause-only g c = λ state other r p q h.
    let a = c.args.first in
    let b = c.args.last in
    let laws = g.met.K.Length.laws in
    let own = c.greatest.ensures state a b r p q (c.distances_to.ensures.distances state r p q) in
    reach_is laws r.lawful a b other p q h ∙ sym (reach_is laws r.lawful a b c.greatest.result p q own)
