use Rattle.std.proofs.Common.{sym, ◌∙◌}
use Rattle.plans.proofs.MeasuresAre.{all_is}
use Rattle.plans.proofs.weighing.SumsMeasure.of.Goals as goal

pub returns-clause-only : goal.returns-clause-only
returns-clause-only g c = λ state other r p q h.
    let a = c.args.first in
    let b = c.args.last in
    let laws = g.met.K.Length.laws in
    let own = c.total.ensures state a b r p q (c.distances_to.ensures.distances state r p q) in
    all_is laws r.lawful a b p q other h ∙ sym (all_is laws r.lawful a b p q c.total.result own)
