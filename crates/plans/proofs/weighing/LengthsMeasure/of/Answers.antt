use Rattle.std.proofs.Common.{◌≡◌, ◌-◌, sym, ◌∙◌, subst, get_or, arith}
use Rattle.std.proofs.lemmas.List.{get_or_default}
use Rattle.plans.specs.Measures.{Distance}
use Rattle.plans.proofs.MeasuresAre.{distance_is, distance_from}
use Rattle.plans.proofs.Folds.{far_from_one}
use Rattle.plans.proofs.weighing.LengthsMeasure.of.Goals as goal

pub returns-clause-figure : goal.returns-clause-figure
returns-clause-figure g c = λ state r p q.
    let a = c.args.first in
    let b = c.args.last in
    let k = g.K.Length.figures in
    let laws = g.met.K.Length.laws in
    let here : c.index-memory-last.result ≡ get_or c.distances_to.new.memory (b - 1) k.zero = c.index-memory-last.is ∙ get_or_default c.distances_to.new.memory (b - 1) c.index-memory-last.result k.zero (omega (arith, c.requires, c.distances_to.ensures.long)) in
    subst (Distance k state a b)
    (sym (here ∙ far_from_one laws r.lawful a b _ p q (c.distances_to.ensures.distances state r p p b q)))
    (distance_from laws r.lawful a b p q)

pub returns-clause-only : goal.returns-clause-only
returns-clause-only g c = λ state other r p q h.
    let a = c.args.first in
    let b = c.args.last in
    let k = g.K.Length.figures in
    let laws = g.met.K.Length.laws in
    let here : c.index-memory-last.result ≡ get_or c.distances_to.new.memory (b - 1) k.zero = c.index-memory-last.is ∙ get_or_default c.distances_to.new.memory (b - 1) c.index-memory-last.result k.zero (omega (arith, c.requires, c.distances_to.ensures.long)) in
    distance_is laws r.lawful a b other h ∙ sym (here ∙ far_from_one laws r.lawful a b _ p q (c.distances_to.ensures.distances state r p p b q))
