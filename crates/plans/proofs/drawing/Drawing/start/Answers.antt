use Rattle.std.proofs.Common.{subst, sym, ◌∙◌, arith}
use Rattle.plans.specs.Measures.{Distance}
use Rattle.plans.proofs.Loom.{tree_of, point_high}
use Rattle.plans.proofs.MeasuresAre.{distance_from}
use Rattle.plans.proofs.Folds.{far_from_one}
use Rattle.plans.proofs.drawing.Drawing.start.Goals as goal

pub returns-clause-far : goal.returns-clause-far
returns-clause-far g c = λ state r p t q.
    let k = g.K.Length.figures in
    let laws = g.met.K.Length.laws in
    let a = c.args.tag in
    let kept = c.column_of-far.ensures t ((tree_of r.lawful).from_one t q) (omega (arith, point_high r.lawful t q)) in
    subst (Distance k state a t)
    (sym (kept ∙ far_from_one laws r.lawful a t _ p q (c.distances_to.ensures.distances state r p p t q)))
    (distance_from laws r.lawful a t p q)
