use Rattle.std.proofs.Common.{subst, sym}
use Rattle.plans.specs.Measures.{Nearest}
use Rattle.plans.proofs.Loom.{tree_of}
use Rattle.plans.proofs.Given.{given_of}
use Rattle.plans.proofs.MeasuresAre.{nearest_from}
use Rattle.plans.proofs.drawing.Drawing.distances_to.Goals as goal

pub returns-clause-distances : goal.returns-clause-distances
returns-clause-distances g c = λ state r p q t u.
    let laws = g.met.K.Length.laws in
    let k = g.K.Length.figures in
    let a = c.args.first in
    let b = c.args.last in
    let T = tree_of r.lawful in
    let given = given_of r a b c.sides-sides.result p q c.sides-sides.ensures.first c.sides-sides.ensures.last in
    let near = c.pass_from_root.ensures.near T a b given (c.pass_to_root.ensures.common T a b given) t u in
    subst (Nearest k state a b t) (sym near) (nearest_from laws r.lawful a b t p q u)
