-- (the check does not find these by itself: tried without)
use Rattle.std.proofs.Common.{arith}
use Rattle.lengths.specs.Figures.{Sum, one, both}
use Rattle.lengths_tests.proofs.laws.adds_alike.Goals as goal

pub returns : goal.returns
returns g c = λ a b d.
    let k = g.L.Length.figures in
    let laws = g.met.L.Length.laws in
    let x : Sum k 1 c.args.a = one (omega arith) a in
    let y : Sum k 1 c.args.b = one (omega arith) b in
    let z : Sum k 1 c.args.c = one (omega arith) d in
    let e = laws.comm 2 1 (omega arith) (both {m = 1} {n = 1} (omega arith) x y) z in
    let f = laws.comm 1 1 (omega arith) x y in
    c.same.ensures.1 (cc (e, f))
