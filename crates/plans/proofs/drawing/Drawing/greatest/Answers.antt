use Rattle.std.proofs.Common.{◌+◌, arith}
use Rattle.plans.specs.Drawn.{drawn}
use Rattle.plans.proofs.Folds.{greatest_none, greatest_more, greatest_end}
use Rattle.plans.proofs.drawing.Drawing.greatest.Goals as goal

pub loop-tag-init : goal.loop-tag-init
loop-tag-init g c =
    let d = c.args.self.now in
    greatest_none g.K.Length.figures d.size (drawn d.states) c.args.memory.now c.zero-most.result c.zero-most.ensures

pub loop-tag-preserved : goal.loop-tag-preserved
loop-tag-preserved g c =
    let d = c.args.self.now in
    let l = c.loop-tag in
    greatest_more g.K.Length.figures d.size (drawn d.states) c.args.memory.now l.tag l.auto.tag (omega (arith, c.loop-tag-test.true)) l.most c.greater_at-most.result c.greater_at-most.ensures l.invariant

pub returns-2 : goal.returns-2
returns-2 g c =
    let d = c.args.self.now in
    let l = c.loop-tag in
    greatest_end g.met.K.Length.laws c.args.memory.now c.greater_at-most.result (l.tag + 1) (omega arith) (omega (arith, c.loop-tag-test.true))
    (greatest_more g.K.Length.figures d.size (drawn d.states) c.args.memory.now l.tag l.auto.tag (omega (arith, c.loop-tag-test.true)) l.most c.greater_at-most.result c.greater_at-most.ensures l.invariant)
