use Rattle.std.proofs.Common.{◌+◌, arith}
use Rattle.plans.specs.Drawn.{drawn}
use Rattle.plans.proofs.Folds.{total_none, total_more, total_end}
use Rattle.plans.proofs.drawing.Drawing.total.Goals as goal

pub loop-tag-init : goal.loop-tag-init
loop-tag-init g c =
    let d = c.args.self.now in
    total_none g.K.Length.figures d.size (drawn d.states) c.args.memory.now c.zero-all.result c.zero-all.ensures

pub loop-tag-preserved : goal.loop-tag-preserved
loop-tag-preserved g c =
    let d = c.args.self.now in
    let l = c.loop-tag in
    total_more g.K.Length.figures d.size (drawn d.states) c.args.memory.now l.tag l.auto.tag (omega (arith, c.loop-tag-test.true)) l.all c.added_at-all.result c.added_at-all.ensures l.invariant

pub returns-2 : goal.returns-2
returns-2 g c =
    let d = c.args.self.now in
    let l = c.loop-tag in
    total_end g.met.K.Length.laws c.args.memory.now c.added_at-all.result (l.tag + 1) (omega arith) (omega (arith, c.loop-tag-test.true))
    (total_more g.K.Length.figures d.size (drawn d.states) c.args.memory.now l.tag l.auto.tag (omega (arith, c.loop-tag-test.true)) l.all c.added_at-all.result c.added_at-all.ensures l.invariant)
