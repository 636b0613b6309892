use Rattle.std.proofs.Common.{◌+◌, arith}
use Rattle.plans.specs.Drawn.{drawn}
use Rattle.plans.proofs.FromRoot.{up_start, up_step, up_end}
use Rattle.plans.proofs.drawing.Drawing.pass_from_root.Goals as goal

pub loop-tag-init : goal.loop-tag-init
loop-tag-init g c =
    let d = c.args.self.now in
    up_start g.met.K.Length.laws d.size (drawn d.states) c.args.sides.now c.args.memory.now

pub loop-tag-preserved : goal.loop-tag-preserved
loop-tag-preserved g c =
    let d = c.args.self.now in
    let l = c.loop-tag in
    up_step g.met.K.Length.laws d.size (drawn d.states) c.args.sides.now c.args.memory.now l.memory l.tag c.step_from_root.new.memory
    c.requires l.auto.tag (omega (arith, c.loop-tag-test.true)) c.step_from_root.ensures l.invariant

pub returns-2-clause-near : goal.returns-2-clause-near
returns-2-clause-near g c =
    let d = c.args.self.now in
    let l = c.loop-tag in
    up_end g.met.K.Length.laws d.size (drawn d.states) c.args.sides.now c.args.memory.now c.step_from_root.new.memory (l.tag + 1) (omega arith)
    (up_step g.met.K.Length.laws d.size (drawn d.states) c.args.sides.now c.args.memory.now l.memory l.tag c.step_from_root.new.memory
    c.requires l.auto.tag (omega (arith, c.loop-tag-test.true)) c.step_from_root.ensures l.invariant)
