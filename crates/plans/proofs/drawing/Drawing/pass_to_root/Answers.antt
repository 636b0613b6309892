use Rattle.std.proofs.Common.{arith}
use Rattle.plans.specs.Drawn.{drawn}
use Rattle.plans.proofs.ToRoot.{down_start, down_met, down_past}
use Rattle.plans.proofs.drawing.Drawing.pass_to_root.Goals as goal
use Rattle.plans.proofs.drawing.Drawing.pass_to_root.Goals.{then-both, else-both}

pub loop-tag-init : goal.loop-tag-init
loop-tag-init g c =
    let d = c.args.self.now in
    down_start g.met.K.Length.laws d.size (drawn d.states) c.args.sides.now c.args.memory.now c.zero-beyond.result c.zero-beyond.ensures

pub loop-tag-preserved : goal.loop-tag-preserved
loop-tag-preserved g c =
    let d = c.args.self.now in
    let laws = g.met.K.Length.laws in
    let l = c.loop-tag in
    let j = c.if-both in
    elim j.branch [
      | then-both w ↦
          down_met laws d.size (drawn d.states) c.args.sides.now c.args.memory.now l.memory l.beyond l.tag l.invariant c.requires
          c.loop-tag-test.true (omega arith) j.memory j.beyond w.memory-is (cc) (cc)
      | else-both w ↦
          down_past laws d.size (drawn d.states) c.args.sides.now c.args.memory.now l.memory l.beyond l.tag l.invariant c.requires
          c.loop-tag-test.true (omega arith) j.memory j.beyond w.memory-is w.beyond-is (cc)
    ]

pub returns-clause-common : goal.returns-clause-common
returns-clause-common g c = λ T a b given t low h p q. (c.loop-tag.invariant.2 T a b given).1 t (omega (arith, c.loop-tag-test.false)) h p q
