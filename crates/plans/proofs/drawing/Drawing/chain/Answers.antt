use Rattle.plans.specs.Drawn.{parent_of, drawn}
use Rattle.plans.proofs.Chains.{climb_start, climb_more, climb_end}
use Rattle.plans.proofs.drawing.Drawing.chain.Goals as goal

pub loop-at-init : goal.loop-at-init
loop-at-init g c = climb_start (λ x. parent_of (drawn c.args.self.now.states x)) c.args.from c.requires

pub loop-at-preserved : goal.loop-at-preserved
loop-at-preserved g c =
    climb_more (λ x. parent_of (drawn c.args.self.now.states x)) c.args.from c.args.self.now.falling c.loop-at.met c.loop-at.at c.loop-at.invariant
    c.loop-at-test.true c.parent_of-at.result c.parent_of-at.ensures

pub returns : goal.returns
returns g c =
    climb_end (λ x. parent_of (drawn c.args.self.now.states x)) c.args.from c.args.self.now.falling c.loop-at.met c.loop-at.at c.loop-at.invariant
    c.loop-at-test.false
