use Rattle.std.proofs.Common.{sym, ◌∙◌}
use Rattle.plans.proofs.Search.{stays, not_beaten, beaten}
use Rattle.plans.proofs.drawing.Drawing.offer.Goals as goal

pub returns-in-Some-clause-foremost : goal.returns-in-Some-clause-foremost
returns-in-Some-clause-foremost g c = λ state r s far was.
    let (is_first, is_last, fits, only) = c.in-Some.ensures.found state r s far in
    beaten g.met.K.Length.laws r.lawful (g.M.Measure.is c.args.self.now.size state) c.args.limit c.args.start.now.tag c.args.last c.args.best was
    c.in-Some.found is_first is_last fits only (sym c.beats.ensures ∙ c.if-beats.true)

pub returns-in_default-clause-foremost : goal.returns-in_default-clause-foremost
returns-in_default-clause-foremost g c = λ state r s far was.
    let (is_first, is_last, fits, only) = c.in-Some.ensures.found state r s far in
    not_beaten g.met.K.Length.laws r.lawful (g.M.Measure.is c.args.self.now.size state) c.args.limit c.args.start.now.tag c.args.last c.args.best was
    c.in-Some.found is_first is_last fits only (sym c.beats.ensures ∙ c.if-beats.false)

pub returns-in_default-2-clause-foremost : goal.returns-in_default-2-clause-foremost
returns-in_default-2-clause-foremost g c = λ state r s far was.
    let none = rw c.in_default.is at (c.candidate.ensures.found state r s far) in
    stays g.met.K.Length.laws r.lawful (g.M.Measure.is c.args.self.now.size state) c.args.limit c.args.start.now.tag c.args.last c.args.best was
    (λ w l q hw hl hin. absurd (none l q hl hin))
