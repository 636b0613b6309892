use Rattle.std.proofs.Common.{◌+◌, arith}
use Rattle.plans.proofs.Checks.{planned_from}
use Rattle.plans.proofs.Single.{hub_once}
use Rattle.plans.proofs.Told.{reach_bound}
use Rattle.plans.proofs.Centered.{hub_of}
use Rattle.plans.proofs.planning.hub.Goals as goal

pub returns-clause-answer : goal.returns-clause-answer
returns-clause-answer g c =
    let state = g.B.Book.state c.args.book.now in
    let size = c.in_ok-drawing.drawing.size in
    let (same, fits, reads) = c.in_ok-drawing.ensures in
    (planned_from _ _ fits, hub_of g.met.B.Kind.Length.laws reads.lawful (size + 1) c.center-hub.result (omega arith) (c.center-hub.ensures.central state reads))

pub returns-clause-bound : goal.returns-clause-bound
returns-clause-bound g c =
    let (same, fits, reads) = c.in_ok-drawing.ensures in
    let hub = hub_of g.met.B.Kind.Length.laws reads.lawful (c.in_ok-drawing.drawing.size + 1) c.center-hub.result (omega arith) (c.center-hub.ensures.central (g.B.Book.state c.args.book.now) reads) in
    reach_bound g.met.B.Kind.Length.laws c.center-hub.result.first c.center-hub.result.first c.center-hub.result.figure hub.first_reach
    (record { lawful = reads.lawful; first = hub.first_point; last = hub.first_point })

pub returns-clause-only : goal.returns-clause-only
returns-clause-only g c =
    let (same, fits, reads) = c.in_ok-drawing.ensures in
    let laws = g.met.B.Kind.Length.laws in
    let hub = hub_of laws reads.lawful (c.in_ok-drawing.drawing.size + 1) c.center-hub.result (omega arith) (c.center-hub.ensures.central (g.B.Book.state c.args.book.now) reads) in
    λ first last figure other. hub_once laws hub other
