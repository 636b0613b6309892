use Rattle.plans.proofs.Checks.{planned_from}
use Rattle.plans.proofs.Single.{spine_once}
use Rattle.plans.proofs.Told.{reach_bound}
use Rattle.plans.proofs.Best.{ends_low, spine_of}
use Rattle.plans.proofs.planning.spine.Goals as goal

pub plan-requires : goal.plan-requires
plan-requires g c =
    let (same, fits, reads) = c.in_ok-drawing.ensures in
    let best = c.search-spine.ensures.foremost (g.B.Book.state c.args.book.now) reads in
    ends_low reads.lawful c.search-spine.result best.fits.first_point best.fits.last_point

pub returns-clause-answer : goal.returns-clause-answer
returns-clause-answer g c =
    let (same, fits, reads) = c.in_ok-drawing.ensures in
    let (first, last, figure) = c.plan.ensures in
    let spine = spine_of g.met.B.Kind.Length.laws reads.lawful c.search-spine.result (c.search-spine.ensures.foremost (g.B.Book.state c.args.book.now) reads) in
    (planned_from _ _ fits, rw (first, last, figure) spine)

pub returns-clause-bound : goal.returns-clause-bound
returns-clause-bound g c =
    let x = c.search-spine.result in
    let (same, fits, reads) = c.in_ok-drawing.ensures in
    let spine = spine_of g.met.B.Kind.Length.laws reads.lawful x (c.search-spine.ensures.foremost (g.B.Book.state c.args.book.now) reads) in
    rw (c.plan.ensures.2) (reach_bound g.met.B.Kind.Length.laws x.first x.last x.weight spine.reach (record { lawful = reads.lawful; first = spine.first_point; last = spine.last_point }))

pub returns-clause-only : goal.returns-clause-only
returns-clause-only g c =
    let (same, fits, reads) = c.in_ok-drawing.ensures in
    let laws = g.met.B.Kind.Length.laws in
    let spine = spine_of laws reads.lawful c.search-spine.result (c.search-spine.ensures.foremost (g.B.Book.state c.args.book.now) reads) in
    λ first last figure other. rw (c.plan.ensures.0, c.plan.ensures.1, c.plan.ensures.2) (spine_once laws reads.lawful spine other)
