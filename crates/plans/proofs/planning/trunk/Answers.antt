use Rattle.std.proofs.Common.{ℕ, subst}
use Rattle.plans.specs.Plans.{Trunk}
use Rattle.plans.proofs.Checks.{planned_from}
use Rattle.plans.proofs.Single.{trunk_once}
use Rattle.plans.proofs.Told.{total_bound}
use Rattle.plans.proofs.Best.{ends_low, trunk_of}
use Rattle.plans.proofs.planning.trunk.Goals as goal

pub plan-requires : goal.plan-requires
plan-requires g c =
    let (same, fits, reads) = c.in_ok-drawing.ensures in
    let best = c.search-trunk.ensures.foremost (g.B.Book.state c.args.book.now) reads in
    ends_low reads.lawful c.search-trunk.result best.fits.first_point best.fits.last_point

pub returns-clause-answer : goal.returns-clause-answer
returns-clause-answer g c =
    let state = g.B.Book.state c.args.book.now in
    let x = c.search-trunk.result in
    let (same, fits, reads) = c.in_ok-drawing.ensures in
    let (first, last, figure) = c.plan.ensures in
    let trunk = trunk_of g.met.B.Kind.Length.laws reads.lawful x c.args.limit (c.search-trunk.ensures.foremost state reads) in
    let here = subst (λ (n : ℕ). Trunk g.B.Kind.Length.figures n state c.args.limit x.first x.last x.weight) same trunk in
    (planned_from _ _ fits, rw (first, last, figure) here)

pub returns-clause-bound : goal.returns-clause-bound
returns-clause-bound g c =
    let x = c.search-trunk.result in
    let (same, fits, reads) = c.in_ok-drawing.ensures in
    let trunk = trunk_of g.met.B.Kind.Length.laws reads.lawful x c.args.limit (c.search-trunk.ensures.foremost (g.B.Book.state c.args.book.now) reads) in
    rw (c.plan.ensures.2) (total_bound g.met.B.Kind.Length.laws x.first x.last x.weight trunk.total (record { lawful = reads.lawful; first = trunk.first_point; last = trunk.last_point }))

pub returns-clause-only : goal.returns-clause-only
returns-clause-only g c =
    let state = g.B.Book.state c.args.book.now in
    let x = c.search-trunk.result in
    let (same, fits, reads) = c.in_ok-drawing.ensures in
    let laws = g.met.B.Kind.Length.laws in
    let trunk = trunk_of laws reads.lawful x c.args.limit (c.search-trunk.ensures.foremost state reads) in
    let here = subst (λ (n : ℕ). Trunk g.B.Kind.Length.figures n state c.args.limit x.first x.last x.weight) same trunk in
    λ first last figure other. rw (c.plan.ensures.0, c.plan.ensures.1, c.plan.ensures.2) (trunk_once laws here other)
