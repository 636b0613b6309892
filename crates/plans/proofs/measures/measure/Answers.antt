use Rattle.std.proofs.Common.{◌≡◌, length, None, subst, arith}
use Rattle.books.specs.Causes.{first_cause}
use Rattle.plans.specs.Checks.{measure_causes}
use Rattle.plans.proofs.Checks.{point_read, measured_from}
use Rattle.plans.proofs.measures.measure.Goals as goal

pub returns-clause-answer : goal.returns-clause-answer
returns-clause-answer g c =
    let state = g.B.Book.state c.args.book.now in
    let d = c.in_ok-drawing.drawing in
    let size = d.size in
    let (same, fits, reads) = c.in_ok-drawing.ensures in
    let (is_first, no_first) = c.in_ok-first.ensures in
    let (is_last, no_last) = c.in_ok-last.ensures in
    let (p, free_first) = point_read reads c.args.first no_first in
    let (q, free_last) = point_read reads c.args.last no_last in
    let figure = c.of-figure.ensures.figure state reads (rw is_first p) (rw is_last q) in (
      subst (λ n. first_cause (measure_causes n (length c.args.memory.now) state c.args.first c.args.last) ≡ None) same
          (measured_from size (length c.args.memory.now) state c.args.first c.args.last (omega (arith, same, fits)) free_first free_last),
      subst (λ n. g.M.Measure.is n state c.args.first c.args.last c.of-figure.result) same (rw (is_first, is_last) at figure),
    )
