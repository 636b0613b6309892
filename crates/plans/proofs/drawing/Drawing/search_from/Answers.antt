use Rattle.std.proofs.Common.{◌≡◌, ℕ, ◌+◌, false, ap, sym, ◌∙◌, subst, arith}
use Rattle.std.proofs.lemmas.Bool.{both_ways}
use Rattle.books.specs.States.{stands}
use Rattle.plans.specs.Ways.{Point}
use Rattle.plans.specs.Searching.{Foremost}
use Rattle.plans.proofs.Search.{foremost_past, foremost_next}
use Rattle.plans.proofs.drawing.Drawing.search_from.Goals as goal

pub returns-then-not-is_point-clause-foremost : goal.returns-then-not-is_point-clause-foremost
returns-then-not-is_point-clause-foremost g c = λ state r was.
    let p = c.args.first in
    let same = r.shows p c.requires.0 (omega (arith, c.requires.1, r.lawful.most)) in
    let off : stands (state p) ≡ false = ap stands (sym same) ∙ sym c.is_point.ensures ∙ c.if-not-is_point.true in
    foremost_past g.met.K.Length.laws r.lawful (g.M.Measure.is c.args.self.now.size state) c.args.limit p c.args.best (λ s. both_ways (stands (state p)) off s) was

pub returns-else-not-is_point-2-clause-foremost : goal.returns-else-not-is_point-2-clause-foremost
returns-else-not-is_point-2-clause-foremost g c = λ state r was.
    let k = g.K.Length.figures in
    let laws = g.met.K.Length.laws in
    let W = g.M.Measure.is c.args.self.now.size state in
    let limit = c.args.limit in
    let p = c.args.first in
    let n = c.loop-last.last in
    let same = r.shows p c.requires.0 (omega (arith, c.requires.1, r.lawful.most)) in
    let point : Point state p = ap stands (sym same) ∙ sym c.is_point.ensures ∙ c.if-not-is_point.false in
    let tag = c.start-start.ensures.tag in
    let old = subst (λ (t : ℕ). Foremost k state W limit t n c.loop-last.best) (sym tag) (c.loop-last.invariant.foremost state r was) in
    let new = c.offer-best.ensures.foremost state r (subst (Point state) (sym tag) point) (c.start-start.ensures.far state r point) old in
    foremost_next laws r.lawful W limit p (n + 1) c.offer-best.result (omega arith) (subst (λ (t : ℕ). Foremost k state W limit t (n + 1) c.offer-best.result) tag new)
