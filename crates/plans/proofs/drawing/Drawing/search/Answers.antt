use Rattle.std.proofs.Common.{◌≡◌, ℕ, ◌+◌, refl, sym, ◌∙◌, subst, arith}
use Rattle.plans.specs.Searching.{Foremost}
use Rattle.plans.proofs.Loom.{tree_of}
use Rattle.plans.proofs.Search.{foremost_start}
use Rattle.plans.proofs.drawing.Drawing.search.Goals as goal

pub loop-first-init : goal.loop-first-init
loop-first-init g c =
    let k = g.K.Length.figures in
    record {
      foremost = λ state r.
          let W = g.M.Measure.is c.args.self.now.size state in
          let root = (tree_of r.lawful).root in
          subst (λ z. Foremost k state W c.args.limit 1 1 (record { first = 1; last = 1; weight = c.of.result; length = z })) (sym c.zero.ensures)
          (foremost_start g.met.K.Length.laws r.lawful W c.args.limit c.of.result (c.of.ensures.figure state r root root));
      long = refl;
      rest = refl;
    }

pub loop-first-preserved : goal.loop-first-preserved
loop-first-preserved g c =
    let was = c.loop-first.invariant in
    let done = c.search_from-best.ensures in
    record {
      foremost = λ state r. done.foremost state r (was.foremost state r);
      long = done.long ∙ was.long;
      rest = done.rest ∙ was.rest;
    }

pub returns-2-clause-foremost : goal.returns-2-clause-foremost
returns-2-clause-foremost g c = λ state r.
    let size = c.args.self.now.size in
    let n = c.loop-first.first in
    let all : n + 1 ≡ size + 1 = omega (arith, c.loop-first-test.true) in
    subst (λ (m : ℕ). Foremost g.K.Length.figures state (g.M.Measure.is size state) c.args.limit m m c.search_from-best.result) all
    (c.search_from-best.ensures.foremost state r (c.loop-first.invariant.foremost state r))
