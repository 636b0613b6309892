use Rattle.std.proofs.Common.{◌≡◌, ℕ, ◌+◌, refl, ◌∙◌, subst, arith}
use Rattle.plans.specs.Searching.{Central}
use Rattle.plans.proofs.Loom.{tree_of}
use Rattle.plans.proofs.Centered.{central_start}
use Rattle.plans.proofs.drawing.Drawing.center.Goals as goal

pub loop-tag-init : goal.loop-tag-init
loop-tag-init g c = record {
  central = λ state r. let root = (tree_of r.lawful).root in central_start g.met.K.Length.laws r.lawful c.of.result (c.of.ensures.figure state r root root);
  near = omega (arith, c.args.self.now.fits);
  long = refl;
  rest = refl;
}

pub loop-tag-preserved : goal.loop-tag-preserved
loop-tag-preserved g c =
    let was = c.loop-tag.invariant in
    let done = c.center_with-best.ensures in
    record {
      central = λ state r. done.central state r (was.central state r);
      near = omega (arith, c.loop-tag-test.true);
      long = done.long ∙ was.long;
      rest = done.rest ∙ was.rest;
    }

pub returns-clause-central : goal.returns-clause-central
returns-clause-central g c = λ state r.
    let all : c.loop-tag.tag ≡ c.args.self.now.size + 1 = omega (arith, c.loop-tag-test.false, c.loop-tag.invariant.near) in
    subst (λ (m : ℕ). Central g.K.Length.figures state m c.loop-tag.best) all (c.loop-tag.invariant.central state r)

pub returns-2-clause-central : goal.returns-2-clause-central
returns-2-clause-central g c = λ state r.
    let n = c.loop-tag.tag in
    let all : n + 1 ≡ c.args.self.now.size + 1 = omega (arith, c.loop-tag-test.true) in
    subst (λ (m : ℕ). Central g.K.Length.figures state m c.center_with-best.result) all (c.center_with-best.ensures.central state r (c.loop-tag.invariant.central state r))
