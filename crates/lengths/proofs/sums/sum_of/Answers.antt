-- (the check does not find these by itself: tried without)
use Rattle.std.proofs.Common.{◌≡◌, ◌+◌, [], ◌∷◌, ◌++◌, take, sym, ap, ◌∙◌, arith}
use Rattle.std.proofs.lemmas.List.{take_more, take_all}
use Rattle.lengths.specs.Figures.{added, none}
use Rattle.lengths.specs.Order.{sum_more}
use Rattle.lengths.proofs.Totals.{added_push, added_sum, added_total}
use Rattle.lengths.proofs.sums.sum_of.Goals as goal

pub loop-x-preserved : goal.loop-x-preserved
loop-x-preserved g c =
    let k = g.L.Length.figures in
    let xs = c.args.xs.now in
    let i = c.loop-x.x-index in
    let x = c.x-item.result in
    let pushed : take (i + 1) xs ≡ take i xs ++ (x ∷ []) = take_more xs i x c.loop-x-test.true ∙ ap (λ y. take i xs ++ (y ∷ [])) (sym c.x-item.is) in
    c.plus-all.ensures ∙ (ap (λ y. k.sum y x) c.loop-x.invariant ∙ (sym (added_push k k.zero (take i xs) x) ∙ ap (added k k.zero) (sym pushed)))

pub returns : goal.returns
returns g c =
    let k = g.L.Length.figures in
    let xs = c.args.xs.now in
    let e : c.loop-x.all ≡ added k k.zero xs = c.loop-x.invariant ∙ ap (added k k.zero) (take_all _ xs c.loop-x-test.false) in
    record {
      value = e;
      backwards = λ h few. e ∙ added_total g.met.L.Length.laws xs h few;
      entries = λ h. rw e (sum_more (omega arith) (added_sum k {n = 0} k.zero xs none h));
    }
