use Rattle.std.proofs.Common.{◌≡◌, take}
use Rattle.lengths.specs.Figures.{added}
use Rattle.lengths.proofs.sums.sum_of.Given as goal

abbrev pub invariant-loop-x : goal.invariant-loop-x
invariant-loop-x g l = let k = g.L.Length.figures in l.all ≡ added k k.zero (take l.x-index l.xs)
