use Rattle.std.proofs.Common.{◌≡◌, length, take, replicate}
use Rattle.plans.proofs.checking.clear.Given as goal

abbrev pub invariant-loop-figure : goal.invariant-loop-figure
invariant-loop-figure g l =
    (length l.figures ≡ length l.initial.figures) × (take l.figure-index l.figures ≡ replicate l.figure-index g.K.Length.figures.zero)
