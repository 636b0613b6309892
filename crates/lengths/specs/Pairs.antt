-- First-then: two figures, of which the second is compared only where the first are equal.
use Rattle.std.specs.Prelude.{ℕ, true, false, cond, ◌&&◌}
use Rattle.lengths.specs.declared.pairs.FirstThen.{FirstThen}
use Rattle.lengths.specs.Figures.{Figures}
use Rattle.lengths.specs.Whole.{Millimetres, Couplings, millimetres, mm, couplings, cp}

abbrev pub pair : {A B : Type 0} → A → B → FirstThen A B
pair a b = record { first = a; second = b }

-- sums part by part; less in the first part, or in the second where neither first is less; an entry where both parts are
abbrev pub first_then : {A B : Type 0} → Figures A → Figures B → Figures (FirstThen A B)
first_then a b = record {
  zero = pair a.zero b.zero;
  sum = λ x y. pair (a.sum x.first y.first) (b.sum x.second y.second);
  less = λ x y. cond (a.less x.first y.first) true (cond (a.less y.first x.first) false (b.less x.second y.second));
  entry = λ x. a.entry x.first && b.entry x.second;
}

-- kind C: couplings first, then millimetres
abbrev pub kind_c_figures : Figures (FirstThen Couplings Millimetres)
kind_c_figures = first_then cp mm

abbrev pub figure_c : ℕ → ℕ → FirstThen Couplings Millimetres
figure_c n l = pair (couplings n) (millimetres l)
