-- Kinds whose figures are whole numbers: a sum too large for 64 bits is the greatest number that they hold.
use Rattle.std.specs.Prelude.{ℕ, ◌+◌, ◌-◌, ◌^◌, min, nat_le, nat_lt}
use Rattle.lengths.specs.declared.count.Count.{Count}
use Rattle.lengths.specs.Figures.{Figures}

-- the greatest figure
abbrev pub greatest : ℕ
greatest = 2 ^ 64 - 1

-- a kind of whole numbers: `of n` is the figure of the number n, `at x` the number of x, and an entry is at most `most`
abbrev pub whole : {F : Type 0} → (ℕ → F) → (F → ℕ) → ℕ → Figures F
whole of at most = record {
  zero = of 0;
  sum = λ x y. of (min (at x + at y) greatest);
  less = λ x y. nat_lt (at x) (at y);
  entry = λ x. nat_le (at x) most;
}

-- a kind whose figures are whole numbers, and whose entries are at most `most`
abbrev pub counts : (most : ℕ) → Figures (Count most)
counts most = whole (λ n. record { value = n }) (λ x. x.value) most

-- millimetres: an entry is at most 1,000,000
abbrev pub Millimetres : Type 0
Millimetres = Count 1000000

abbrev pub millimetres : ℕ → Millimetres
millimetres n = record { value = n }

abbrev pub mm : Figures Millimetres
mm = counts 1000000

-- couplings: an entry is at most 9
abbrev pub Couplings : Type 0
Couplings = Count 9

abbrev pub couplings : ℕ → Couplings
couplings n = record { value = n }

abbrev pub cp : Figures Couplings
cp = counts 9
