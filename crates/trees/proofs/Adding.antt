-- What the laws of a kind give on sums of two and of four figures.
use Rattle.std.proofs.Common.{◌≡◌, ℕ, ◌+◌, ◌≤◌, ◌∙◌, arith}
use Rattle.lengths.specs.Figures.{Figures, Laws, Sum, none, both, Less, AtMost, most_entries}
use Rattle.lengths.specs.Order.{le_trans, neutral_left}

module _ {F : Type 0} {k : Figures F} (laws : Laws k) (m n : ℕ) where
  -- of four figures, the inner two change places
  pub swap_four :
      {x y z w : F} → m + m + n + n ≤ most_entries → Sum k m x → Sum k m y → Sum k n z → Sum k n w →
      k.sum (k.sum x y) (k.sum z w) ≡ k.sum (k.sum x z) (k.sum y w)
  swap_four {x} {y} {z} {w} room a b c d =
      let e₁ = laws.assoc m m (n + n) (omega arith) a b (both {m = n} {n = n} (omega arith) c d) in
      let e₂ = laws.assoc m n n (omega arith) b c d in
      let e₃ = laws.comm m n (omega arith) b c in
      let e₄ = laws.assoc n m n (omega arith) c b d in
      let e₅ = laws.assoc m n (m + n) (omega arith) a c (both {m = m} {n = n} (omega arith) b d) in
      cc

  module _ (room : m + n ≤ most_entries) where
    -- the same figure added on the left keeps what is less
    pub sum_left_lt : {x y z : F} → Sum k m x → Sum k n y → Sum k n z → Less k y z → Less k (k.sum x y) (k.sum x z)
    sum_left_lt {x} {y} {z} a b c h =
        rw (laws.comm m n room a b, laws.comm m n room a c) (laws.shift n n m (omega arith) (omega arith) b c a ∙ h)

    -- and what is at most
    pub sum_left_le : {x y z : F} → Sum k m x → Sum k n y → Sum k n z → AtMost k y z → AtMost k (k.sum x y) (k.sum x z)
    sum_left_le {x} {y} {z} a b c h =
        rw (laws.comm m n room a b, laws.comm m n room a c) (laws.shift n n m (omega arith) (omega arith) c b a ∙ h)

    -- a sum of two is at most a sum of two that are at least as great
    pub sum_le :
        {x y z w : F} → Sum k m x → Sum k n y → Sum k m z → Sum k n w →
        AtMost k x z → AtMost k y w → AtMost k (k.sum x y) (k.sum z w)
    sum_le {x} {y} {z} {w} a b c d h g = le_trans laws {y = k.sum z y} (laws.shift m m n room room c a b ∙ h) (sum_left_le c b d g)

    -- a figure above zero, added, makes more
    pub grows : {x y : F} → Sum k m x → Sum k n y → Less k k.zero x → Less k y (k.sum x y)
    grows {x} {y} a b h = rw (neutral_left laws n (omega arith) b) at (laws.shift 0 m n (omega arith) room none a b ∙ h)
