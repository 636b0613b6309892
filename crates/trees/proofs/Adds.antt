-- The sum, over all points, of a figure of each point.
use Rattle.std.proofs.Common.{◌≡◌, ℕ, zero, suc, ◌-◌, ◌*◌, Bool, true, cond, refl, ap₂, arith}
use Rattle.std.proofs.lemmas.Bool.{cond_both}
use Rattle.lengths.specs.Figures.{Figures, Sum, none, both}
use Rattle.lengths.specs.Order.{sum_more}
use Rattle.trees.proofs.Trees.{Tree, Stands}

module _ {F : Type 0} {k : Figures F} where
  -- the sum of the figures f y of the points y below n, from the smallest tag on
  unfoldable pub sum_below : Tree k → (ℕ → F) → ℕ → F
  sum_below T f zero = k.zero
  sum_below T f (suc n) = cond (T.stands n) (k.sum (sum_below T f n) (f n)) (sum_below T f n)

  -- the sum of the figures of all points
  unfoldable pub sum_over : Tree k → (ℕ → F) → F
  sum_over T f = sum_below T f T.high

-- two figures that are the same where b holds and where it does not
cond_same : {A : Type 0} {x y z w : A} (b : Bool) → (b ≡ true → x ≡ z) → y ≡ w → cond b x y ≡ cond b z w
cond_same b h g = grind arith

module _ {F : Type 0} {k : Figures F} (T : Tree k) where
  -- where the figure of each point is a sum of at most 255 entries, those of the points below n come to at most 255 entries for each
  -- tag from 1 on
  pub sum_below_few : (f : ℕ → F) → ((y : ℕ) → Stands T y → Sum k 255 (f y)) → (n : ℕ) → Sum k ((n - 1) * 255) (sum_below T f n)
  unfolding sum_below
  sum_below_few f h zero = none
  sum_below_few f h (suc n) =
      let old = sum_below_few f h n in
      cond_both (T.stands n) (k.sum (sum_below T f n) (f n)) (sum_below T f n) (Sum k ((suc n - 1) * 255))
      (λ s. both {m = (n - 1) * 255} {n = 255} (omega (arith, T.from_one n s)) old (h n s))
      (λ _. sum_more {m = (n - 1) * 255} {n = (suc n - 1) * 255} (omega arith) old)

  -- those of all points come to at most 65,280 entries
  pub sum_over_few : (f : ℕ → F) → ((y : ℕ) → Stands T y → Sum k 255 (f y)) → Sum k 65280 (sum_over T f)
  unfolding sum_over
  sum_over_few f h = sum_more {m = (T.high - 1) * 255} {n = 65280} (omega (arith, T.few)) (sum_below_few f h T.high)

  -- `sum_over_same`, of the points below n
  sum_below_same : (f g : ℕ → F) → ((y : ℕ) → Stands T y → f y ≡ g y) → (n : ℕ) → sum_below T f n ≡ sum_below T g n
  unfolding sum_below
  sum_below_same f g h zero = refl
  sum_below_same f g h (suc n) = cond_same (T.stands n) (λ s. ap₂ k.sum (sum_below_same f g h n) (h n s)) (sum_below_same f g h n)

  -- the same figure of each point comes to the same sum
  pub sum_over_same : (f g : ℕ → F) → ((y : ℕ) → Stands T y → f y ≡ g y) → sum_over T f ≡ sum_over T g
  unfolding sum_over
  sum_over_same f g h = sum_below_same f g h T.high
