-- The greatest of a figure of each point.
use Rattle.std.proofs.Common.{◌≡◌, ℕ, zero, suc, ◌<◌, ◌⊎◌, inl, inr, arith}
use Rattle.std.proofs.lemmas.Bool.{cases_eq, cond_both, cond-true}
use Rattle.lengths.specs.Figures.{Figures, Laws, Less, AtMost}
use Rattle.lengths.specs.Order.{irrefl, asym, le_trans, le_lt_trans}
use Rattle.trees.proofs.Trees.{Tree, Stands, greater, greatest}

-- what holds of two figures holds of the larger
greater_to : {F : Type 0} (k : Figures F) (P : F → Type 0) (x y : F) → P x → P y → P (greater k x y)
unfolding greater
greater_to k P x y h g = cond_both (k.less x y) y x P (λ t. g) (λ f. h)

module _ {F : Type 0} {k : Figures F} (laws : Laws k) where
  -- the first of two is at most the larger
  greater_left : (x y : F) → AtMost k x (greater k x y)
  unfolding greater
  greater_left x y = cond_both (k.less x y) y x (AtMost k x) (λ t. asym laws t) (λ f. irrefl laws x)

  -- and so is the second
  greater_right : (x y : F) → AtMost k y (greater k x y)
  unfolding greater
  greater_right x y = cond_both (k.less x y) y x (AtMost k y) (λ t. irrefl laws y) (λ f. f)

module _ {F : Type 0} {k : Figures F} (T : Tree k) (f : ℕ → F) where
  -- what holds of zero and of the figure of each point holds of the greatest
  pub greatest_to : (P : F → Type 0) → P k.zero → ((y : ℕ) → Stands T y → P (f y)) → (n : ℕ) → P (greatest T f n)
  unfolding greatest
  greatest_to P z h zero = z
  greatest_to P z h (suc n) =
      let old = greatest_to P z h n in
      cond_both (T.stands n) (greater k (greatest T f n) (f n)) (greatest T f n) P
      (λ s. greater_to k P (greatest T f n) (f n) old (h n s)) (λ _. old)

module _ {F : Type 0} {k : Figures F} (laws : Laws k) (T : Tree k) (f : ℕ → F) where
  -- one tag more makes the greatest no less
  greatest_grows : (n : ℕ) → AtMost k (greatest T f n) (greatest T f (suc n))
  unfolding greatest
  greatest_grows n =
      cond_both (T.stands n) (greater k (greatest T f n) (f n)) (greatest T f n) (AtMost k (greatest T f n))
      (λ t. greater_left laws (greatest T f n) (f n)) (λ t. irrefl laws (greatest T f n))

  -- the figure of the last point is at most the greatest
  greatest_last : (n : ℕ) → Stands T n → AtMost k (f n) (greatest T f (suc n))
  unfolding greatest
  greatest_last n s =
      rw (cond-true (T.stands n) (greater k (greatest T f n) (f n)) (greatest T f n) s) (greater_right laws (greatest T f n) (f n))

  -- the figure of every point is at most the greatest
  pub greatest_from : (y : ℕ) → Stands T y → (n : ℕ) → y < n → AtMost k (f y) (greatest T f n)
  greatest_from y s zero h = absurd (omega arith)
  greatest_from y s (suc n) h =
      let old : y < n → AtMost k (f y) (greatest T f (suc n)) = λ l. le_trans laws (greatest_from y s n l) (greatest_grows n) in
      go old (cases_eq y n)
    where
      go : (y < n → AtMost k (f y) (greatest T f (suc n))) → (y ≡ n) ⊎ (y ≡ n → ⊥) → AtMost k (f y) (greatest T f (suc n))
      go old (inl p) = rw p (greatest_last n (rw p at s))
      go old (inr m) = old (omega (arith, m))

  -- where the figure of every point is less than M, the greatest is
  pub greatest_below : (M : F) → ((y : ℕ) → Stands T y → Less k (f y) M) → (n : ℕ) → Less k (greatest T f n) M
  greatest_below M h n = greatest_to T f (λ x. Less k x M) (le_lt_trans laws (laws.least (f 1)) (h 1 T.root)) h n

  -- where the figure of every point is at most M, the greatest is
  pub greatest_at_most : (M : F) → ((y : ℕ) → Stands T y → AtMost k (f y) M) → (n : ℕ) → AtMost k (greatest T f n) M
  greatest_at_most M h n = greatest_to T f (λ x. AtMost k x M) (laws.least M) h n
