-- Three points have a median.
use Rattle.std.proofs.Common.{◌≡◌, ℕ, zero, suc, ◌+◌, ◌<◌, ◌≤◌, Bool, false, ◌⊎◌, sym, ◌∙◌, inl, inr, arith}
use Rattle.std.proofs.lemmas.Bool.{cases_order, cases_eq}
use Rattle.lengths.specs.Figures.{Figures}
use Rattle.trees.proofs.Trees.{Tree, Stands, Joined, side, majority, Median}
use Rattle.trees.proofs.Runs.{joined_above, up_stands, up_lower, later_joined}
use Rattle.trees.proofs.Sides.{side_above, side_past}

-- the first two on one side
twice : (s t : Bool) → s ≡ majority s s t
twice s t = grind arith

-- the last two on the inner side
neither : (s : Bool) → majority s false false ≡ false
neither s = grind arith

-- the three in a ring
turned : (s t u : Bool) → majority t u s ≡ majority s t u
turned s t u = grind arith

module _ {F : Type 0} {k : Figures F} (T : Tree k) where
  -- a point that is a median of a, b and x
  abbrev Found : ℕ → ℕ → ℕ → Type 0
  Found a b x = (m : ℕ) × Stands T m × Median T m a b x

  -- a median of the three in a ring is a median of the three
  turn : (a b x : ℕ) → Found b x a → Found a b x
  turn a b x (m, s, h) = (m, s, λ e d. h e d ∙ turned (side T e a) (side T e b) (side T e x))

  -- of a point twice and another one, it is the first
  level : (a x : ℕ) → Stands T a → Found a a x
  level a x s = (a, s, λ e d. twice (side T e a) (side T e x))

  -- three points whose tags come to at most `fuel` have a median
  abbrev Found_to : ℕ → Type 0
  Found_to fuel = (a b x : ℕ) → a + b + x ≤ fuel → Stands T a → Stands T b → Stands T x → Found a b x

  -- where a is greater than the other two, its parent has the same median with them
  lowered :
      (fuel a b x : ℕ) → Found_to fuel → a + b + x ≤ suc fuel → Stands T a → Stands T b → Stands T x →
      b < a → x < a → Found a b x
  lowered fuel a b x rec h s t u l r = let (m, v, same) = below in (m, v, λ e d. same e d ∙ go e d (cases_eq e a))
    where
      g : Joined T a
      g = later_joined T b a t s l

      below : Found (T.parent a) b x
      below = rec (T.parent a) b x (omega (arith, up_lower T g)) (up_stands T g) t u

      go :
          (e : ℕ) → Joined T e → (e ≡ a) ⊎ (e ≡ a → ⊥) →
          majority (side T e (T.parent a)) (side T e b) (side T e x) ≡ majority (side T e a) (side T e b) (side T e x)
      go e d (inl p) = rw (p, side_above T a b l, side_above T a x r) (neither (side T a (T.parent a)) ∙ sym (neither (side T a a)))
      go e d (inr n) = rw (side_past T e a (omega (arith, joined_above T d)) g n)

  -- one more
  step : (fuel : ℕ) → Found_to fuel → Found_to (suc fuel)
  step fuel rec a b x h s t u = go (cases_order a b) (cases_order b x) (cases_order a x)
    where
      x_greatest : a < x → b < x → Found a b x
      x_greatest l r = turn a b x (turn b x a (lowered fuel x a b rec (omega arith) u s t l r))

      b_greatest : a < b → x < b → Found a b x
      b_greatest l r = turn a b x (lowered fuel b x a rec (omega arith) t u s r l)

      go :
          (a ≡ b) ⊎ ((a < b) ⊎ (b < a)) → (b ≡ x) ⊎ ((b < x) ⊎ (x < b)) → (a ≡ x) ⊎ ((a < x) ⊎ (x < a)) → Found a b x
      go (inl p) q r = rw (← p) (level a x s)
      go (inr p) (inl q) r = rw (← q) (turn a b b (level b a t))
      go (inr p) (inr q) (inl r) = rw (← r) (turn a b a (turn b a a (level a b s)))
      go (inr (inl p)) (inr (inl q)) (inr r) = x_greatest (omega arith) q
      go (inr (inl p)) (inr (inr q)) (inr r) = b_greatest p q
      go (inr (inr p)) (inr q) (inr (inl r)) = x_greatest r (omega arith)
      go (inr (inr p)) (inr q) (inr (inr r)) = lowered fuel a b x rec h s t u p r

  -- any number
  found : (fuel : ℕ) → Found_to fuel
  found zero = λ a b x h s t u. absurd (omega (arith, T.from_one a s))
  found (suc fuel) = step fuel (found fuel)

  -- three points have a median: a point that is, at each run, on the side that two of the three or all of them are on
  pub medians :
      (a b x : ℕ) → Stands T a → Stands T b → Stands T x →
      (m : ℕ) × Stands T m × ((e : ℕ) → Joined T e → side T e m ≡ majority (side T e a) (side T e b) (side T e x))
  medians a b x s t u = found (a + b + x) a b x (omega arith) s t u
