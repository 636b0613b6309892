-- Sums of many figures: what the laws give of `added` and `total`.
use Rattle.std.proofs.Common.{◌≡◌, ℕ, ◌+◌, ◌≤◌, true, List, [], ◌∷◌, ◌++◌, length, sym, refl, ◌∙◌, arith}
use Rattle.std.specs.List.{AllByRecursion}
use Rattle.lengths.specs.Figures.{Figures, Laws, Sum, none, one, both, added, total, most_entries}
use Rattle.lengths.specs.Order.{sum_more, neutral_left}

module _ {F : Type 0} (k : Figures F) where
  -- one figure more
  pub added_push : (x : F) (ys : List F) (y : F) → added k x (ys ++ y ∷ []) ≡ k.sum (added k x ys) y
  added_push x [] y = refl
  added_push x (z ∷ ys) y = added_push (k.sum x z) ys y

  -- entries come to a sum of as many as there are
  pub added_sum : {n : ℕ} (x : F) (ys : List F) → Sum k n x → AllByRecursion (λ y. k.entry y ≡ true) ys → Sum k (n + length ys) (added k x ys)
  added_sum x [] s h = sum_more (omega arith) s
  added_sum {n} x (y ∷ ys) s h = sum_more (omega arith) (added_sum {n = n + 1} (k.sum x y) ys (both {m = n} {n = 1} (omega arith) s (one (omega arith) h.0)) h.1)

  pub total_sum : (xs : List F) → AllByRecursion (λ x. k.entry x ≡ true) xs → Sum k (length xs) (total k xs)
  total_sum [] h = none
  total_sum (x ∷ xs) h = both {m = 1} {n = length xs} (omega arith) (one (omega arith) h.0) (total_sum xs h.1)

module _ {F : Type 0} {k : Figures F} (laws : Laws k) where
  added_from : {n : ℕ} (x : F) (ys : List F) → Sum k n x → AllByRecursion (λ y. k.entry y ≡ true) ys → n + length ys ≤ most_entries
      → added k x ys ≡ k.sum x (total k ys)
  added_from {n} x [] s h few = sym (laws.neutral n (omega arith) s)
  added_from {n} x (y ∷ ys) s h few =
      let e : Sum k 1 y = one (omega arith) h.0 in
      added_from {n = n + 1} (k.sum x y) ys (both {m = n} {n = 1} (omega arith) s e) h.1 (omega arith)
      ∙ laws.assoc n 1 (length ys) (omega arith) s e (total_sum k ys h.1)

  -- entries within the bound come to the same from the first one on and from the last one backwards
  pub added_total : (xs : List F) → AllByRecursion (λ x. k.entry x ≡ true) xs → length xs ≤ most_entries → added k k.zero xs ≡ total k xs
  added_total xs h few =
      added_from {n = 0} k.zero xs none h (omega arith) ∙ neutral_left laws (length xs) few (total_sum k xs h)
