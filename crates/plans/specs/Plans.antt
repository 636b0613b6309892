-- Plans: the hub, the spine and the trunk of a loom.
use Rattle.std.specs.Prelude.{◌≡◌, ℕ, ◌<◌, ◌≤◌, ◌⊎◌}
use Rattle.lengths.specs.Figures.{Figures, Less, AtMost}
use Rattle.books.specs.declared.states.State.{State}
use Rattle.plans.specs.Ways.{Point, Joined}
use Rattle.plans.specs.Measures.{On, Distance, Reach, Total}

-- the hub (the weighted center): the points of least reach, which are one point, given twice, or two joined by a run; r is that
-- reach
pub record Hub {K : Type 0} (k : Figures K) (state : ℕ → State K) (first last : ℕ) (r : K) : Type 0 where
  pub first_point : Point state first
  pub last_point : Point state last
  pub together : (first ≡ last) ⊎ ((first < last) × ((run : K) × Joined state last first run))
  pub first_reach : Reach k state first first r
  pub last_reach : Reach k state last last r
  pub least : (t : ℕ) (s : K) → Point state t → Reach k state t t s → AtMost k r s
  pub all : (t : ℕ) → Point state t → Reach k state t t r → (t ≡ first) ⊎ (t ≡ last)

-- the spine (the path center): the path of least reach r of which no smaller part, still a path, has this reach. Every other path
-- has at least its reach, and contains it where equal
pub record Spine {K : Type 0} (k : Figures K) (state : ℕ → State K) (first last : ℕ) (r : K) : Type 0 where
  pub first_point : Point state first
  pub last_point : Point state last
  pub ordered : first ≤ last
  pub reach : Reach k state first last r
  pub least : (a b : ℕ) (s : K) → Point state a → Point state b → Reach k state a b s → AtMost k r s
  pub smallest : (a b : ℕ) → Point state a → Point state b → Reach k state a b r → ((w : ℕ) → On k state a b w → On k state first last w)
      → (w : ℕ) → On k state first last w → On k state a b w
  pub contained : (a b : ℕ) → Point state a → Point state b → Reach k state a b r → (w : ℕ) → On k state first last w → On k state a b w

-- of two paths with the same sum, the one of length l from a to b comes before that of length m from c to d, or is it, by the ties:
-- the smaller length, then the smaller first tag, then the smaller last tag
pub data Before {K : Type 0} (k : Figures K) (l : K) (a b : ℕ) (m : K) (c d : ℕ) : Type 0 where
  by_length : Less k l m → Before k l a b m c d
  by_first : l ≡ m → a < c → Before k l a b m c d
  by_last : l ≡ m → a ≡ c → b ≤ d → Before k l a b m c d

-- the trunk for a limit (the l-core of a tree, where l is the limit): of the paths whose length is at most the limit, the one of
-- least sum, and by the ties the first of these; s is that sum
pub record Trunk {K : Type 0} (k : Figures K) (size : ℕ) (state : ℕ → State K) (limit : K) (first last : ℕ) (s : K) : Type 0 where
  pub first_point : Point state first
  pub last_point : Point state last
  pub ordered : first ≤ last
  pub length : K
  pub long : Distance k state first last length
  pub within : AtMost k length limit
  pub total : Total k state first last size s
  pub least : (a b : ℕ) (l t : K) → Point state a → Point state b → Distance k state a b l → AtMost k l limit → Total k state a b size t → AtMost k s t
  pub ties : (a b : ℕ) (l : K) → Point state a → Point state b → a ≤ b → Distance k state a b l → AtMost k l limit → Total k state a b size s
      → Before k length first last l a b
