-- What the searches for a plan have found so far. No promise to a user stands here.
use Rattle.std.specs.Prelude.{◌≡◌, ℕ, ◌-◌, ◌<◌, ◌≤◌, ◌⊎◌, Bool, false, not, ◌&&◌, ◌||◌, Option, Some, None}
use Rattle.lengths.specs.Figures.{Figures, AtMost}
use Rattle.books.specs.declared.states.State.{State}
use Rattle.cells.specs.Columns.{held}
use Rattle.plans.specs.declared.searching.Found.{Found}
use Rattle.plans.specs.declared.searching.Start.{Start}
use Rattle.plans.specs.declared.answers.Plan.{Plan}
use Rattle.plans.specs.Ways.{Point}
use Rattle.plans.specs.Measures.{Distance, Reach}
use Rattle.plans.specs.Plans.{Before}

-- a length is more than a limit, where there is one; it is within the limit
abbrev pub exceeds : {K : Type 0} → Figures K → Option K → K → Bool
exceeds k None l = false
exceeds k (Some limit) l = k.less limit l

abbrev pub Within : {K : Type 0} → Figures K → Option K → K → Type 0
Within k limit l = exceeds k limit l ≡ false

-- the path x is better than the path y: it weighs less, or as much and is shorter
abbrev pub beats : {K : Type 0} → Figures K → Found K → Found K → Bool
beats k x y = k.less x.weight y.weight || (not (k.less y.weight x.weight) && k.less x.length y.length)

-- the column of a start has the distance of each point from it
abbrev pub Far : {K : Type 0} → Figures K → (ℕ → State K) → Start K → Type 0
Far k state start = (t : ℕ) → Point state t → Distance k state start.tag t (held start.far (t - 1))

-- the pair of a and b comes before that of c and d, in the order in which pairs are looked at
abbrev pub Earlier : ℕ → ℕ → ℕ → ℕ → Type 0
Earlier c d a b = (a < c) ⊎ ((a ≡ c) × (b < d))

module _ {K : Type 0} (k : Figures K) (state : ℕ → State K) (W : ℕ → ℕ → K → Type 0) (limit : Option K) where
  -- a path that may be the one: its ends, what it weighs, and its length, which is within the limit
  pub record Fits (x : Found K) : Type 0 where
    pub first_point : Point state x.first
    pub last_point : Point state x.last
    pub ordered : x.first ≤ x.last
    pub weighs : W x.first x.last x.weight
    pub long : Distance k state x.first x.last x.length
    pub within : Within k limit x.length

  -- of the paths before that of c and d whose length is within the limit it is the one of least weight, and by the ties the first
  -- of these; it does not come after c and d itself
  pub record Foremost (c d : ℕ) (x : Found K) : Type 0 where
    pub fits : Fits x
    pub placed : (x.first < c) ⊎ ((x.first ≡ c) × (x.last ≤ d))
    pub least : (a b : ℕ) (w l : K) → Earlier c d a b → Point state a → Point state b → a ≤ b → W a b w → Distance k state a b l → Within k limit l
        → AtMost k x.weight w × (w ≡ x.weight → Before k x.length x.first x.last l a b)

-- of the points below n these are the first and the last of least reach
pub record Central {K : Type 0} (k : Figures K) (state : ℕ → State K) (n : ℕ) (x : Plan K) : Type 0 where
  pub first_point : Point state x.first
  pub last_point : Point state x.last
  pub ordered : x.first ≤ x.last
  pub below : x.last < n
  pub first_reach : Reach k state x.first x.first x.figure
  pub last_reach : Reach k state x.last x.last x.figure
  pub least : (t : ℕ) (r : K) → t < n → Point state t → Reach k state t t r → AtMost k x.figure r × (r ≡ x.figure → (x.first ≤ t) × (t ≤ x.last))
