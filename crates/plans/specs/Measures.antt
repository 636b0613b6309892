-- Measures of paths. A path is the points on the way between two points, its ends; one point alone is a path.
use Rattle.std.specs.Prelude.{◌≡◌, ℕ, zero, suc, List}
use Rattle.lengths.specs.Figures.{Figures, AtMost}
use Rattle.books.specs.declared.states.Spur.{Spur}
use Rattle.books.specs.declared.states.State.{State}
use Rattle.books.specs.declared.states.State.TheVariants.{Standing}
use Rattle.books.specs.Edits.{Among}
use Rattle.plans.specs.Ways.{Point, Way}

-- w is a point of the path with the ends a and b
abbrev pub On : {K : Type 0} → Figures K → (ℕ → State K) → ℕ → ℕ → ℕ → Type 0
On {K} k state a b w = (ps : List ℕ) × ((l : K) × (Way k state b a ps l × Among w ps))

-- d is the distance of two points: the sum of the runs on the way between them. It is the length of the path between them too
abbrev pub Distance : {K : Type 0} → Figures K → (ℕ → State K) → ℕ → ℕ → K → Type 0
Distance k state a b d = (ps : List ℕ) × Way k state b a ps d

-- d is the distance from the point p to the path with the ends a and b: to a nearest point of it
pub record Nearest {K : Type 0} (k : Figures K) (state : ℕ → State K) (a b p : ℕ) (d : K) : Type 0 where
  pub point : ℕ
  pub on : On k state a b point
  pub far : Distance k state p point d
  pub least : (w : ℕ) (e : K) → On k state a b w → Distance k state p w e → AtMost k d e

-- r is the reach of the path (its weighted eccentricity): the greatest, over all points, of drop plus distance to the path. A
-- point's own drop counts with it, and the drops of points on the way to it do not
pub record Reach {K : Type 0} (k : Figures K) (state : ℕ → State K) (a b : ℕ) (r : K) : Type 0 where
  pub most : (p : ℕ) (s : Spur K) (d : K) → state p ≡ Standing s → Nearest k state a b p d → AtMost k (k.sum s.drop d) r
  pub point : ℕ
  pub spur : Spur K
  pub distance : K
  pub stands : state point ≡ Standing spur
  pub nearest : Nearest k state a b point distance
  pub reached : r ≡ k.sum spur.drop distance

-- `Total k state a b n s`: s is the total, over the points with tags from 1 to n, of the distance to the path with the ends a and
-- b; each point counts once, and drops do not count
pub data Total {K : Type 0} (k : Figures K) (state : ℕ → State K) (a b : ℕ) : ℕ → K → Type 0 where
  none : Total k state a b zero k.zero
  point : {n : ℕ} {s d : K} → Point state (suc n) → Nearest k state a b (suc n) d → Total k state a b n s → Total k state a b (suc n) (k.sum s d)
  other : {n : ℕ} {s : K} → (Point state (suc n) → ⊥) → Total k state a b n s → Total k state a b (suc n) s
