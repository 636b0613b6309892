-- Trees of tags: the root is 1, and every other standing tag has a smaller standing parent, and a run that joins it to this parent.
use Rattle.std.proofs.Common.{◌≡◌, ℕ, zero, suc, ◌+◌, ◌<◌, ◌≤◌, min, max, Bool, true, false, cond, not, ◌&&◌, ◌||◌, eqb, ltb, List, [], ◌∷◌}
use mathlib.Core.Bool.{beq}
use Rattle.lengths.specs.Figures.{Figures, Less, AtMost}

-- a tree whose runs are figures of the kind k: every tag that stands is below `high`, and tags go up to 256
pub record Tree {F : Type 0} (k : Figures F) : Type 0 where
  pub high : ℕ
  pub few : high ≤ 257
  pub stands : ℕ → Bool
  pub parent : ℕ → ℕ
  pub run : ℕ → F
  pub root : stands 1 ≡ true
  pub from_one : (t : ℕ) → stands t ≡ true → 1 ≤ t
  pub to_high : (t : ℕ) → stands t ≡ true → t < high
  pub up_stands : (t : ℕ) → stands t ≡ true → 1 < t → stands (parent t) ≡ true
  pub up_lower : (t : ℕ) → stands t ≡ true → 1 < t → parent t < t
  pub run_entry : (t : ℕ) → stands t ≡ true → 1 < t → k.entry (run t) ≡ true
  pub run_some : (t : ℕ) → stands t ≡ true → 1 < t → Less k k.zero (run t)

-- x is e, or hangs from e; `fuel` is how far up to look
unfoldable pub side_by : (ℕ → ℕ) → ℕ → ℕ → ℕ → Bool
side_by parent zero e x = false
side_by parent (suc fuel) e x = eqb e x || (ltb e x && side_by parent fuel e (parent x))

-- the two sides are not the same
abbrev pub differ : Bool → Bool → Bool
differ s t = not (beq s t)

-- the side that two of three or all of them are on
abbrev pub majority : Bool → Bool → Bool → Bool
majority true s t = s || t
majority false s t = s && t

-- w is one of the points of a list
unfoldable pub member : ℕ → List ℕ → Bool
member w [] = false
member w (v ∷ vs) = eqb w v || member w vs

module _ {F : Type 0} (k : Figures F) where
  -- the larger of two figures
  unfoldable pub greater : F → F → F
  greater x y = cond (k.less x y) y x

  -- the lesser of two figures
  unfoldable pub lesser : F → F → F
  lesser x y = cond (k.less y x) y x

  -- the least of m and the figures f w of the points w of a list
  unfoldable pub least : (ℕ → F) → F → List ℕ → F
  least f m [] = m
  least f m (w ∷ ws) = least f (lesser m (f w)) ws

module _ {F : Type 0} {k : Figures F} where
  -- t is a point of the tree
  abbrev pub Stands : Tree k → ℕ → Type 0
  Stands T t = T.stands t ≡ true

  -- e is a point other than the root, so that a run joins it to its parent; this run is called the run e
  unfoldable pub joined : Tree k → ℕ → Bool
  joined T e = ltb 1 e && T.stands e

  -- the same, as a statement
  abbrev pub Joined : Tree k → ℕ → Type 0
  Joined T e = joined T e ≡ true

  -- the side of the run e that x is on: the outer side, where x is e or hangs from e, or the other
  unfoldable pub side : Tree k → ℕ → ℕ → Bool
  side T e x = side_by T.parent x e x

  -- the run e has a on one side and b on the other
  abbrev pub parted : Tree k → ℕ → ℕ → ℕ → Bool
  parted T a b e = differ (side T e a) (side T e b)

  -- the run e has a and b on one side and x on the other
  abbrev pub off : Tree k → ℕ → ℕ → ℕ → ℕ → Bool
  off T x a b e = beq (side T e a) (side T e b) && differ (side T e x) (side T e a)

  -- m is a median of a, b and x: at each run it is on the side that two of the three or all of them are on
  abbrev pub Median : Tree k → ℕ → ℕ → ℕ → ℕ → Type 0
  Median T m a b x = (e : ℕ) → Joined T e → side T e m ≡ majority (side T e a) (side T e b) (side T e x)

  -- the sum of the runs below n that φ selects, from the smallest tag on
  unfoldable pub selected_below : Tree k → (ℕ → Bool) → ℕ → F
  selected_below T φ zero = k.zero
  selected_below T φ (suc n) = k.sum (selected_below T φ n) (cond (joined T n && φ n) (T.run n) k.zero)

  -- the sum of all runs that φ selects
  unfoldable pub selected : Tree k → (ℕ → Bool) → F
  selected T φ = selected_below T φ T.high

  -- the sum of the runs that are passed on climbing from the greater of two tags, again and again, until they meet
  unfoldable pub climbed : Tree k → ℕ → ℕ → ℕ → F
  climbed T zero a b = k.zero
  climbed T (suc fuel) a b = cond (eqb a b) k.zero (k.sum (T.run (max a b)) (climbed T fuel (min a b) (T.parent (max a b))))

  -- the distance of two points: the sum of the runs on the way between them
  unfoldable pub distance : Tree k → ℕ → ℕ → F
  distance T a b = climbed T (a + b) a b

  -- the points that are met on this climb
  unfoldable pub passed : Tree k → ℕ → ℕ → ℕ → List ℕ
  passed T zero a b = []
  passed T (suc fuel) a b = max a b ∷ cond (eqb a b) [] (passed T fuel (min a b) (T.parent (max a b)))

  -- the points of the way between a and b
  unfoldable pub way : Tree k → ℕ → ℕ → List ℕ
  way T a b = passed T (a + b) a b

  -- w is on the way between a and b
  abbrev pub On : Tree k → ℕ → ℕ → ℕ → Type 0
  On T w a b = member w (way T a b) ≡ true

  -- no run has a and b on one side and w on the other
  abbrev pub Between : Tree k → ℕ → ℕ → ℕ → Type 0
  Between T w a b = (e : ℕ) → Joined T e → side T e a ≡ side T e b → side T e w ≡ side T e a

  -- the least distance from x to a point of the way between a and b
  unfoldable pub nearest : Tree k → ℕ → ℕ → ℕ → F
  nearest T x a b = least k (distance T x) (distance T x a) (way T a b)

  -- the greatest of the figures f y of the points y below n
  unfoldable pub greatest : Tree k → (ℕ → F) → ℕ → F
  greatest T f zero = k.zero
  greatest T f (suc n) = cond (T.stands n) (greater k (greatest T f n) (f n)) (greatest T f n)

  -- the reach of a point: the greatest, over all points, of drop plus distance
  unfoldable pub reach : Tree k → (ℕ → F) → ℕ → F
  reach T drop x = greatest T (λ y. k.sum (drop y) (distance T y x)) T.high

  -- the reach of the path with the ends a and b: the greatest, over all points, of drop plus distance to the nearest point of the path
  unfoldable pub path_reach : Tree k → (ℕ → F) → ℕ → ℕ → F
  path_reach T drop a b = greatest T (λ y. k.sum (drop y) (nearest T y a b)) T.high

  -- the drop of every point is an entry
  abbrev pub Drops : Tree k → (ℕ → F) → Type 0
  Drops T drop = (y : ℕ) → Stands T y → k.entry (drop y) ≡ true

  -- u is a center: no point has a smaller reach
  abbrev pub Center : Tree k → (ℕ → F) → ℕ → Type 0
  Center T drop u = Stands T u × ((x : ℕ) → Stands T x → AtMost k (reach T drop u) (reach T drop x))

  -- the path with the ends a and b is a path center: no path has a smaller reach, and none of the same reach is shorter
  abbrev pub Path_center : Tree k → (ℕ → F) → ℕ → ℕ → Type 0
  Path_center T drop a b =
      (c d : ℕ) → Stands T c → Stands T d →
      AtMost k (path_reach T drop a b) (path_reach T drop c d)
      × (path_reach T drop c d ≡ path_reach T drop a b → AtMost k (distance T a b) (distance T c d))
