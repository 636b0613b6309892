-- The distance from a point to the nearest point of a way is the sum of the runs that part it from the whole way.
use Rattle.std.proofs.Common.{◌≡◌, ℕ, true, false, ◌&&◌, eqb, List, [], ◌∷◌, sym, refl, ◌∙◌, ⊎_elim}
use mathlib.Core.Bool.{beq}
use Rattle.std.proofs.lemmas.Bool.{both_ways, eqb-true, or_cases, or_left, or_right, cond_both, eq-eqb}
use Rattle.lengths.specs.Figures.{Figures, Laws, Sum, AtMost}
use Rattle.lengths.specs.Order.{irrefl, asym, same, le_trans}
use Rattle.trees.proofs.Trees.{Tree, Stands, Joined, side, parted, off, Median, selected, distance, way, member, On, differ, majority, lesser, least, nearest}
use Rattle.trees.proofs.TwoSides.{two_of_three, off_median, off_parts, differ_of}
use Rattle.trees.proofs.Selected.{same_selected, more_selected, selected_few}
use Rattle.trees.proofs.Medians.{medians}
use Rattle.trees.proofs.Distances.{distance_by_cuts}
use Rattle.trees.proofs.Ways.{way_by_cuts, on_stands, on_left}

module _ {F : Type 0} {k : Figures F} (laws : Laws k) where
  -- the lesser of two is at most the first
  lesser_left : (x y : F) → AtMost k (lesser k x y) x
  unfolding lesser
  lesser_left x y = cond_both (k.less y x) y x (λ z. AtMost k z x) (λ t. asym laws t) (λ f. irrefl laws x)

  -- and at most the second
  lesser_right : (x y : F) → AtMost k (lesser k x y) y
  unfolding lesser
  lesser_right x y = cond_both (k.less y x) y x (λ z. AtMost k z y) (λ t. irrefl laws y) (λ f. f)

  -- what is at most both is at most the lesser
  lesser_from : (v x y : F) → AtMost k v x → AtMost k v y → AtMost k v (lesser k x y)
  unfolding lesser
  lesser_from v x y h g = cond_both (k.less y x) y x (AtMost k v) (λ t. g) (λ f. h)

  module _ (f : ℕ → F) where
    -- what is at most each is at most the least
    least_from :
        (v m : F) (ws : List ℕ) → AtMost k v m → ((w : ℕ) → member w ws ≡ true → AtMost k v (f w)) → AtMost k v (least k f m ws)
    unfolding least member
    least_from v m [] h g = h
    least_from v m (w ∷ ws) h g =
        least_from v (lesser k m (f w)) ws (lesser_from v m (f w) h (g w (or_left (eqb w w) (member w ws) (eq-eqb w w refl))))
        (λ u t. g u (or_right (eqb u w) (member u ws) t))

    -- the least is at most the figure that it starts from
    least_start : (m : F) (ws : List ℕ) → AtMost k (least k f m ws) m
    unfolding least
    least_start m [] = irrefl laws m
    least_start m (w ∷ ws) = le_trans laws (least_start (lesser k m (f w)) ws) (lesser_left m (f w))

    -- the least is at most each
    least_at : (m : F) (ws : List ℕ) (w : ℕ) → member w ws ≡ true → AtMost k (least k f m ws) (f w)
    unfolding least member
    least_at m [] w h = absurd (both_ways false refl h)
    least_at m (v ∷ ws) w h =
        let left = lesser k m (f v) in
        let rest : member w ws ≡ true → AtMost k (least k f left ws) (f w) = λ t. least_at left ws w t in
        let here : eqb w v ≡ true → AtMost k (least k f left ws) (f w) =
        λ t. rw (eqb-true w v t) (le_trans laws (least_start left ws) (lesser_right m (f v))) in
        ⊎_elim here rest (or_cases (eqb w v) (member w ws) h)

module _ {F : Type 0} {k : Figures F} (laws : Laws k) (T : Tree k) where
  module _ (x a b m : ℕ) (u : Stands T x) (s : Stands T a) (t : Stands T b) (v : Stands T m) (sides : Median T m a b x) where
    -- a median of a, b and x is on the way between a and b
    median_on : On T m a b
    median_on = (way_by_cuts T m a b v s t).1 (λ e d same. sides e d ∙ two_of_three (side T e a) (side T e b) (side T e x) same)

    -- x is parted from it by what parts x from the whole way
    median_at : distance T x m ≡ selected T (off T x a b)
    median_at =
        distance_by_cuts laws T x m u v
        ∙ same_selected laws T (parted T x m) (off T x a b) (λ e d. rw (sides e d) (off_median (side T e a) (side T e b) (side T e x)))

  -- every point of the way is as far at least
  as_far : (x a b w : ℕ) → Stands T x → Stands T a → Stands T b → On T w a b → AtMost k (selected T (off T x a b)) (distance T x w)
  as_far x a b w u s t h =
      let r = on_stands T w a b s t h in
      let B = (way_by_cuts T w a b r s t).0 h in
      rw (distance_by_cuts laws T x w u r)
      (more_selected laws T (off T x a b) (parted T x w) (λ e d g.
      let p = off_parts (side T e a) (side T e b) (side T e x) g in
      differ_of (side T e x) (side T e w) (λ q. p.1 (q ∙ B e d p.0))))

  -- the distance to the nearest point of a way is the sum of the runs that have its ends on one side and the point on the other
  pub nearest_by_cuts :
      (x a b : ℕ) → Stands T x → Stands T a → Stands T b →
      nearest T x a b ≡ selected T (λ e. beq (side T e a) (side T e b) && differ (side T e x) (side T e a))
  unfolding nearest
  nearest_by_cuts x a b u s t =
      let (m, v, sides) = medians T a b x s t u in
      let far = λ (w : ℕ) (h : On T w a b). as_far x a b w u s t h in
      same laws
      (least_from laws (distance T x) (selected T (off T x a b)) (distance T x a) (way T a b) (far a (on_left T a b s t)) far)
      (rw (median_at x a b m u s t v sides) at (least_at laws (distance T x) (distance T x a) (way T a b) m (median_on x a b m u s t v sides)))

  -- a median of a point and the ends of a way is on the way, and the nearest point of it
  pub nearest_at_median :
      (x a b m : ℕ) → Stands T x → Stands T a → Stands T b → Stands T m →
      ((e : ℕ) → Joined T e → side T e m ≡ majority (side T e a) (side T e b) (side T e x)) →
      On T m a b × (distance T x m ≡ nearest T x a b)
  nearest_at_median x a b m u s t v sides =
      (median_on x a b m u s t v sides, median_at x a b m u s t v sides ∙ sym (nearest_by_cuts x a b u s t))

  -- the distance to the nearest point of a way is a sum of at most 255 entries
  pub nearest_few : (x a b : ℕ) → Stands T x → Stands T a → Stands T b → Sum k 255 (nearest T x a b)
  nearest_few x a b u s t = rw (nearest_by_cuts x a b u s t) (selected_few T (off T x a b))

  -- no point of the way is nearer
  pub nearest_least : (x a b w : ℕ) → Stands T x → Stands T a → Stands T b → On T w a b → AtMost k (nearest T x a b) (distance T x w)
  nearest_least x a b w u s t h = rw (nearest_by_cuts x a b u s t) (as_far x a b w u s t h)
