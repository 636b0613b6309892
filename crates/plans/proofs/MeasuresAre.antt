-- The measures of a path, said in words, are the ones that the tree of a book computes.
use Rattle.std.proofs.Common.{◌≡◌, ℕ, zero, suc, true, sym, ap, ◌∙◌, subst, ap₂, add-one}
use Rattle.std.proofs.lemmas.Bool.{cond_both, both_ways, false_from_ne_true}
use Rattle.lengths.specs.Figures.{Figures, Laws, AtMost}
use Rattle.lengths.specs.Order.{same}
use Rattle.books.specs.declared.states.State.{State}
use Rattle.books.specs.States.{stands, Lawful}
use Rattle.trees.proofs.Trees.{On, distance, nearest, path_reach}
use Rattle.trees.proofs.Medians.{medians}
use Rattle.trees.proofs.Nearest.{nearest_at_median, nearest_least}
use Rattle.trees.proofs.Reaches.{greatest_from}
use Rattle.trees.proofs.Adds.{sum_below, sum_over}
use Rattle.plans.specs.Ways.{Point}
use Rattle.plans.specs.Measures.{On as Lies, Distance, Nearest, Reach, Total, none, point, other}
use Rattle.plans.proofs.Loom.{spur_in, tree_of, state_as}
use Rattle.plans.specs.Drawn.{drop_of, drop_at}
use Rattle.plans.proofs.WaysThere.{way_there, way_length, among_on, on_among}
use Rattle.plans.proofs.Greatest.{attained}

module _ {K : Type 0} {k : Figures K} {size : ℕ} {state : ℕ → State K} (lawful : Lawful k size state) where
  -- a point of a path is on the computed way
  pub on_is : (a b w : ℕ) → Lies k state a b w → On (tree_of lawful) w a b
  on_is a b w (ps, (l, (v, m))) = among_on lawful v m

  -- what is on the computed way is a point of the path
  pub on_from : (a b w : ℕ) → Point state a → Point state b → On (tree_of lawful) w a b → Lies k state a b w
  on_from a b w s t h =
      let (ps, (l, v)) = way_there lawful a b s t in
      (ps, (l, (v, on_among lawful w v h)))

  -- the distance from each point to the path with the ends a and b, as computed
  abbrev pub to_path : ℕ → ℕ → ℕ → K
  to_path a b p = nearest (tree_of lawful) p a b

  -- the drop of a point and its distance to the path with the ends a and b, as computed
  abbrev drop_to : ℕ → ℕ → ℕ → K
  drop_to a b p = k.sum (drop_at k state p) (nearest (tree_of lawful) p a b)

module _ {K : Type 0} {k : Figures K} {size : ℕ} {state : ℕ → State K} (laws : Laws k) (lawful : Lawful k size state) where
  -- a distance is the computed one
  pub distance_is : (a b : ℕ) (d : K) → Distance k state a b d → d ≡ distance (tree_of lawful) a b
  distance_is a b d (ps, w) = way_length lawful laws w

  -- the computed distance is the distance
  pub distance_from : (a b : ℕ) → Point state a → Point state b → Distance k state a b (distance (tree_of lawful) a b)
  distance_from a b s t =
      let (ps, (l, w)) = way_there lawful a b s t in
      rw (← way_length lawful laws w) (ps, w)

  -- the computed distance to a path is the distance to a nearest point of it
  pub nearest_from :
      (a b p : ℕ) → Point state a → Point state b → Point state p → Nearest k state a b p (nearest (tree_of lawful) p a b)
  nearest_from a b p s t u =
      let (m, v, sides) = medians (tree_of lawful) a b p s t u in
      let (on, far) = nearest_at_median laws (tree_of lawful) p a b m u s t v sides in
      record {
        point = m;
        on = on_from lawful a b m s t on;
        far = rw (← far) (distance_from p m u v);
        least = λ w e h d.
            subst (AtMost k (nearest (tree_of lawful) p a b)) (sym (distance_is p w e d))
            (nearest_least laws (tree_of lawful) p a b w u s t (on_is lawful a b w h));
      }

  -- two figures that are the distance to a path are the same
  nearest_once : (a b p : ℕ) (d e : K) → Nearest k state a b p d → Nearest k state a b p e → d ≡ e
  nearest_once a b p d e n o =
      same laws (o.least n.point d n.on n.far) (n.least o.point e o.on o.far)

  -- the distance to a path is the computed one
  pub nearest_is :
      (a b p : ℕ) (d : K) → Point state a → Point state b → Point state p → Nearest k state a b p d → d ≡ nearest (tree_of lawful) p a b
  nearest_is a b p d s t u n = nearest_once a b p d (nearest (tree_of lawful) p a b) n (nearest_from a b p s t u)

  -- the drop of a point and its distance to a path are at most the computed reach of the path
  in_reach : (a b p : ℕ) → Point state p → AtMost k (drop_to lawful a b p) (path_reach (tree_of lawful) (drop_at k state) a b)
  unfolding path_reach
  in_reach a b p u = greatest_from laws (tree_of lawful) (drop_to lawful a b) p u (tree_of lawful).high ((tree_of lawful).to_high p u)

  -- the computed reach is the reach
  pub reach_from :
      (a b : ℕ) → Point state a → Point state b → Reach k state a b (path_reach (tree_of lawful) (drop_at k state) a b)
  unfolding path_reach
  reach_from a b s t =
      let (y, u, top) = attained laws (tree_of lawful) (drop_to lawful a b) in
      record {
        most = λ p spur d e n.
            let v : stands (state p) ≡ true = ap stands e in
            rw (nearest_is a b p d s t v n, ← ap (drop_of k) e) (in_reach a b p v);
        point = y;
        spur = spur_in k (state y);
        distance = nearest (tree_of lawful) y a b;
        stands = state_as lawful y u;
        nearest = nearest_from a b y s t u;
        reached = top;
      }

  -- the reach is the computed one
  pub reach_is :
      (a b : ℕ) (r : K) → Point state a → Point state b → Reach k state a b r → r ≡ path_reach (tree_of lawful) (drop_at k state) a b
  reach_is a b r s t h =
      let o = reach_from a b s t in
      same laws
      (rw o.reached
      (h.most o.point o.spur o.distance o.stands o.nearest))
      (rw h.reached
      (o.most h.point h.spur h.distance h.stands h.nearest))

  module _ (a b : ℕ) (s : Point state a) (t : Point state b) where
    -- the total over the points with tags up to n is the computed sum
    pub total_is : {n : ℕ} {x : K} → Total k state a b n x → x ≡ sum_below (tree_of lawful) (to_path lawful a b) (suc n)
    unfolding sum_below
    total_is none = rw lawful.none
    total_is (point {n = n} {d = d} u near rest) = rw u (ap₂ k.sum (total_is rest) (nearest_is a b (suc n) d s t u near))
    total_is (other {n = n} off rest) = rw (false_from_ne_true (stands (state (suc n))) off) (total_is rest)

    -- the computed sum is the total over the points with tags up to n
    pub total_from : (n : ℕ) → Total k state a b n (sum_below (tree_of lawful) (to_path lawful a b) (suc n))
    unfolding sum_below
    total_from zero = rw lawful.none none
    total_from (suc n) =
        let old = sum_below (tree_of lawful) (to_path lawful a b) (suc n) in
        cond_both (stands (state (suc n))) (k.sum old (to_path lawful a b (suc n))) old (λ (x : K). Total k state a b (suc n) x)
        (λ u. point u (nearest_from a b (suc n) s t u) (total_from n))
        (λ f. other (λ u. both_ways (stands (state (suc n))) f u) (total_from n))

    -- the total over all points is the computed sum over all points
    pub all_is : (x : K) → Total k state a b size x → x ≡ sum_over (tree_of lawful) (to_path lawful a b)
    unfolding sum_over
    all_is x h = total_is h ∙ ap (sum_below (tree_of lawful) (to_path lawful a b)) (sym (add-one size))

    -- the computed sum over all points is the total over all points
    pub all_from : Total k state a b size (sum_over (tree_of lawful) (to_path lawful a b))
    unfolding sum_over
    all_from =
        subst (λ (n : ℕ). Total k state a b size (sum_below (tree_of lawful) (to_path lawful a b) n)) (sym (add-one size)) (total_from size)
