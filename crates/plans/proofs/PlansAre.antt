-- What the tree of a book must show of two points for them to be the hub, the spine or the trunk.
use Rattle.std.proofs.Common.{◌≡◌, ℕ, ◌<◌, ◌≤◌, ◌⊎◌, sym, refl, ◌∙◌, subst, inl, inr, arith}
use Rattle.std.proofs.lemmas.Bool.{cases_eq, cases_lt}
use Rattle.lengths.specs.Figures.{Figures, Laws, AtMost}
use Rattle.books.specs.declared.states.State.{State}
use Rattle.books.specs.States.{Lawful}
use Rattle.trees.proofs.Trees.{distance, reach, path_reach, Center, Path_center}
use Rattle.trees.proofs.Ways.{on_stands}
use Rattle.trees.proofs.Distances.{distance_turn}
use Rattle.trees.proofs.Centers.{centers}
use Rattle.trees.proofs.PathCenters.{path_centers}
use Rattle.trees.proofs.Adds.{sum_over, sum_over_same}
use Rattle.plans.specs.Ways.{Point, Joined as Linked, upward}
use Rattle.plans.specs.Measures.{On as Lies, Reach}
use Rattle.plans.specs.Plans.{Hub, Spine, Before, Trunk}
use Rattle.plans.proofs.Loom.{tree_of, drops, state_as, point_low}
use Rattle.plans.specs.Drawn.{drop_at}
use Rattle.plans.proofs.Greatest.{path_reach_one, nearest_turn}
use Rattle.plans.proofs.MeasuresAre.{distance_is, distance_from, on_is, on_from, reach_is, reach_from, to_path, all_is, all_from}

module _ {K : Type 0} {k : Figures K} {size : ℕ} {state : ℕ → State K} (lawful : Lawful k size state) where
  -- the reach of a point, as computed
  abbrev pub reach_at : ℕ → K
  reach_at t = reach (tree_of lawful) (drop_at k state) t

  -- the reach of a path, as computed
  abbrev pub reach_of : ℕ → ℕ → K
  reach_of a b = path_reach (tree_of lawful) (drop_at k state) a b

  -- the sum of the distances from all points to a path, as computed
  abbrev pub sum_to : ℕ → ℕ → K
  sum_to a b = sum_over (tree_of lawful) (to_path lawful a b)

module _ {K : Type 0} {k : Figures K} {size : ℕ} {state : ℕ → State K} (laws : Laws k) (lawful : Lawful k size state) where
  -- the computed reach of a point is its reach
  pub point_reach_from : (t : ℕ) → Point state t → Reach k state t t (reach_at lawful t)
  point_reach_from t s =
      rw (← path_reach_one laws (tree_of lawful) (drop_at k state) t s) (reach_from laws lawful t t s s)

  -- the reach of a point is the computed one
  pub point_reach_is : (t : ℕ) (r : K) → Point state t → Reach k state t t r → r ≡ reach_at lawful t
  point_reach_is t r s h = reach_is laws lawful t t r s s h ∙ path_reach_one laws (tree_of lawful) (drop_at k state) t s

  module _
      (u v : ℕ) (su : Point state u) (sv : Point state v)
      (least : (t : ℕ) → Point state t → AtMost k (reach_at lawful u) (reach_at lawful t)) (level : reach_at lawful v ≡ reach_at lawful u)
    where
      -- a point of the same reach as u is a center
      center_at : (t : ℕ) → Point state t → reach_at lawful t ≡ reach_at lawful u → Center (tree_of lawful) (drop_at k state) t
      center_at t s e = (s, λ x h. rw e (least x h))

      -- of two points of this reach the smaller is the parent of the greater
      parent_at :
          (s t : ℕ) → Point state s → Point state t → s < t →
          reach_at lawful s ≡ reach_at lawful u → reach_at lawful t ≡ reach_at lawful u → (tree_of lawful).parent t ≡ s
      parent_at s t hs ht l es et =
          centers laws (tree_of lawful) (drop_at k state) (drops lawful laws) s t l (center_at s hs es) (center_at t ht et)

      -- where u and v differ, a run joins v to u
      link : u < v → (run : K) × Linked state v u run
      link l =
          let up = parent_at u v su sv l refl level in (
            (tree_of lawful).run v,
            upward (λ e. omega (arith, point_low lawful u su))
                (state_as lawful v sv) (sym up) refl,
          )

      -- a point of this reach from u to v is one of them
      only : (t : ℕ) → Point state t → reach_at lawful t ≡ reach_at lawful u → u ≤ t → t ≤ v → (t ≡ u) ⊎ (t ≡ v)
      only t s e low high = elim (cases_eq t u) [
        | inl p ↦ inl p
        | inr n ↦ elim (cases_eq t v) [
          | inl p ↦ inr p
          | inr m ↦ inl (sym (parent_at t v s sv (omega arith) e level) ∙ parent_at u v su sv (omega arith) refl level)
        ]
      ]

      -- the smallest and the greatest point of least reach are the hub
      pub hub_from :
          u ≤ v → ((t : ℕ) → Point state t → reach_at lawful t ≡ reach_at lawful u → (u ≤ t) × (t ≤ v)) →
          Hub k state u v (reach_at lawful u)
      hub_from order within = record {
        first_point = su;
        last_point = sv;
        together = elim (cases_eq u v) [ inl p ↦ inl p | inr n ↦ inr (omega arith, link (omega arith)) ];
        first_reach = point_reach_from u su;
        last_reach = rw (← level) (point_reach_from v sv);
        least = λ t s h g. subst (AtMost k (reach_at lawful u)) (sym (point_reach_is t s h g)) (least t h);
        all = λ t h g.
            let e = sym (point_reach_is t (reach_at lawful u) h g) in
            let (low, high) = within t h e in
            only t h e low high;
      }

  -- a path of least reach, and of least length among those of least reach, is the spine
  pub spine_from :
      (u v : ℕ) → Point state u → Point state v → u ≤ v → Path_center (tree_of lawful) (drop_at k state) u v →
      Spine k state u v (reach_of lawful u v)
  spine_from u v su sv order center = record {
    first_point = su;
    last_point = sv;
    ordered = order;
    reach = reach_from laws lawful u v su sv;
    least = λ a b s sa sb h. subst (AtMost k (reach_of lawful u v)) (sym (reach_is laws lawful a b s sa sb h)) (center a b sa sb).0;
    smallest = λ a b sa sb h within w on. holds a b sa sb h w on;
    contained = holds;
  }
    where
      holds : (a b : ℕ) → Point state a → Point state b → Reach k state a b (reach_of lawful u v) → (w : ℕ) → Lies k state u v w → Lies k state a b w
      holds a b sa sb h w on =
          let e = sym (reach_is laws lawful a b (reach_of lawful u v) sa sb h) in
          let at = on_is lawful u v w on in
          on_from lawful a b w sa sb
          (path_centers laws (tree_of lawful) (drop_at k state) (drops lawful laws) u v su sv center a b sa sb e w
          (on_stands (tree_of lawful) w u v su sv at) at)

  -- the sum of the distances to a path is the same for its ends in the other order
  pub sum_turn : (a b : ℕ) → Point state a → Point state b → sum_to lawful a b ≡ sum_to lawful b a
  sum_turn a b s t =
      sum_over_same (tree_of lawful) (to_path lawful a b) (to_path lawful b a) (λ y u.
      nearest_turn laws (tree_of lawful) y a b u s t)

  module _
      (limit : K) (u v : ℕ) (su : Point state u) (sv : Point state v)
      (best :
      (a b : ℕ) → Point state a → Point state b → a ≤ b → AtMost k (distance (tree_of lawful) a b) limit →
      AtMost k (sum_to lawful u v) (sum_to lawful a b)
      × (sum_to lawful u v ≡ sum_to lawful a b → Before k (distance (tree_of lawful) u v) u v (distance (tree_of lawful) a b) a b))
    where
      -- the sum is the least for ends in either order
      best_turned :
          (a b : ℕ) → Point state a → Point state b → AtMost k (distance (tree_of lawful) a b) limit →
          AtMost k (sum_to lawful u v) (sum_to lawful a b)
      best_turned a b sa sb h = elim (cases_lt b a) [
        | inl l ↦
            subst (AtMost k (sum_to lawful u v)) (sum_turn b a sb sa)
            (best b a sb sa (omega arith) (rw (distance_turn laws (tree_of lawful) a b sa sb) at h)).0
        | inr l ↦ (best a b sa sb (omega arith) h).0
      ]

      -- of the paths whose length is at most the limit, one of least sum that comes before all others of this sum is the trunk
      pub trunk_from : u ≤ v → AtMost k (distance (tree_of lawful) u v) limit → Trunk k size state limit u v (sum_to lawful u v)
      trunk_from order short = record {
        first_point = su;
        last_point = sv;
        ordered = order;
        length = distance (tree_of lawful) u v;
        long = distance_from laws lawful u v su sv;
        within = short;
        total = all_from laws lawful u v su sv;
        least = λ a b l t sa sb far h g.
            subst (AtMost k (sum_to lawful u v)) (sym (all_is laws lawful a b sa sb t g))
            (best_turned a b sa sb (rw (distance_is laws lawful a b l far) at h));
        ties = λ a b l sa sb low far h g.
            let e = distance_is laws lawful a b l far in
            rw e
            ((best a b sa sb low (rw e at h)).1 (all_is laws lawful a b sa sb (sum_to lawful u v) g));
      }
