-- What the search found, when all pairs of ends were looked at, is the spine or the trunk.
use Rattle.std.proofs.Common.{◌≡◌, ℕ, ◌+◌, ◌≤◌, Some, None, sym, refl, ◌∙◌, subst, inl, inr, arith}
use Rattle.std.proofs.lemmas.Bool.{cases_lt}
use Rattle.lengths.specs.Figures.{Figures, Laws, AtMost}
use Rattle.books.specs.declared.states.State.{State}
use Rattle.books.specs.States.{Lawful}
use Rattle.trees.proofs.Trees.{distance, Path_center}
use Rattle.trees.proofs.Distances.{distance_turn}
use Rattle.plans.specs.declared.searching.Found.{Found}
use Rattle.plans.specs.Ways.{Point}
use Rattle.plans.specs.Measures.{Reach, Total}
use Rattle.plans.specs.Plans.{Spine, Before, Trunk}
use Rattle.plans.specs.Drawn.{drop_at}
use Rattle.plans.specs.Searching.{Foremost}
use Rattle.plans.proofs.Loom.{tree_of, point_high}
use Rattle.plans.proofs.Greatest.{path_reach_turn}
use Rattle.plans.proofs.MeasuresAre.{distance_is, distance_from, reach_is, reach_from, all_is, all_from}
use Rattle.plans.proofs.PlansAre.{reach_of, sum_to, spine_from, trunk_from}
use Rattle.plans.proofs.Search.{before_length}

-- the ends of a path that was found are tags of the book
pub ends_low : {K : Type 0} {k : Figures K} {size : ℕ} {state : ℕ → State K} (lawful : Lawful k size state) (x : Found K) → Point state x.first → Point state x.last
    → (x.first ≤ 256) × (x.last ≤ 256)
ends_low lawful x p q =
    (omega (arith, point_high lawful x.first p, lawful.most), omega (arith, point_high lawful x.last q, lawful.most))

module _ {K : Type 0} {k : Figures K} (laws : Laws k) {size : ℕ} {state : ℕ → State K} (lawful : Lawful k size state) (x : Found K) where
  -- the path of least reach, and of least length among those of least reach, is the spine
  pub spine_of : Foremost k state (λ a b r. Reach k state a b r) None (size + 1) (size + 1) x → Spine k state x.first x.last x.weight
  spine_of was = subst (Spine k state u v) (sym weight) (spine_from laws lawful u v su sv was.fits.ordered center)
    where
      u : ℕ
      u = x.first

      v : ℕ
      v = x.last

      su : Point state u
      su = was.fits.first_point

      sv : Point state v
      sv = was.fits.last_point

      weight : x.weight ≡ reach_of lawful u v
      weight = reach_is laws lawful u v x.weight su sv was.fits.weighs

      long : x.length ≡ distance (tree_of lawful) u v
      long = distance_is laws lawful u v x.length was.fits.long

      ordered : (c d : ℕ) → Point state c → Point state d → c ≤ d → AtMost k (reach_of lawful u v) (reach_of lawful c d)
          × (reach_of lawful c d ≡ reach_of lawful u v → AtMost k (distance (tree_of lawful) u v) (distance (tree_of lawful) c d))
      ordered c d s t low =
          let (least, ties) = was.least c d (reach_of lawful c d) (distance (tree_of lawful) c d) (inl (point_high lawful c s)) s t low (reach_from laws lawful c d s t) (distance_from laws lawful c d s t) refl in
          (rw (← weight) least, λ e. rw (← long) (before_length laws (ties (e ∙ sym weight))))

      center : Path_center (tree_of lawful) (drop_at k state) u v
      center c d s t = elim (cases_lt d c) [
        | inl l ↦
            let (least, ties) = ordered d c t s (omega arith) in
            let same = path_reach_turn laws (tree_of lawful) (drop_at k state) c d s t in (
              subst (AtMost k (reach_of lawful u v)) (sym same) least,
              λ e. subst (AtMost k (distance (tree_of lawful) u v)) (sym (distance_turn laws (tree_of lawful) c d s t)) (ties (sym same ∙ e)),
            )
        | inr l ↦ ordered c d s t (omega arith)
      ]

  -- the path of least sum within the limit, and by the ties the first of these, is the trunk
  pub trunk_of : (limit : K) → Foremost k state (λ a b s. Total k state a b size s) (Some limit) (size + 1) (size + 1) x → Trunk k size state limit x.first x.last x.weight
  trunk_of limit was = subst (Trunk k size state limit u v) (sym weight) (trunk_from laws lawful limit u v su sv best was.fits.ordered (rw long at was.fits.within))
    where
      u : ℕ
      u = x.first

      v : ℕ
      v = x.last

      su : Point state u
      su = was.fits.first_point

      sv : Point state v
      sv = was.fits.last_point

      weight : x.weight ≡ sum_to lawful u v
      weight = all_is laws lawful u v su sv x.weight was.fits.weighs

      long : x.length ≡ distance (tree_of lawful) u v
      long = distance_is laws lawful u v x.length was.fits.long

      best : (a b : ℕ) → Point state a → Point state b → a ≤ b → AtMost k (distance (tree_of lawful) a b) limit → AtMost k (sum_to lawful u v) (sum_to lawful a b)
          × (sum_to lawful u v ≡ sum_to lawful a b → Before k (distance (tree_of lawful) u v) u v (distance (tree_of lawful) a b) a b)
      best a b s t low short =
          let (least, ties) = was.least a b (sum_to lawful a b) (distance (tree_of lawful) a b) (inl (point_high lawful a s)) s t low (all_from laws lawful a b s t) (distance_from laws lawful a b s t) short in
          (rw (← weight) least, λ e. rw (← long) (ties (sym e ∙ sym weight)))
