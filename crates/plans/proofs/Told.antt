-- What else is so of the figures that are answered: they are sums of few entries, and are the same from either end.
use Rattle.std.proofs.Common.{◌≡◌, ℕ, true, List, Ok, Err, Result, IfOk, sym, refl, ◌∙◌, subst, arith}
use Rattle.lengths.specs.Figures.{Figures, Laws, Sum, one, both}
use Rattle.books.specs.declared.states.State.{State}
use Rattle.books.specs.Causes.{Table}
use Rattle.trees.proofs.Distances.{distance_few, distance_turn}
use Rattle.trees.proofs.Nearest.{nearest_few}
use Rattle.trees.proofs.Adds.{sum_over_few}
use Rattle.plans.specs.declared.denials.Denial.{Denial}
use Rattle.plans.specs.Ways.{Point, Way}
use Rattle.plans.specs.Measures.{Distance, Reach, Total}
use Rattle.plans.specs.Drawn.{drop_at}
use Rattle.plans.specs.Checks.{Answers, Ends}
use Rattle.plans.proofs.Loom.{tree_of, drops}
use Rattle.plans.proofs.WaysOnce.{way_once}
use Rattle.plans.proofs.Greatest.{path_reach_turn}
use Rattle.plans.proofs.MeasuresAre.{distance_is, distance_from, nearest_is, reach_is, reach_from, to_path, all_is, all_from}
use Rattle.plans.proofs.PlansAre.{sum_turn}

-- what follows from an answer, and from what is known of the ends of the path where there is an answer
pub told : {K : Type 0} (X : Type 0) (P Q : K → Type 0) (causes : Table Denial) (r : Result K Denial) → Answers causes P r → IfOk r (λ _. X)
    → ((x : K) → P x → X → Q x) → IfOk r Q
told X P Q causes (Ok x) (none, h) known f = f x h known
told X P Q causes (Err e) h known f = tt

module _ {K : Type 0} {k : Figures K} (laws : Laws k) {size : ℕ} {state : ℕ → State K} (a b : ℕ) where
  -- there is one way from a to b, and it has the length that was answered
  pub one_way : (d : K) → Distance k state a b d → Ends k size state a b
      → (ps : List ℕ) × (Way k state b a ps d × ((qs : List ℕ) (e : K) → Way k state b a qs e → (qs ≡ ps) × (e ≡ d)))
  one_way d (ps, w) ends = (ps, (w, λ qs e v. way_once ends.lawful v w))

  pub distance_bound : (d : K) → Distance k state a b d → Ends k size state a b → Sum k 255 d
  distance_bound d h ends =
      subst (Sum k 255) (sym (distance_is laws ends.lawful a b d h)) (distance_few laws (tree_of ends.lawful) a b ends.first ends.last)

  pub distance_turned : (d : K) → Distance k state a b d → Ends k size state a b → Distance k state b a d
  distance_turned d h ends =
      subst (Distance k state b a) (sym (distance_is laws ends.lawful a b d h ∙ distance_turn laws (tree_of ends.lawful) a b ends.first ends.last))
      (distance_from laws ends.lawful b a ends.last ends.first)

  pub reach_bound : (r : K) → Reach k state a b r → Ends k size state a b → Sum k 256 r
  reach_bound r h ends =
      let t = h.point in
      let s : Point state t = rw h.stands refl in
      let entry : k.entry h.spur.drop ≡ true = rw h.stands at (drops ends.lawful laws t s) in
      let far = subst (Sum k 255) (sym (nearest_is laws ends.lawful a b t h.distance ends.first ends.last s h.nearest)) (nearest_few laws (tree_of ends.lawful) t a b s ends.first ends.last) in
      subst (Sum k 256) (sym h.reached) (both {m = 1} {n = 255} (omega arith) (one (omega arith) entry) far)

  pub reach_turned : (r : K) → Reach k state a b r → Ends k size state a b → Reach k state b a r
  reach_turned r h ends =
      subst (Reach k state b a) (sym (reach_is laws ends.lawful a b r ends.first ends.last h ∙ path_reach_turn laws (tree_of ends.lawful) (drop_at k state) a b ends.first ends.last))
      (reach_from laws ends.lawful b a ends.last ends.first)

  pub total_bound : (s : K) → Total k state a b size s → Ends k size state a b → Sum k 65280 s
  total_bound s h ends =
      subst (Sum k 65280) (sym (all_is laws ends.lawful a b ends.first ends.last s h))
      (sum_over_few (tree_of ends.lawful) (to_path ends.lawful a b) (λ y u. nearest_few laws (tree_of ends.lawful) y a b u ends.first ends.last))

  pub total_turned : (s : K) → Total k state a b size s → Ends k size state a b → Total k state b a size s
  total_turned s h ends =
      subst (Total k state b a size) (sym (all_is laws ends.lawful a b ends.first ends.last s h ∙ sum_turn laws ends.lawful a b ends.first ends.last))
      (all_from laws ends.lawful b a ends.last ends.first)
