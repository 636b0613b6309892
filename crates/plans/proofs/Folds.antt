-- The greatest and the total of a figure of each point, one tag after another.
use Rattle.std.proofs.Common.{◌≡◌, ℕ, ◌+◌, ◌-◌, ◌<◌, ◌≤◌, cond, List, get_or, sym, refl, ap, ◌∙◌, subst, add-one, arith}
use Rattle.lengths.specs.Figures.{Figures, Laws}
use Rattle.books.specs.declared.states.State.{State}
use Rattle.books.specs.States.{stands, Lawful}
use Rattle.trees.proofs.Trees.{distance, nearest, greater, greatest, path_reach}
use Rattle.trees.proofs.Distances.{distance_turn}
use Rattle.trees.proofs.Adds.{sum_below, sum_over, sum_over_same}
use Rattle.plans.specs.Ways.{Point}
use Rattle.plans.specs.Measures.{Nearest, Reach, Total}
use Rattle.plans.specs.Drawn.{Reads, drop_of, drop_at}
use Rattle.plans.specs.Passing.{Distances, larger_of}
use Rattle.plans.proofs.Loom.{tree_of}
use Rattle.plans.proofs.Greatest.{greatest_same, nearest_one}
use Rattle.plans.proofs.MeasuresAre.{nearest_is, reach_from, all_from, to_path}

module _ {K : Type 0} (k : Figures K) (size : ℕ) (read : ℕ → State K) (memory : List K) where
  -- the figure that the memory has of each tag, alone and with the drop
  abbrev pub noted : ℕ → K
  noted t = get_or memory (t - 1) k.zero

  abbrev pub dropped : (ℕ → State K) → ℕ → K
  dropped state t = k.sum (drop_at k state t) (noted t)

  -- the total, and the greatest, of the points below n
  abbrev pub Totalled : K → ℕ → Type 0
  Totalled all n = (state : ℕ → State K) (r : Reads k size state read) → all ≡ sum_below (tree_of r.lawful) noted n

  abbrev pub Greatest_to : K → ℕ → Type 0
  Greatest_to most n = (state : ℕ → State K) (r : Reads k size state read) → most ≡ greatest (tree_of r.lawful) (dropped state) n

  -- at first there is none
  pub total_none : (all : K) → all ≡ k.zero → Totalled all 1
  unfolding sum_below
  total_none all e state r = rw (e, r.lawful.none)

  pub greatest_none : (most : K) → most ≡ k.zero → Greatest_to most 1
  unfolding greatest
  greatest_none most e state r = rw (e, r.lawful.none)

  module _ (n : ℕ) (low : 1 ≤ n) (high : n ≤ size) where
    -- one tag more, which counts where it stands
    pub total_more : (all next : K) → next ≡ cond (stands (read n)) (k.sum all (noted n)) all → Totalled all n → Totalled next (n + 1)
    unfolding sum_below
    total_more all next e was state r = rw (add-one n, e, r.shows n low (omega (arith, r.lawful.most)), was state r) refl

    pub greatest_more : (most next : K) → next ≡ cond (stands (read n)) (larger_of k most (k.sum (drop_of k (read n)) (noted n))) most → Greatest_to most n → Greatest_to next (n + 1)
    unfolding greatest greater
    greatest_more most next e was state r = rw (add-one n, e, r.shows n low (omega (arith, r.lawful.most)), was state r) refl

module _ {K : Type 0} {k : Figures K} (laws : Laws k) {size : ℕ} {read : ℕ → State K} (memory : List K) where
  -- past the size all points have been counted, each by its distance to a path
  pub total_end : (all : K) (n : ℕ) → size < n → n ≤ size + 1 → Totalled k size read memory all n → (state : ℕ → State K) (a b : ℕ) → Reads k size state read → Point state a → Point state b
      → Distances k state a b memory → Total k state a b size all
  unfolding sum_over
  total_end all n past last was state a b r s t far =
      let top : n ≡ size + 1 = omega arith in
      subst (Total k state a b size)
      (sym (was state r ∙ ap (sum_below (tree_of r.lawful) (noted k size read memory)) top ∙ sum_over_same (tree_of r.lawful) (noted k size read memory) (to_path r.lawful a b) (λ y u. nearest_is laws r.lawful a b y _ s t u (far y u))))
      (all_from laws r.lawful a b s t)

  pub greatest_end : (most : K) (n : ℕ) → size < n → n ≤ size + 1 → Greatest_to k size read memory most n → (state : ℕ → State K) (a b : ℕ) → Reads k size state read → Point state a → Point state b
      → Distances k state a b memory → Reach k state a b most
  unfolding path_reach
  greatest_end most n past last was state a b r s t far =
      let top : n ≡ size + 1 = omega arith in
      subst (Reach k state a b)
      (sym (was state r ∙ ap (greatest (tree_of r.lawful) (dropped k size read memory state)) top ∙ greatest_same laws (tree_of r.lawful) (dropped k size read memory state) (λ y. k.sum (drop_at k state y) (nearest (tree_of r.lawful) y a b))
      (λ y u. ap (k.sum (drop_at k state y)) (nearest_is laws r.lawful a b y _ s t u (far y u)))))
      (reach_from laws r.lawful a b s t)

-- the distance of a point to a path of one point is the distance of the two
pub far_from_one : {K : Type 0} {k : Figures K} (laws : Laws k) {size : ℕ} {state : ℕ → State K} (lawful : Lawful k size state)
    → (a b : ℕ) (d : K) → Point state a → Point state b → Nearest k state a a b d → d ≡ distance (tree_of lawful) a b
far_from_one laws lawful a b d s t h =
    nearest_is laws lawful a a b d s s t h
    ∙ nearest_one laws (tree_of lawful) b a t s
    ∙ distance_turn laws (tree_of lawful) b a t s
