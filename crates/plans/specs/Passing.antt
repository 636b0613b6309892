-- What the passes over a tree are given: the tree as it was read, and the two ways up from the ends of a path. No promise to a user
-- stands here.
use Rattle.std.specs.Prelude.{◌≡◌, ℕ, ◌+◌, ◌-◌, ◌≤◌, Bool, true, false, cond, not, ◌&&◌, ◌||◌, List, ◌==◌, nat_lt, slice_index_or, slice_set}
use Rattle.lengths.specs.Figures.{Figures}
use Rattle.books.specs.declared.states.State.{State}
use Rattle.trees.proofs.Trees.{Tree, Stands, Joined, side, selected, nearest}
use Rattle.plans.specs.Drawn.{parent_of, run_of}
use Rattle.plans.specs.declared.sides.Sides.{Sides}
use Rattle.plans.specs.Ways.{Point}
use Rattle.plans.specs.Measures.{Nearest}

-- the tree T was read out as these states, and the two sides are the tags met on going up from a and from b
pub record Given {K : Type 0} {k : Figures K} (T : Tree k) (a b size : ℕ) (read : ℕ → State K) (sides : Sides) : Type 0 where
  pub high : T.high ≡ size + 1
  pub first_stands : Stands T a
  pub last_stands : Stands T b
  pub stands : (t : ℕ) → 2 ≤ t → t ≤ size → T.stands t ≡ not (parent_of (read t) == 0)
  pub parent : (t : ℕ) → Joined T t → T.parent t ≡ parent_of (read t)
  pub run : (t : ℕ) → Joined T t → T.run t ≡ run_of k (read t)
  pub first_met : (t : ℕ) → 1 ≤ t → t ≤ size → slice_index_or sides.first t false ≡ side T t a
  pub last_met : (t : ℕ) → 1 ≤ t → t ≤ size → slice_index_or sides.last t false ≡ side T t b

module _ {K : Type 0} {k : Figures K} (T : Tree k) (a b : ℕ) where
  -- at each tag that both a and b hang from, or are, the memory has how long their common way is from there on
  abbrev pub Common : ℕ → List K → Type 0
  Common size memory =
      (t : ℕ) → 1 ≤ t → t ≤ size → side T t a ≡ true → side T t b ≡ true → slice_index_or memory (t - 1) k.zero ≡ selected T (λ e. (side T e a && side T e b) && nat_lt t e)

  -- at each point the memory has its distance to the path with the ends a and b
  abbrev pub Near : List K → Type 0
  Near memory = (t : ℕ) → Stands T t → slice_index_or memory (t - 1) k.zero ≡ nearest T t a b

-- the memory after one tag of the pass from the root
abbrev pub up_to : {K : Type 0} → Figures K → List K → ℕ → Bool → Bool → ℕ → K → List K
up_to k memory parent first last tag run =
    cond (parent == 0) memory
    (cond (first && last) memory (cond (first || last) (slice_set memory (tag - 1) k.zero) (slice_set memory (tag - 1) (k.sum (slice_index_or memory (parent - 1) k.zero) run))))

-- at each point the memory has its distance to the path with the ends a and b: tag 1 has the first place
abbrev pub Distances : {K : Type 0} → Figures K → (ℕ → State K) → ℕ → ℕ → List K → Type 0
Distances k state a b memory = (t : ℕ) → Point state t → Nearest k state a b t (slice_index_or memory (t - 1) k.zero)

-- the larger of two figures
abbrev pub larger_of : {K : Type 0} → Figures K → K → K → K
larger_of k x y = cond (k.less x y) y x
