-- The tree of the standing tags of a book.
use Rattle.std.proofs.Common.{◌≡◌, ℕ, ◌+◌, ◌<◌, ◌≤◌, true, refl, ap, inl, inr, arith}
use Rattle.std.proofs.lemmas.Bool.{both_ways, cases_eq, cases_lt}
use Rattle.lengths.specs.Figures.{Figures, Laws}
use Rattle.books.specs.declared.states.Spur.{Spur}
use Rattle.books.specs.declared.states.State.{State}
use Rattle.books.specs.declared.states.State.TheVariants.{Blank, Struck, Standing}
use Rattle.books.specs.States.{stands, Lawful, Tied}
use Rattle.trees.proofs.Trees.{Tree, Drops}
use Rattle.plans.specs.Ways.{Point}
use Rattle.plans.specs.Drawn.{parent_of, run_of, drop_of, drop_at}

module _ {K : Type 0} where
  -- the spur that a state gives: its parent, run and drop
  abbrev pub spur_in : Figures K → State K → Spur K
  spur_in k s = record { parent = parent_of s; run = run_of k s; drop = drop_of k s }

  -- a state that stands is what its parent, run and drop say
  pub as_standing : (k : Figures K) (s : State K) → stands s ≡ true → s ≡ Standing (spur_in k s)
  as_standing k Blank h = cc
  as_standing k Struck h = cc
  as_standing k (Standing s) h = refl

module _ {K : Type 0} {k : Figures K} {size : ℕ} {state : ℕ → State K} (lawful : Lawful k size state) where
  -- a point other than the root is tied to its parent
  pub tied_as : (t : ℕ) → Point state t → (t ≡ 1 → ⊥) → Tied k state t (spur_in k (state t))
  tied_as t s n =
      lawful.tied t (spur_in k (state t)) n (as_standing k (state t) s)

  -- the tag of a point is at least 1
  pub point_low : (t : ℕ) → Point state t → 1 ≤ t
  point_low t s = elim (cases_eq t 0) [
    | inl e ↦ absurd (both_ways (stands (state t)) (rw (e, lawful.none)) s)
    | inr n ↦ omega arith
  ]

  -- and at most the size
  pub point_high : (t : ℕ) → Point state t → t < size + 1
  point_high t s = elim (cases_lt size t) [
    | inl l ↦ absurd (both_ways (stands (state t)) (ap stands (lawful.beyond t l)) s)
    | inr l ↦ omega arith
  ]

  -- the points, with the parents and runs that the states give, are a tree
  abbrev pub tree_of : Tree k
  tree_of = record {
    high = size + 1;
    few = omega (arith, lawful.most);
    stands = λ t. stands (state t);
    parent = λ t. parent_of (state t);
    run = λ t. run_of k (state t);
    root = ap stands lawful.root;
    from_one = point_low;
    to_high = point_high;
    up_stands = λ t s h. (tied_as t s (λ e. omega arith)).parent;
    up_lower = λ t s h. (tied_as t s (λ e. omega arith)).smaller;
    run_entry = λ t s h. (tied_as t s (λ e. omega arith)).run_entry;
    run_some = λ t s h. (tied_as t s (λ e. omega arith)).run_some;
  }

  -- a point has the state that the tree says, with its drop
  pub state_as : (t : ℕ) → Point state t → state t ≡ Standing (spur_in k (state t))
  state_as t s = as_standing k (state t) s

  -- the drop of every point is an entry
  pub drops : Laws k → Drops tree_of (drop_at k state)
  drops laws t s = elim (cases_eq t 1) [
    | inl e ↦ rw (e, lawful.root) laws.zero_entry
    | inr n ↦ (tied_as t s n).drop_entry
  ]
