-- The greatest of a figure of each point of a tree is the figure of a point; and reaches of paths of one point, and of turned paths.
use Rattle.std.proofs.Common.{◌≡◌, ℕ, Bool, ◌&&◌, ◌⊎◌, sym, refl, ◌∙◌, inl, inr, arith}
use mathlib.Core.Bool.{beq}
use Rattle.lengths.specs.Figures.{Figures, Laws, AtMost}
use Rattle.lengths.specs.Order.{same}
use Rattle.trees.proofs.Trees.{Tree, Stands, side, parted, off, differ, distance, nearest, greatest, reach, path_reach}
use Rattle.trees.proofs.Selected.{same_selected}
use Rattle.trees.proofs.Distances.{distance_by_cuts}
use Rattle.trees.proofs.Nearest.{nearest_by_cuts}
use Rattle.trees.proofs.Reaches.{greatest_to, greatest_from, greatest_at_most}

-- where two sides are one, what is off them is on the other side
off_one : (s u : Bool) → (beq s s && differ u s) ≡ differ u s
off_one s u = grind arith

-- what is off two sides is off them in the other order
off_turn : (s t u : Bool) → (beq s t && differ u s) ≡ (beq t s && differ u t)
off_turn s t u = grind arith

module _ {F : Type 0} {k : Figures F} (laws : Laws k) (T : Tree k) where
  -- the greatest of a figure of each point is that of some point: the root stands, and no figure is below zero
  pub attained : (f : ℕ → F) → (y : ℕ) × Stands T y × (greatest T f T.high ≡ f y)
  attained f = elim found [
    | inl z ↦ (1, T.root, z ∙ same laws (rw z at top) (laws.least (f 1)))
    | inr h ↦ h
  ]
    where
      found : (greatest T f T.high ≡ k.zero) ⊎ ((y : ℕ) × Stands T y × (greatest T f T.high ≡ f y))
      found =
          greatest_to T f (λ x. (x ≡ k.zero) ⊎ ((y : ℕ) × Stands T y × (x ≡ f y))) (inl refl) (λ y s. inr (y, s, refl)) T.high

      top : AtMost k (f 1) (greatest T f T.high)
      top = greatest_from laws T f 1 T.root T.high (T.to_high 1 T.root)

  -- the same figure of each point has the same greatest
  pub greatest_same : (f g : ℕ → F) → ((y : ℕ) → Stands T y → f y ≡ g y) → greatest T f T.high ≡ greatest T g T.high
  greatest_same f g h = same laws (half g f (λ y s. sym (h y s))) (half f g h)
    where
      half : (f g : ℕ → F) → ((y : ℕ) → Stands T y → f y ≡ g y) → AtMost k (greatest T f T.high) (greatest T g T.high)
      half f g h =
          greatest_at_most laws T f (greatest T g T.high)
          (λ y s. rw (h y s) (greatest_from laws T g y s T.high (T.to_high y s)))
          T.high

  -- the distance to a path of one point is the distance to this point
  pub nearest_one : (y x : ℕ) → Stands T y → Stands T x → nearest T y x x ≡ distance T y x
  nearest_one y x s t =
      nearest_by_cuts laws T y x x s t t
      ∙ same_selected laws T (off T y x x) (parted T y x) (λ e _. off_one (side T e x) (side T e y))
      ∙ sym (distance_by_cuts laws T y x s t)

  -- the distance to a path is the same for its ends in the other order
  pub nearest_turn : (y a b : ℕ) → Stands T y → Stands T a → Stands T b → nearest T y a b ≡ nearest T y b a
  nearest_turn y a b u s t =
      nearest_by_cuts laws T y a b u s t
      ∙ same_selected laws T (off T y a b) (off T y b a) (λ e _. off_turn (side T e a) (side T e b) (side T e y))
      ∙ sym (nearest_by_cuts laws T y b a u t s)

  module _ (drop : ℕ → F) where
    -- the reach of a path of one point is the reach of this point
    pub path_reach_one : (x : ℕ) → Stands T x → path_reach T drop x x ≡ reach T drop x
    unfolding path_reach reach
    path_reach_one x t =
        greatest_same (λ y. k.sum (drop y) (nearest T y x x)) (λ y. k.sum (drop y) (distance T y x))
        (λ y s. rw (nearest_one y x s t))

    -- the reach of a path is the same for its ends in the other order
    pub path_reach_turn : (a b : ℕ) → Stands T a → Stands T b → path_reach T drop a b ≡ path_reach T drop b a
    unfolding path_reach
    path_reach_turn a b s t =
        greatest_same (λ y. k.sum (drop y) (nearest T y a b)) (λ y. k.sum (drop y) (nearest T y b a))
        (λ y u. rw (nearest_turn y a b u s t))
