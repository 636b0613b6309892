-- A path center lies on every path of the same reach.
use Rattle.std.proofs.Common.{◌≡◌, ℕ, Bool, true, false, ◌⊎◌, sym, ◌∙◌, inl, inr, ⊎_elim, arith}
use mathlib.Core.Bool.{beq}
use Rattle.std.proofs.lemmas.Bool.{both_ways, cases_Bool}
use Rattle.lengths.specs.Figures.{Figures, Laws, Less, AtMost}
use Rattle.lengths.specs.Order.{same, lt_le_trans, le_trans}
use Rattle.trees.proofs.Trees.{Tree, Stands, Joined, side, parted, off, Median, selected, distance, nearest, path_reach, On, Drops, Path_center}
use Rattle.trees.proofs.TwoSides.{stable, off_of_medians, crossed_by_both, not_crossed, differ_of, beq_same, beq_apart}
use Rattle.trees.proofs.Adding.{sum_left_lt, sum_left_le}
use Rattle.trees.proofs.Runs.{joined_stands, up_stands}
use Rattle.trees.proofs.Selected.{more_selected, one_more_selected, selected_sum}
use Rattle.trees.proofs.Medians.{medians}
use Rattle.trees.proofs.Distances.{distance_by_cuts}
use Rattle.trees.proofs.Ways.{way_by_cuts}
use Rattle.trees.proofs.Nearest.{nearest_by_cuts}
use Rattle.trees.proofs.Reaches.{greatest_from, greatest_below, greatest_at_most}
use Rattle.trees.proofs.Centers.{drop_one}
use Rattle.trees.proofs.Meeting.{Outside, Inside, inside_or_not, Meet, one_farther, beyond}

module _ {F : Type 0} {k : Figures F} (laws : Laws k) (T : Tree k) (drop : ℕ → F) (entries : Drops T drop) where
  -- the drop of y and the distance from y to the path
  abbrev off_path : ℕ → ℕ → ℕ → F
  off_path a b y = k.sum (drop y) (selected T (off T y a b))

  -- it is at most the reach of the path
  path_from : (a b y : ℕ) → Stands T a → Stands T b → Stands T y → AtMost k (off_path a b y) (path_reach T drop a b)
  unfolding path_reach
  path_from a b y s t u =
      rw (nearest_by_cuts laws T y a b u s t) at
      (greatest_from laws T (λ z. k.sum (drop z) (nearest T z a b)) y u T.high (T.to_high y u))

  -- where it is less than M for every y, so is the reach
  path_below :
      (a b : ℕ) (M : F) → Stands T a → Stands T b →
      ((y : ℕ) → Stands T y → Less k (off_path a b y) M) → Less k (path_reach T drop a b) M
  unfolding path_reach
  path_below a b M s t h = greatest_below laws T _ M (λ y u. rw (nearest_by_cuts laws T y a b u s t) (h y u)) T.high

  -- where it is at most M for every y, so is the reach
  path_at_most :
      (a b : ℕ) (M : F) → Stands T a → Stands T b →
      ((y : ℕ) → Stands T y → AtMost k (off_path a b y) M) → AtMost k (path_reach T drop a b) M
  unfolding path_reach
  path_at_most a b M s t h = greatest_at_most laws T _ M (λ y u. rw (nearest_by_cuts laws T y a b u s t) (h y u)) T.high

  -- fewer runs than those that part y from a path, with the drop of y, come to at most the reach of the path
  within_reach :
      (a b y : ℕ) → Stands T a → Stands T b → Stands T y → (φ : ℕ → Bool) → Inside T φ (off T y a b) →
      AtMost k (k.sum (drop y) (selected T φ)) (path_reach T drop a b)
  within_reach a b y s t u φ h =
      le_trans laws
      (sum_left_le laws 1 257 (omega arith) (drop_one T drop entries y u) (selected_sum T φ) (selected_sum T (off T y a b))
      (more_selected laws T φ (off T y a b) h))
      (path_from a b y s t u)

  -- the path center a..b, and another path c..d of the same reach
  module _ (a b c d : ℕ) (sa : Stands T a) (sb : Stands T b) (sc : Stands T c) (sd : Stands T d)
      (center : Path_center T drop a b) (level : path_reach T drop c d ≡ path_reach T drop a b) where
    -- no run parts the two: else the path of its two ends would have a smaller reach
    meets : Meet T a b c d
    meets e h p q =
        stable (side T e a) (side T e c) (λ n.
        both_ways (k.less (path_reach T drop (T.parent e) e) (path_reach T drop a b))
        (center (T.parent e) e (up_stands T h) (joined_stands T h)).0 (smaller n))
      where
        farther :
            (y z w : ℕ) → Stands T y → Stands T z → Stands T w → side T e z ≡ side T e w → (side T e y ≡ side T e z → ⊥) →
            Less k (off_path (T.parent e) e y) (off_path z w y)
        farther y z w s t u one_side apart =
            sum_left_lt laws 1 257 (omega arith) (drop_one T drop entries y s) (selected_sum T _) (selected_sum T _)
            (beyond laws T e y z w h s t u one_side apart)

        at :
            (side T e a ≡ side T e c → ⊥) → (y : ℕ) → Stands T y →
            (beq (side T e y) (side T e a) ≡ true) ⊎ (beq (side T e y) (side T e a) ≡ false) →
            Less k (off_path (T.parent e) e y) (path_reach T drop a b)
        at n y s (inl r) =
            lt_le_trans laws (farther y c d s sc sd q (λ o. n (sym (beq_same (side T e y) (side T e a) r) ∙ o)))
            (rw level at (path_from c d y sc sd s))
        at n y s (inr r) = lt_le_trans laws (farther y a b s sa sb p (beq_apart (side T e y) (side T e a) r)) (path_from a b y sa sb s)

        smaller : (side T e a ≡ side T e c → ⊥) → Less k (path_reach T drop (T.parent e) e) (path_reach T drop a b)
        smaller n =
            path_below (T.parent e) e (path_reach T drop a b) (up_stands T h) (joined_stands T h)
            (λ y s. at n y s (cases_Bool (beq (side T e y) (side T e a))))

    -- what the two share is the path a'..b', where a' and b' are the medians of c and d with a and with b
    module _ (a' b' : ℕ) (sa' : Stands T a') (sb' : Stands T b') (sides_a : Median T a' c d a) (sides_b : Median T b' c d b) where
      -- a run that parts y from what they share parts y from one of the two
      off_either : (y e : ℕ) → Joined T e → off T y a' b' e ≡ true → (off T y a b e ≡ true) ⊎ (off T y c d e ≡ true)
      off_either y e h t =
          off_of_medians (side T e a) (side T e b) (side T e c) (side T e d) (side T e y) (rw (sides_a e h, sides_b e h) at t)

      -- the reach of what they share is no greater
      shared_reach : AtMost k (path_reach T drop a' b') (path_reach T drop a b)
      shared_reach = path_at_most a' b' (path_reach T drop a b) sa' sb' (λ y s. at y s (inside_or_not T (off T y a b) (off T y c d)))
        where
          at :
              (y : ℕ) → Stands T y → Outside T (off T y a b) (off T y c d) ⊎ Inside T (off T y a b) (off T y c d) →
              AtMost k (off_path a' b' y) (path_reach T drop a b)
          at y s (inl (e, h, on, miss)) =
              within_reach a b y sa sb s (off T y a' b') (λ f g t.
              ⊎_elim (λ p. p) (one_farther T a b c d y sa sb sc sd s meets e h on miss f g) (off_either y f g t))
          at y s (inr all) =
              rw level at (within_reach c d y sc sd s (off T y a' b') (λ f g t. ⊎_elim (all f g) (λ p. p) (off_either y f g t)))

      -- what they share is no shorter than a..b, so each run of a..b is a run of c..d
      crossed : (e : ℕ) → Joined T e → side T e c ≡ side T e d → side T e a ≡ side T e b
      crossed e h p = stable (side T e a) (side T e b) (λ n.
          let shared = center a' b' sa' sb' in
          both_ways (k.less (distance T a' b') (distance T a b)) (shared.1 (same laws shared.0 shared_reach)) (shorter n))
        where
          shorter : (side T e a ≡ side T e b → ⊥) → Less k (distance T a' b') (distance T a b)
          shorter n =
              rw (distance_by_cuts laws T a' b' sa' sb', distance_by_cuts laws T a b sa sb)
              (one_more_selected laws T (parted T a' b') (parted T a b)
              (λ f g t. crossed_by_both (side T f a) (side T f b) (side T f c) (side T f d) (rw (sides_a f g, sides_b f g) at t)) e h
              (rw (sides_a e h, sides_b e h) (not_crossed (side T e a) (side T e b) (side T e c) (side T e d) p))
              (differ_of (side T e a) (side T e b) n))

      -- so each point of a..b is a point of c..d
      lies_on : (w : ℕ) → Stands T w → On T w a b → On T w c d
      lies_on w s on =
          let B = (way_by_cuts T w a b s sa sb).0 on in
          (way_by_cuts T w c d s sc sd).1 (λ e h p. let q = crossed e h p in B e h q ∙ meets e h q p)

  -- a path of least reach, and of least length among those of least reach, lies on every path of that reach
  pub path_centers :
      (a b : ℕ) → Stands T a → Stands T b → Path_center T drop a b →
      (c d : ℕ) → Stands T c → Stands T d → path_reach T drop c d ≡ path_reach T drop a b →
      (w : ℕ) → Stands T w → On T w a b → On T w c d
  path_centers a b sa sb center c d sc sd level w s on =
      let (a', sa', sides_a) = medians T c d a sc sd sa in
      let (b', sb', sides_b) = medians T c d b sc sd sb in
      lies_on a b c d sa sb sc sd center level a' b' sa' sb' sides_a sides_b w s on
