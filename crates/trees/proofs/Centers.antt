-- Two centers are joined by a run.
use Rattle.std.proofs.Common.{◌≡◌, ℕ, ◌<◌, true, false, ◌⊎◌, sym, ◌∙◌, inl, inr, ⊎_elim, arith}
use Rattle.std.proofs.lemmas.Bool.{both_ways, cases_Bool, cases_eq, cases_order}
use Rattle.lengths.specs.Figures.{Figures, Laws, Sum, one, Less, AtMost}
use Rattle.lengths.specs.Order.{irrefl, lt_le_trans, le_trans}
use Rattle.trees.proofs.Trees.{Tree, Stands, Joined, side, parted, distance, reach, Between, Drops, Center}
use Rattle.trees.proofs.TwoSides.{stable, farther, farther_here}
use Rattle.trees.proofs.Adding.{sum_left_lt}
use Rattle.trees.proofs.Runs.{joined_above, up_stands, up_lower, later_joined}
use Rattle.trees.proofs.Selected.{one_more_selected}
use Rattle.trees.proofs.Sides.{side_self, side_above, side_past, nested}
use Rattle.trees.proofs.Distances.{distance_by_cuts, distance_sum}
use Rattle.trees.proofs.Reaches.{greatest_from, greatest_below}

module _ {F : Type 0} {k : Figures F} (T : Tree k) where
  -- a run that parts two different points
  pub parting : (a b : ℕ) → Stands T a → Stands T b → (a ≡ b → ⊥) → (e : ℕ) × Joined T e × (side T e a ≡ side T e b → ⊥)
  parting a b s t n = go (cases_order a b)
    where
      go : (a ≡ b) ⊎ ((a < b) ⊎ (b < a)) → (e : ℕ) × Joined T e × (side T e a ≡ side T e b → ⊥)
      go (inl p) = absurd (n p)
      go (inr (inl l)) =
          (b, later_joined T a b s t l, λ p. both_ways (side T b a) (side_above T b a l) (p ∙ side_self T b (omega arith)))
      go (inr (inr l)) =
          (a, later_joined T b a t s l, λ p. both_ways (side T a b) (side_above T a b l) (sym p ∙ side_self T a (omega arith)))

  -- a drop is one entry
  pub drop_one : (drop : ℕ → F) → Drops T drop → (y : ℕ) → Stands T y → Sum k 1 (drop y)
  drop_one drop entries y s = one (omega arith) (entries y s)

module _ {F : Type 0} {k : Figures F} (laws : Laws k) (T : Tree k) where
  -- a point on the way from y to u, other than u, is nearer to y than u
  pub nearer :
      (y w u : ℕ) → Stands T y → Stands T w → Stands T u → Between T w y u → (w ≡ u → ⊥) → Less k (distance T y w) (distance T y u)
  nearer y w u s t r B n =
      let (e, d, apart) = parting T w u t r n in
      let here = farther_here (side T e y) (side T e w) (side T e u) (B e d) apart in
      let inside = λ (f : ℕ) (g : Joined T f). farther (side T f y) (side T f w) (side T f u) (B f g) in
      rw (distance_by_cuts laws T y w s t, distance_by_cuts laws T y u s r)
      (one_more_selected laws T (parted T y w) (parted T y u) inside e d here.0 here.1)

  module _ (drop : ℕ → F) (entries : Drops T drop) where
    -- where each point is nearer to w than to a point whose reach is at most M, the reach of w is less than M
    lower :
        (w : ℕ) (M : F) → Stands T w →
        ((y : ℕ) → Stands T y → (u : ℕ) × Stands T u × Between T w y u × (w ≡ u → ⊥) × AtMost k (reach T drop u) M) →
        Less k (reach T drop w) M
    unfolding reach
    lower w M s h = greatest_below laws T (λ y. k.sum (drop y) (distance T y w)) M at T.high
      where
        at : (y : ℕ) → Stands T y → Less k (k.sum (drop y) (distance T y w)) M
        at y t =
            let (u, v, B, n, small) = h y t in
            let near = nearer y w u t s v B n in
            lt_le_trans laws
            (sum_left_lt laws 1 257 (omega arith) (drop_one T drop entries y t) (distance_sum laws T y w t s) (distance_sum laws T y u t v) near)
            (le_trans laws (greatest_from laws T (λ y. k.sum (drop y) (distance T y u)) y t T.high (T.to_high y t)) small)

    -- of two centers the smaller is the parent of the greater, so that there are at most two and a run joins them
    pub centers : (u v : ℕ) → u < v → Center T drop u → Center T drop v → T.parent v ≡ u
    centers u v l cu cv =
        ⊎_elim (λ p. p) (λ n. absurd (both_ways (k.less (reach T drop a) (reach T drop u)) (cu.1 a up) (smaller n))) (cases_eq a u)
      where
        a : ℕ
        a = T.parent v

        g : Joined T v
        g = later_joined T u v cu.0 cv.0 l

        up : Stands T a
        up = up_stands T g

        past : (e : ℕ) → Joined T e → (e ≡ v → ⊥) → side T e v ≡ side T e a
        past e d m = side_past T e v (omega (arith, joined_above T d)) g m

        at :
            (a ≡ u → ⊥) → (y : ℕ) → Stands T y → (side T v y ≡ true) ⊎ (side T v y ≡ false) →
            (z : ℕ) × Stands T z × Between T a y z × (a ≡ z → ⊥) × AtMost k (reach T drop z) (reach T drop u)
        at n y t (inl below) = (u, cu.0, λ e d same. on e d same (cases_eq e v), n, irrefl laws (reach T drop u))
          where
            no_u : side T v y ≡ side T v u → ⊥
            no_u p = both_ways (side T v u) (side_above T v u l) (sym p ∙ below)

            on : (e : ℕ) → Joined T e → side T e y ≡ side T e u → (e ≡ v) ⊎ (e ≡ v → ⊥) → side T e a ≡ side T e y
            on e d same (inl p) = absurd (no_u (rw p at same))
            on e d same (inr m) =
                sym (past e d m)
                ∙ stable (side T e v) (side T e y) (λ apart.
                no_u (nested T v e (omega (arith, joined_above T g)) (omega (arith, joined_above T d)) y u t cu.0 same apart))
        at n y t (inr beside) = (v, cv.0, λ e d same. on e d same (cases_eq e v), (λ p. omega (arith, up_lower T g, p)), cv.1 u cu.0)
          where
            on : (e : ℕ) → Joined T e → side T e y ≡ side T e v → (e ≡ v) ⊎ (e ≡ v → ⊥) → side T e a ≡ side T e y
            on e d same (inl p) = absurd (both_ways (side T v y) beside ((rw p at same) ∙ side_self T v (omega (arith, joined_above T g))))
            on e d same (inr m) = sym (past e d m) ∙ sym same

        smaller : (a ≡ u → ⊥) → Less k (reach T drop a) (reach T drop u)
        smaller n = lower a (reach T drop u) up (λ y t. at n y t (cases_Bool (side T v y)))
