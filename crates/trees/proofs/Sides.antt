-- Which side of a run a point is on.
use Rattle.std.proofs.Common.{◌≡◌, ℕ, zero, suc, ◌<◌, ◌≤◌, Bool, true, false, ◌&&◌, ◌||◌, eqb, ltb, ◌⊎◌, sym, refl, ap, ◌∙◌, inl, inr, arith}
use Rattle.std.proofs.lemmas.Bool.{both_ways, cases_Bool, ltb-true, eq-eqb, ne_eqb, lt-ltb, le-ltb, cases_order, or_left, false_from_ne_true}
use Rattle.lengths.specs.Figures.{Figures}
use Rattle.trees.proofs.Trees.{Tree, Stands, Joined, side_by, side}
use Rattle.trees.proofs.Runs.{joined_stands, up_lower, later_joined}

-- what follows a test counts only where the test is passed
pub and_same : (b : Bool) {c d : Bool} → (b ≡ true → c ≡ d) → (b && c) ≡ (b && d)
and_same b h = grind arith

-- going up by P from the numbers of which S holds: from each above 1 to a smaller one of them
module _ (P : ℕ → ℕ) (S : ℕ → Type 0) (falls : (x : ℕ) → S x → 1 < x → S (P x) × (P x < x)) (e : ℕ) (low : 1 ≤ e) where
  -- 0 hangs from nothing
  pub side_none : (f : ℕ) → side_by P f e 0 ≡ false
  unfolding side_by
  side_none zero = refl
  side_none (suc f) = rw (ne_eqb e 0 (omega arith), le-ltb e 0 (omega arith))

  -- to look further up than the number itself makes no difference
  pub enough : (l m x : ℕ) → S x → x ≤ l → x ≤ m → side_by P l e x ≡ side_by P m e x
  unfolding side_by
  enough zero m zero s h g = sym (side_none m)
  enough zero m (suc x) s h g = absurd (omega arith)
  enough (suc l) zero zero s h g = side_none (suc l)
  enough (suc l) zero (suc x) s h g = absurd (omega arith)
  enough (suc l) (suc m) x s h g =
      ap (◌||◌ (eqb e x))
      (and_same (ltb e x) (λ t.
      let a : e < x = ltb-true e x t in
      let up = falls x s (omega arith) in
      enough l m (P x) up.0 (omega (arith, up.1)) (omega (arith, up.1))))

module _ {F : Type 0} {k : Figures F} (T : Tree k) where
  -- a point is on the outer side of its own run
  pub side_self : (e : ℕ) → 1 ≤ e → side T e e ≡ true
  unfolding side side_by
  side_self zero h = absurd (omega arith)
  side_self (suc n) h = or_left (eqb (suc n) (suc n)) _ (eq-eqb (suc n) (suc n) refl)

  -- a smaller tag is on the inner side
  pub side_above : (e x : ℕ) → x < e → side T e x ≡ false
  unfolding side side_by
  side_above e zero h = refl
  side_above e (suc n) h = rw (ne_eqb e (suc n) (omega arith), le-ltb e (suc n) (omega arith))

  -- a greater tag is on the side that its parent is on
  pub side_up : (e x : ℕ) → 1 ≤ e → Stands T x → e < x → side T e x ≡ side T e (T.parent x)
  unfolding side side_by
  side_up e zero l s h = absurd (omega arith)
  side_up e (suc n) l s h =
      let b : T.parent (suc n) < suc n = T.up_lower (suc n) s (omega arith) in
      rw (ne_eqb e (suc n) (omega arith), lt-ltb e (suc n) h)
      (enough T.parent (Stands T) (λ x s l. (T.up_stands x s l, T.up_lower x s l)) e l n (T.parent (suc n)) (T.parent (suc n))
      (T.up_stands (suc n) s (omega arith)) (omega arith) (omega arith))

  -- a point on the outer side of the run e is not smaller than e
  pub side_low : (e x : ℕ) → side T e x ≡ true → e ≤ x
  side_low e x h = go (cases_order e x)
    where
      go : (e ≡ x) ⊎ ((e < x) ⊎ (x < e)) → e ≤ x
      go (inl p) = omega arith
      go (inr (inl p)) = omega arith
      go (inr (inr p)) = absurd (both_ways (side T e x) (side_above e x p) h)

  -- a point and its parent are on one side of every run but the one that joins them
  pub side_past : (e g : ℕ) → 1 ≤ e → Joined T g → (e ≡ g → ⊥) → side T e g ≡ side T e (T.parent g)
  side_past e g l h ne = go (cases_order e g)
    where
      go : (e ≡ g) ⊎ ((e < g) ⊎ (g < e)) → side T e g ≡ side T e (T.parent g)
      go (inl p) = absurd (ne p)
      go (inr (inl p)) = side_up e g l (joined_stands T h) p
      go (inr (inr p)) = let q = up_lower T h in side_above e g p ∙ sym (side_above e (T.parent g) (omega arith))

  -- `by_parent`, with a bound on the tag
  by_fuel :
      (P : ℕ → Type 0) → ((y : ℕ) → Stands T y → (1 < y → P (T.parent y)) → P y) →
      (fuel y : ℕ) → y ≤ fuel → Stands T y → P y
  by_fuel P step zero y h s = absurd (omega (arith, T.from_one y s))
  by_fuel P step (suc fuel) y h s =
      step y s (λ l. by_fuel P step fuel (T.parent y) (omega (arith, T.up_lower y s l)) (T.up_stands y s l))

  -- what passes from each parent to its child, and holds of the root, holds of every point
  pub by_parent : (P : ℕ → Type 0) → ((y : ℕ) → Stands T y → (1 < y → P (T.parent y)) → P y) → (y : ℕ) → Stands T y → P y
  by_parent P step y s = by_fuel P step y y (omega arith) s

  -- where v is e or hangs from e, whatever is v or hangs from v is e or hangs from e
  pub side_trans : (e v : ℕ) → 1 ≤ e → side T e v ≡ true → (y : ℕ) → Stands T y → side T v y ≡ true → side T e y ≡ true
  side_trans e v l h = by_parent (λ y. side T v y ≡ true → side T e y ≡ true) (λ y s up g. go y s up g (cases_order v y))
    where
      low : e ≤ v
      low = side_low e v h

      go :
          (y : ℕ) → Stands T y → (1 < y → side T v (T.parent y) ≡ true → side T e (T.parent y) ≡ true) → side T v y ≡ true →
          (v ≡ y) ⊎ ((v < y) ⊎ (y < v)) → side T e y ≡ true
      go y s up g (inl p) = rw p at h
      go y s up g (inr (inl p)) =
          side_up e y l s (omega (arith, low)) ∙ up (omega (arith, low)) (sym (side_up v y (omega (arith, low)) s p) ∙ g)
      go y s up g (inr (inr p)) = absurd (both_ways (side T v y) (side_above v y p) g)

  -- of two tags that a point hangs from, the greater hangs from the smaller
  pub side_chain : (e v : ℕ) → 1 ≤ e → e ≤ v → (y : ℕ) → Stands T y → side T e y ≡ true → side T v y ≡ true → side T e v ≡ true
  side_chain e v l low =
      by_parent (λ y. side T e y ≡ true → side T v y ≡ true → side T e v ≡ true) (λ y s up h g. go y s up h g (cases_order v y))
    where
      go :
          (y : ℕ) → Stands T y → (1 < y → side T e (T.parent y) ≡ true → side T v (T.parent y) ≡ true → side T e v ≡ true) →
          side T e y ≡ true → side T v y ≡ true → (v ≡ y) ⊎ ((v < y) ⊎ (y < v)) → side T e v ≡ true
      go y s up h g (inl p) = rw p h
      go y s up h g (inr (inl p)) = up (omega arith) (sym (side_up e y l s (omega arith)) ∙ h) (sym (side_up v y (omega arith) s p) ∙ g)
      go y s up h g (inr (inr p)) = absurd (both_ways (side T v y) (side_above v y p) g)

  -- where e is on the inner side of the run f, all points on the outer side of f are on one side of e
  under : (e f : ℕ) → 1 ≤ e → 1 ≤ f → side T f e ≡ false → (z : ℕ) → Stands T z → side T f z ≡ true → side T e z ≡ side T e f
  under e f l m h z s g = go (cases_Bool (side T e f))
    where
      no_e : side T e f ≡ false → side T e z ≡ true → (e ≡ f) ⊎ ((e < f) ⊎ (f < e)) → ⊥
      no_e n t (inl p) = both_ways (side T f e) h (rw p (side_self f m))
      no_e n t (inr (inl p)) = both_ways (side T e f) n (side_chain e f l (omega arith) z s t g)
      no_e n t (inr (inr p)) = both_ways (side T f e) h (side_chain f e m (omega arith) z s g t)

      go : (side T e f ≡ true) ⊎ (side T e f ≡ false) → side T e z ≡ side T e f
      go (inl t) = side_trans e f l t z s g ∙ sym t
      go (inr n) = false_from_ne_true (side T e z) (λ t. no_e n t (cases_order e f)) ∙ sym n

  -- runs do not cross: two points that the run f parts from e are on one side of the run e
  pub nested :
      (e f : ℕ) → 1 ≤ e → 1 ≤ f → (y z : ℕ) → Stands T y → Stands T z →
      side T f y ≡ side T f z → (side T f e ≡ side T f y → ⊥) → side T e y ≡ side T e z
  nested e f l m y z s t same apart = go (cases_Bool (side T f e)) (cases_Bool (side T f y))
    where
      over : side T f e ≡ true → (x : ℕ) → Stands T x → side T f x ≡ false → side T e x ≡ false
      over p x u q = false_from_ne_true (side T e x) (λ r. both_ways (side T f x) q (side_trans f e m p x u r))

      go : (side T f e ≡ true) ⊎ (side T f e ≡ false) → (side T f y ≡ true) ⊎ (side T f y ≡ false) → side T e y ≡ side T e z
      go (inl p) (inl q) = absurd (apart (p ∙ sym q))
      go (inl p) (inr q) = over p y s q ∙ sym (over p z t (sym same ∙ q))
      go (inr p) (inl q) = under e f l m p y s q ∙ sym (under e f l m p z t (sym same ∙ q))
      go (inr p) (inr q) = absurd (apart (p ∙ sym q))

  -- points are known by their sides: two that are on the same side of every run are one
  pub known_by_sides : (a b : ℕ) → Stands T a → Stands T b → ((e : ℕ) → Joined T e → side T e a ≡ side T e b) → a ≡ b
  known_by_sides a b s t h = go (cases_order a b)
    where
      apart : (x y : ℕ) → Stands T x → Stands T y → x < y → ((e : ℕ) → Joined T e → side T e x ≡ side T e y) → ⊥
      apart x y p q l same = both_ways (side T y x) (side_above y x l) (same y (later_joined T x y p q l) ∙ side_self y (omega arith))

      go : (a ≡ b) ⊎ ((a < b) ⊎ (b < a)) → a ≡ b
      go (inl p) = p
      go (inr (inl l)) = absurd (apart a b s t l h)
      go (inr (inr l)) = absurd (apart b a t s l (λ e d. sym (h e d)))
