-- A point is on the way between two others where no run parts it from both.
use Rattle.std.proofs.Common.{◌≡◌, ℕ, zero, suc, ◌+◌, ◌<◌, ◌≤◌, max, Bool, true, false, ◌||◌, eqb, ◌⊎◌, ◌↔◌, List, [], ◌∷◌, sym, refl, ap, ◌∙◌, inl, inr, ⊎_elim, le_of_lt, arith}
use Rattle.std.proofs.Math.Nat.{max-eq_right, max-eq_left, min-eq_left, min-eq_right}
use Rattle.std.proofs.lemmas.Bool.{both_ways, cases_order, cases_eq, eqb-true, eq-eqb, ne_eqb, or_cases, or_left, or_right, false_from_ne_true}
use Rattle.lengths.specs.Figures.{Figures}
use Rattle.trees.proofs.Trees.{Tree, Stands, Joined, side, passed, way, member, On, Between}
use Rattle.trees.proofs.Runs.{joined_above, is_joined, up_stands, up_lower, later_joined}
use Rattle.trees.proofs.Sides.{side_self, side_above, side_low, side_past, known_by_sides}

module _ {F : Type 0} {k : Figures F} (T : Tree k) where
  -- no run parts w from both a and b: so in either order
  between_turn : (w a b : ℕ) → Between T w a b → Between T w b a
  between_turn w a b h e d p = h e d (sym p) ∙ sym p

  -- the way from g to a smaller point is g and the way from the parent of g
  way_step :
      (w l g : ℕ) (rest : Bool) → Stands T w → Joined T g → l < g →
      (rest ≡ true) ↔ Between T w l (T.parent g) → ((eqb w g || rest) ≡ true) ↔ Between T w l g
  way_step w l g rest s h low rec = (λ t. there (or_cases (eqb w g) rest t), λ B. back B (cases_eq w g))
    where
      there : (eqb w g ≡ true) ⊎ (rest ≡ true) → Between T w l g
      there (inl p) e d same = rw (eqb-true w g p) (sym same)
      there (inr r) e d same = go (cases_eq e g)
        where
          go : (e ≡ g) ⊎ (e ≡ g → ⊥) → side T e w ≡ side T e l
          go (inl p) = absurd (both_ways (side T g l) (side_above T g l low) (rw (p, side_self T g (omega arith)) at same))
          go (inr n) = rec.0 r e d (same ∙ side_past T e g (omega (arith, joined_above T d)) h n)

      -- a point that hangs from g is parted from both ends by its own run
      out : (w ≡ g → ⊥) → Between T w l g → side T g w ≡ false
      out n B = false_from_ne_true (side T g w) (λ t.
          let a : g ≤ w = side_low T g w t in
          let b = joined_above T h in
          let c = B w (is_joined T s (omega (arith, n))) (side_above T w l (omega (arith, n)) ∙ sym (side_above T w g (omega (arith, n)))) in
          both_ways (side T w w) (c ∙ side_above T w l (omega (arith, n))) (side_self T w (omega arith)))

      back : Between T w l g → (w ≡ g) ⊎ (w ≡ g → ⊥) → (eqb w g || rest) ≡ true
      back B (inl p) = or_left (eqb w g) rest (eq-eqb w g p)
      back B (inr n) = or_right (eqb w g) rest (rec.1 (λ e d same. go e d same (cases_eq e g)))
        where
          go : (e : ℕ) → Joined T e → side T e l ≡ side T e (T.parent g) → (e ≡ g) ⊎ (e ≡ g → ⊥) → side T e w ≡ side T e l
          go e d same (inl p) = rw (p, side_above T g l low) (out n B)
          go e d same (inr m) = B e d (same ∙ sym (side_past T e g (omega (arith, joined_above T d)) h m))

  -- the climb from a point to itself
  passed_same : (fuel a : ℕ) → passed T (suc fuel) a a ≡ a ∷ []
  unfolding passed
  passed_same fuel a = let e : max a a ≡ a = omega arith in rw (eq-eqb a a refl, e)

  -- the climb where the second tag is greater
  passed_right : (fuel a b : ℕ) → a < b → passed T (suc fuel) a b ≡ b ∷ passed T fuel a (T.parent b)
  unfolding passed
  passed_right fuel a b l = rw (ne_eqb a b (omega arith), max-eq_right (le_of_lt l), min-eq_left (le_of_lt l))

  -- the climb where the first tag is greater
  passed_left : (fuel a b : ℕ) → b < a → passed T (suc fuel) a b ≡ a ∷ passed T fuel b (T.parent a)
  unfolding passed
  passed_left fuel a b l = rw (ne_eqb a b (omega arith), max-eq_left (le_of_lt l), min-eq_right (le_of_lt l))

  -- the way from a point to itself is this point
  way_same : (w a : ℕ) → Stands T w → Stands T a → ((eqb w a || false) ≡ true) ↔ Between T w a a
  way_same w a u s = (there, λ B. or_left (eqb w a) false (eq-eqb w a (known_by_sides T w a u s (λ e d. B e d refl))))
    where
      there : (eqb w a || false) ≡ true → Between T w a a
      there h e d same = ap (side T e) (eqb-true w a (grind arith))

  -- two points whose tags come to at most `fuel`: the climb meets the points that no run parts from both
  abbrev Ways_to : ℕ → Type 0
  Ways_to fuel =
      (w a b : ℕ) → a + b ≤ fuel → Stands T w → Stands T a → Stands T b → (member w (passed T fuel a b) ≡ true) ↔ Between T w a b

  -- one more
  ways_step : (fuel : ℕ) → Ways_to fuel → Ways_to (suc fuel)
  unfolding member
  ways_step fuel rec w a b h u s t = go (cases_order a b)
    where
      go : (a ≡ b) ⊎ ((a < b) ⊎ (b < a)) → (member w (passed T (suc fuel) a b) ≡ true) ↔ Between T w a b
      go (inl p) = rw (← p, passed_same fuel a) (way_same w a u s)
      go (inr (inl l)) =
          let g = later_joined T a b s t l in
          let up = rec w a (T.parent b) (omega (arith, up_lower T g)) u s (up_stands T g) in
          rw (passed_right fuel a b l) (way_step w a b (member w (passed T fuel a (T.parent b))) u g l up)
      go (inr (inr l)) =
          let g = later_joined T b a t s l in
          let up = rec w b (T.parent a) (omega (arith, up_lower T g)) u t (up_stands T g) in
          let e = way_step w b a (member w (passed T fuel b (T.parent a))) u g l up in
          rw (passed_left fuel a b l) (λ m. between_turn w b a (e.0 m), λ B. e.1 (between_turn w a b B))

  -- any number
  ways : (fuel : ℕ) → Ways_to fuel
  ways zero = λ w a b h u s t. absurd (omega (arith, T.from_one a s))
  ways (suc fuel) = ways_step fuel (ways fuel)

  -- the points that a climb meets stand
  abbrev Stand_to : ℕ → Type 0
  Stand_to fuel = (w a b : ℕ) → Stands T a → Stands T b → member w (passed T fuel a b) ≡ true → Stands T w

  -- one more
  stand_step : (fuel : ℕ) → Stand_to fuel → Stand_to (suc fuel)
  unfolding member
  stand_step fuel rec w a b s t h = go (cases_order a b)
    where
      ahead : (v : ℕ) (vs : List ℕ) → Stands T v → (member w vs ≡ true → Stands T w) → passed T (suc fuel) a b ≡ v ∷ vs → Stands T w
      ahead v vs u rest p = ⊎_elim (λ q. rw (eqb-true w v q) u) rest (or_cases (eqb w v) (member w vs) (rw p at h))

      go : (a ≡ b) ⊎ ((a < b) ⊎ (b < a)) → Stands T w
      go (inl p) = ahead a [] s (λ m. absurd (both_ways false refl m)) (rw (← p) (passed_same fuel a))
      go (inr (inl l)) =
          ahead b (passed T fuel a (T.parent b)) t (rec w a (T.parent b) s (up_stands T (later_joined T a b s t l))) (passed_right fuel a b l)
      go (inr (inr l)) =
          ahead a (passed T fuel b (T.parent a)) s (rec w b (T.parent a) t (up_stands T (later_joined T b a t s l))) (passed_left fuel a b l)

  -- any number
  stand : (fuel : ℕ) → Stand_to fuel
  unfolding passed member
  stand zero = λ w a b s t h. absurd (both_ways false refl h)
  stand (suc fuel) = stand_step fuel (stand fuel)

  -- a point is on the way between two others exactly when no run has both of them on one side and the point on the other
  pub way_by_cuts : (w a b : ℕ) → Stands T w → Stands T a → Stands T b → On T w a b ↔ Between T w a b
  unfolding way
  way_by_cuts w a b u s t = ways (a + b) w a b (omega arith) u s t

  -- the points of a way stand
  pub on_stands : (w a b : ℕ) → Stands T a → Stands T b → On T w a b → Stands T w
  unfolding way
  on_stands w a b s t h = stand (a + b) w a b s t h

  -- a way has its first end
  pub on_left : (a b : ℕ) → Stands T a → Stands T b → On T a a b
  on_left a b s t = (way_by_cuts a a b s s t).1 (λ e d same. refl)

  -- and its other end
  pub on_right : (a b : ℕ) → Stands T a → Stands T b → On T b a b
  on_right a b s t = (way_by_cuts b a b t s t).1 (λ e d same. sym same)

  -- a way is the same in either direction
  pub on_turn : (w a b : ℕ) → Stands T a → Stands T b → On T w a b → On T w b a
  on_turn w a b s t h =
      let u = on_stands w a b s t h in
      (way_by_cuts w b a u t s).1 (between_turn w a b ((way_by_cuts w a b u s t).0 h))
