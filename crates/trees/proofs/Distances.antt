-- The distance of two points is the sum of the runs that part them.
use Rattle.std.proofs.Common.{◌≡◌, ℕ, zero, suc, ◌+◌, ◌<◌, ◌≤◌, min, max, cond, ◌||◌, eqb, ◌⊎◌, sym, refl, ◌∙◌, inl, inr, le_of_lt, arith}
use Rattle.std.proofs.Math.Nat.{max-eq_right, max-eq_left, min-eq_left, min-eq_right}
use Rattle.std.proofs.lemmas.Bool.{cases_order, cases_eq, eq-eqb, ne_eqb}
use Rattle.lengths.specs.Figures.{Figures, Laws, Sum}
use Rattle.trees.proofs.Trees.{Tree, Stands, Joined, side, parted, selected, climbed, distance, differ}
use Rattle.trees.proofs.TwoSides.{differ_none, differ_turn}
use Rattle.trees.proofs.Runs.{joined_above, up_stands, up_lower, later_joined}
use Rattle.trees.proofs.Selected.{none_selected, same_selected, one_besides, selected_few, selected_sum}
use Rattle.trees.proofs.Sides.{side_self, side_above, side_past}

module _ {F : Type 0} {k : Figures F} (laws : Laws k) (T : Tree k) where
  -- what parts g from a smaller point is the run g and what parts the parent of g from it
  one_step : (l g : ℕ) → Joined T g → l < g → selected T (parted T l g) ≡ k.sum (T.run g) (selected T (parted T l (T.parent g)))
  one_step l g h low =
      same_selected laws T (parted T l g) (λ e. eqb g e || parted T l (T.parent g) e) (λ e d. at e d (cases_eq g e))
      ∙ one_besides laws T (parted T l (T.parent g)) g h (rw (side_above T g l low, side_above T g (T.parent g) (up_lower T h)))
    where
      at : (e : ℕ) → Joined T e → (g ≡ e) ⊎ (g ≡ e → ⊥) → parted T l g e ≡ (eqb g e || parted T l (T.parent g) e)
      at e d (inl p) = rw (← p, eq-eqb g g refl, side_above T g l low, side_self T g (omega arith))
      at e d (inr n) = rw (ne_eqb g e n, side_past T e g (omega (arith, joined_above T d)) h (λ p. n (sym p)))

  -- what parts a from b parts b from a
  turn : (a b : ℕ) → selected T (parted T a b) ≡ selected T (parted T b a)
  turn a b = same_selected laws T (parted T a b) (parted T b a) (λ e _. differ_turn (side T e a) (side T e b))

  -- two points whose tags come to at most `fuel`: the climb passes the runs that part them
  abbrev Climbs_to : ℕ → Type 0
  Climbs_to fuel = (a b : ℕ) → a + b ≤ fuel → Stands T a → Stands T b → climbed T fuel a b ≡ selected T (parted T a b)

  -- one more
  climb_step : (fuel : ℕ) → Climbs_to fuel → Climbs_to (suc fuel)
  unfolding climbed
  climb_step fuel rec a b h s t = go (cases_order a b)
    where
      go :
          (a ≡ b) ⊎ ((a < b) ⊎ (b < a)) →
          cond (eqb a b) k.zero (k.sum (T.run (max a b)) (climbed T fuel (min a b) (T.parent (max a b)))) ≡ selected T (parted T a b)
      go (inl p) = rw (p, eq-eqb b b refl) (sym (none_selected laws T (parted T b b) (λ e _. differ_none (side T e b))))
      go (inr (inl l)) =
          let g = later_joined T a b s t l in
          let up = rec a (T.parent b) (omega (arith, up_lower T g)) s (up_stands T g) in
          rw (ne_eqb a b (omega arith), max-eq_right (le_of_lt l), min-eq_left (le_of_lt l), up) (sym (one_step a b g l))
      go (inr (inr l)) =
          let g = later_joined T b a t s l in
          let up = rec b (T.parent a) (omega (arith, up_lower T g)) t (up_stands T g) in
          rw (ne_eqb a b (omega arith), max-eq_left (le_of_lt l), min-eq_right (le_of_lt l), up) (sym (turn a b ∙ one_step b a g l))

  -- any number
  climbs : (fuel : ℕ) → Climbs_to fuel
  climbs zero = λ a b h s t. absurd (omega (arith, T.from_one a s))
  climbs (suc fuel) = climb_step fuel (climbs fuel)

  -- the distance of two points is the sum of the runs that have one of them on one side and one on the other
  pub distance_by_cuts :
      (a b : ℕ) → Stands T a → Stands T b → distance T a b ≡ selected T (λ e. differ (side T e a) (side T e b))
  unfolding distance
  distance_by_cuts a b s t = climbs (a + b) a b (omega arith) s t

  -- a distance is a sum of at most 255 entries
  pub distance_few : (a b : ℕ) → Stands T a → Stands T b → Sum k 255 (distance T a b)
  distance_few a b s t = rw (distance_by_cuts a b s t) (selected_few T (parted T a b))

  -- and so of at most 257
  pub distance_sum : (a b : ℕ) → Stands T a → Stands T b → Sum k 257 (distance T a b)
  distance_sum a b s t = rw (distance_by_cuts a b s t) (selected_sum T (parted T a b))

  -- a distance is the same in either direction
  pub distance_turn : (a b : ℕ) → Stands T a → Stands T b → distance T a b ≡ distance T b a
  distance_turn a b s t = distance_by_cuts a b s t ∙ turn a b ∙ sym (distance_by_cuts b a t s)
