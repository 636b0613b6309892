-- The search for the hub: the points of least reach, one tag after another.
use Rattle.std.proofs.Common.{◌≡◌, ℕ, ◌+◌, ◌<◌, ◌≤◌, sym, ◌∙◌, subst, inl, inr, arith}
use Rattle.std.proofs.lemmas.Bool.{both_ways, cases_eq}
use Rattle.lengths.specs.Figures.{Figures, Laws, Less, AtMost}
use Rattle.lengths.specs.Order.{irrefl, asym, lt_le_trans}
use Rattle.books.specs.declared.states.State.{State}
use Rattle.books.specs.States.{Lawful}
use Rattle.plans.specs.declared.answers.Plan.{Plan}
use Rattle.plans.specs.Ways.{Point}
use Rattle.plans.specs.Measures.{Reach}
use Rattle.plans.specs.Plans.{Hub}
use Rattle.plans.specs.Searching.{Central}
use Rattle.plans.proofs.Loom.{tree_of, point_low, point_high}
use Rattle.plans.proofs.MeasuresAre.{reach_is}
use Rattle.plans.proofs.PlansAre.{reach_at, point_reach_is, point_reach_from, hub_from}

module _ {K : Type 0} {k : Figures K} (laws : Laws k) {size : ℕ} {state : ℕ → State K} (lawful : Lawful k size state) where
  -- two reaches of one point are the same
  reach_once : (t : ℕ) (r s : K) → Point state t → Reach k state t t r → Reach k state t t s → r ≡ s
  reach_once t r s p g h = reach_is laws lawful t t r p p g ∙ sym (reach_is laws lawful t t s p p h)

  -- the root alone
  pub central_start : (r : K) → Reach k state 1 1 r → Central k state 2 (record { first = 1; last = 1; figure = r })
  central_start r is =
      let root : Point state 1 = (tree_of lawful).root in
      record {
        first_point = root;
        last_point = root;
        ordered = omega arith;
        below = omega arith;
        first_reach = is;
        last_reach = is;
        least = λ t s l p h.
            let one : t ≡ 1 = omega (arith, point_low lawful t p) in
            let e : s ≡ r = reach_once 1 s r root (rw one at h) is in
            (rw e (irrefl laws r), λ _. (omega (arith, one), omega (arith, one)));
      }

  module _ (n : ℕ) (best : Plan K) (was : Central k state n best) where
    -- a tag that is no point, or a point of a greater reach, changes nothing
    pub central_past : (Point state n → (r : K) → Reach k state n n r → Less k best.figure r) → Central k state (n + 1) best
    central_past more = record {
      first_point = was.first_point;
      last_point = was.last_point;
      ordered = was.ordered;
      below = omega (arith, was.below);
      first_reach = was.first_reach;
      last_reach = was.last_reach;
      least = λ t r l p h. elim (cases_eq t n) [
        | inl e ↦
            let m = more (rw e at p) r (rw e at h) in
            (asym laws m, λ level. absurd (both_ways (k.less best.figure r) (rw level (irrefl laws best.figure)) m))
        | inr o ↦ was.least t r (omega arith) p h
      ];
    }

    module _ (p : Point state n) (r : K) (is : Reach k state n n r) where
      -- a point of a smaller reach is the only one
      pub central_less : Less k r best.figure → Central k state (n + 1) (record { first = n; last = n; figure = r })
      central_less less = record {
        first_point = p;
        last_point = p;
        ordered = omega arith;
        below = omega arith;
        first_reach = is;
        last_reach = is;
        least = λ t s l q h. elim (cases_eq t n) [
          | inl e ↦
              let x : s ≡ r = reach_once n s r p (rw e at h) is in
              (rw x (irrefl laws r), λ _. (omega (arith, e), omega (arith, e)))
          | inr o ↦
              let m = lt_le_trans laws less (was.least t s (omega arith) q h).0 in
              (asym laws m, λ level. absurd (both_ways (k.less r s) (rw level (irrefl laws r)) m))
        ];
      }

      -- a point of the same reach is the last one
      pub central_level : best.figure ≡ r → Central k state (n + 1) (record { first = best.first; last = n; figure = best.figure })
      central_level level = record {
        first_point = was.first_point;
        last_point = p;
        ordered = omega (arith, was.ordered, was.below);
        below = omega arith;
        first_reach = was.first_reach;
        last_reach = rw level is;
        least = λ t s l q h. elim (cases_eq t n) [
          | inl e ↦
              let x : s ≡ r = reach_once n s r p (rw e at h) is in
              (rw (x, level) (irrefl laws r), λ _. (omega (arith, e, was.ordered, was.below), omega (arith, e)))
          | inr o ↦
              let m = was.least t s (omega arith) q h in
              (m.0, λ even. let w = m.1 even in (w.0, omega (arith, w.1, was.below)))
        ];
      }

  -- past the size these are the hub
  pub hub_of : (n : ℕ) (x : Plan K) → size < n → Central k state n x → Hub k state x.first x.last x.figure
  hub_of n x past was =
      let u = x.first in
      let v = x.last in
      let at : (t : ℕ) → Point state t → (AtMost k (reach_at lawful u) (reach_at lawful t)) × (reach_at lawful t ≡ reach_at lawful u → (u ≤ t) × (t ≤ v)) = λ t s.
      let m = was.least t (reach_at lawful t) (omega (arith, point_high lawful t s)) s (point_reach_from laws lawful t s) in
      (rw (← first) m.0, λ e. m.1 (e ∙ sym first)) in
      subst (Hub k state u v) (sym first)
      (hub_from laws lawful u v was.first_point was.last_point (λ t s. (at t s).0) (sym (point_reach_is laws lawful v x.figure was.last_point was.last_reach) ∙ first) was.ordered (λ t s e. (at t s).1 e))
    where
      first : x.figure ≡ reach_at lawful x.first
      first = point_reach_is laws lawful x.first x.figure was.first_point was.first_reach
