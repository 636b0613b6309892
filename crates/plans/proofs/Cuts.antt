-- What a step from a to c, towards the point b, does to the runs that part a from b: it takes away the run of the step.
use Rattle.std.proofs.Common.{◌≡◌, ℕ, ◌||◌, eqb, sym, ◌∙◌, ap₂, inl, inr, arith}
use Rattle.std.proofs.lemmas.Bool.{cases_eq, eq-eqb, ne_eqb}
use Rattle.lengths.specs.Figures.{Figures, Laws}
use Rattle.trees.proofs.Trees.{Tree, Stands, Joined, side, parted, distance, Between}
use Rattle.trees.proofs.TwoSides.{differ_none, differ_of, stable, both_apart}
use Rattle.trees.proofs.Runs.{joined_above}
use Rattle.trees.proofs.Sides.{nested, known_by_sides}
use Rattle.trees.proofs.Selected.{none_selected, same_selected, one_besides}
use Rattle.trees.proofs.Distances.{distance_by_cuts}
use Rattle.plans.proofs.Steps.{Over, step_from, step_to, step_parts, step_keeps}

-- the distance of a point from itself is zero
pub distance_none : {K : Type 0} {k : Figures K} → Laws k → (T : Tree k) (b : ℕ) → Stands T b → distance T b b ≡ k.zero
distance_none laws T b s = distance_by_cuts laws T b b s s ∙ none_selected laws T (parted T b b) (λ e _. differ_none (side T e b))

module _
    {K : Type 0} {k : Figures K} (T : Tree k) {a c : ℕ} {run : K} {e : ℕ} (o : Over T a c run e)
    (b : ℕ) (t : Stands T b) (beyond : side T e c ≡ side T e b)
  where
    -- the run of the step parts a from b
    here_parts : side T e a ≡ side T e b → ⊥
    here_parts same = step_parts T o (same ∙ sym beyond)

    -- the runs that part a from b are the run of the step and those that part c from b
    step_cuts : (f : ℕ) → Joined T f → parted T a b f ≡ (eqb e f || parted T c b f)
    step_cuts f d = elim (cases_eq e f) [
      | inl g ↦ rw (eq-eqb e f g) (differ_of (side T f a) (side T f b) (rw g at here_parts))
      | inr n ↦ rw (ne_eqb e f n, step_keeps T o f d (λ g. n (sym g)))
    ]

    -- the distance from a is the run of the step and the distance from c
    pub step_distance : Laws k → distance T a b ≡ k.sum run (distance T c b)
    step_distance laws =
        distance_by_cuts laws T a b (step_from T o) t
        ∙ same_selected laws T (parted T a b) (λ f. eqb e f || parted T c b f) step_cuts
        ∙ one_besides laws T (parted T c b) e o.is_run (rw beyond (differ_none (side T e b)))
        ∙ ap₂ k.sum o.same_run (sym (distance_by_cuts laws T c b (step_to T o) t))

    -- what is on the way from c is on the way from a
    pub between_before : (w : ℕ) → Between T w c b → Between T w a b
    between_before w h f d same = elim (cases_eq f e) [
      | inl g ↦ absurd (here_parts (rw g at same))
      | inr n ↦ let q = step_keeps T o f d n in h f d (sym q ∙ same) ∙ sym q
    ]

    -- what is on the way from a, on a's side of the run of the step, is a
    only_start : (w : ℕ) → Stands T w → Between T w a b → side T e w ≡ side T e a → w ≡ a
    only_start w s h near = known_by_sides T w a s (step_from T o) (λ f d. elim (cases_eq f e) [
      | inl g ↦ rw g near
      | inr n ↦ stable (side T f w) (side T f a) (λ apart. apart (sym (together f d n apart)))
    ])
      where
        together : (f : ℕ) → Joined T f → (f ≡ e → ⊥) → (side T f w ≡ side T f a → ⊥) → side T f a ≡ side T f w
        together f d n apart =
            nested T f e (omega (arith, joined_above T d)) (omega (arith, joined_above T o.is_run)) a w (step_from T o) s (sym near) (λ g.
            apart (h f d (step_keeps T o f d n
            ∙ nested T f e (omega (arith, joined_above T d)) (omega (arith, joined_above T o.is_run)) c b (step_to T o) t beyond (λ p.
            step_parts T o (sym g ∙ p)))))

    -- what is on the way from a and is not a is on the way from c
    pub between_after : (w : ℕ) → Stands T w → (w ≡ a → ⊥) → Between T w a b → Between T w c b
    between_after w s other h f d same = elim (cases_eq f e) [
      | inl g ↦ rw g (both_apart (side T e w) (side T e c) (side T e a) (λ near. other (only_start w s h near)) (λ p. step_parts T o (sym p)))
      | inr n ↦ let q = step_keeps T o f d n in h f d (q ∙ same) ∙ q
    ]
