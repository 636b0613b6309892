-- One step of a way, over the run that joins two neighbours.
use Rattle.std.proofs.Common.{◌≡◌, ℕ, ◌<◌, ◌⊎◌, sym, refl, ap, ◌∙◌, inl, inr, arith}
use Rattle.std.proofs.lemmas.Bool.{both_ways, cases_eq}
use Rattle.lengths.specs.Figures.{Figures}
use Rattle.books.specs.declared.states.State.{State}
use Rattle.books.specs.States.{stands, Lawful}
use Rattle.trees.proofs.Trees.{Tree, Stands, Joined, side}
use Rattle.trees.proofs.Runs.{is_joined, joined_stands, joined_above, up_stands, up_lower}
use Rattle.trees.proofs.Sides.{side_self, side_above, side_past, nested}
use Rattle.plans.specs.Ways.{Joined as Linked, upward, downward}
use Rattle.plans.proofs.Loom.{point_low, tree_of}
use Rattle.plans.specs.Drawn.{parent_of, run_of}

-- `Over T a c run e`: the run e, of this length, joins a and c
pub record Over {K : Type 0} {k : Figures K} (T : Tree k) (a c : ℕ) (run : K) (e : ℕ) : Type 0 where
  pub is_run : Joined T e
  pub same_run : T.run e ≡ run
  pub ends : ((a ≡ e) × (c ≡ T.parent e)) ⊎ ((c ≡ e) × (a ≡ T.parent e))

module _ {K : Type 0} {k : Figures K} {size : ℕ} {state : ℕ → State K} (lawful : Lawful k size state) where
  -- neighbours are joined by a run of the tree
  pub over : {a c : ℕ} {run : K} → Linked state a c run → (e : ℕ) × Over (tree_of lawful) a c run e
  over {a} {c} {run} (upward n e p r) =
      let s : stands (state a) ≡ _ = ap stands e in (
        a,
        record {
          is_run = is_joined (tree_of lawful) s (omega (arith, point_low lawful a s));
          same_run = ap (run_of k) e ∙ sym r;
          ends = inl (refl, p ∙ sym (ap parent_of e));
        },
      )
  over {a} {c} {run} (downward n e p r) =
      let s : stands (state c) ≡ _ = ap stands e in (
        c,
        record {
          is_run = is_joined (tree_of lawful) s (omega (arith, point_low lawful c s));
          same_run = ap (run_of k) e ∙ sym r;
          ends = inr (refl, p ∙ sym (ap parent_of e));
        },
      )

module _ {K : Type 0} {k : Figures K} (T : Tree k) {a c : ℕ} {run : K} {e : ℕ} (o : Over T a c run e) where
  -- a step starts at a point
  pub step_from : Stands T a
  step_from = elim o.ends [
    | inl p ↦ ap T.stands p.0 ∙ joined_stands T o.is_run
    | inr p ↦ ap T.stands p.1 ∙ up_stands T o.is_run
  ]

  -- and leads to a point
  pub step_to : Stands T c
  step_to = elim o.ends [
    | inl p ↦ ap T.stands p.1 ∙ up_stands T o.is_run
    | inr p ↦ ap T.stands p.0 ∙ joined_stands T o.is_run
  ]

  -- the start of a step is an end of its run
  pub step_end : (a ≡ e) ⊎ (a ≡ T.parent e)
  step_end = elim o.ends [ inl p ↦ inl p.0 | inr p ↦ inr p.1 ]

  -- an end of the run of a step is one of its two points
  pub step_meets : {x : ℕ} → (x ≡ e) ⊎ (x ≡ T.parent e) → (x ≡ a) ⊎ (x ≡ c)
  step_meets (inl q) = elim o.ends [ inl p ↦ inl (q ∙ sym p.0) | inr p ↦ inr (q ∙ sym p.0) ]
  step_meets (inr q) = elim o.ends [ inl p ↦ inr (q ∙ sym p.1) | inr p ↦ inl (q ∙ sym p.1) ]

  -- the outer end of a run is on its outer side, and the other end is not
  lower : side T e (T.parent e) ≡ side T e e → ⊥
  lower same =
      both_ways (side T e (T.parent e)) (side_above T e (T.parent e) (up_lower T o.is_run))
      (same ∙ side_self T e (omega (arith, joined_above T o.is_run)))

  -- the run of a step has its two points on two sides
  pub step_parts : side T e a ≡ side T e c → ⊥
  step_parts same = elim o.ends [
    | inl p ↦ lower (sym (ap (side T e) p.1) ∙ sym same ∙ ap (side T e) p.0)
    | inr p ↦ lower (sym (ap (side T e) p.1) ∙ same ∙ ap (side T e) p.0)
  ]

  -- every other run has them on one side
  pub step_keeps : (f : ℕ) → Joined T f → (f ≡ e → ⊥) → side T f a ≡ side T f c
  step_keeps f d n =
      let past = side_past T f e (omega (arith, joined_above T d)) o.is_run n in
      elim o.ends [
        | inl p ↦ ap (side T f) p.0 ∙ past ∙ sym (ap (side T f) p.1)
        | inr p ↦ ap (side T f) p.1 ∙ sym past ∙ sym (ap (side T f) p.0)
      ]

module _ {K : Type 0} {k : Figures K} (T : Tree k) {a c d : ℕ} {r s : K} {e f : ℕ} (o : Over T a c r e) (q : Over T a d s f) where
  -- two steps from one point over one run lead to one point
  pub same_next : e ≡ f → c ≡ d
  same_next g = go o.ends q.ends
    where
      low : T.parent e < e
      low = up_lower T o.is_run

      up : T.parent e ≡ T.parent f
      up = ap T.parent g

      go :
          ((a ≡ e) × (c ≡ T.parent e)) ⊎ ((c ≡ e) × (a ≡ T.parent e)) → ((a ≡ f) × (d ≡ T.parent f)) ⊎ ((d ≡ f) × (a ≡ T.parent f)) →
          c ≡ d
      go (inl p) (inl t) = p.1 ∙ up ∙ sym t.1
      go (inl p) (inr t) = absurd (omega (arith, low, up, g, p.0, t.1))
      go (inr p) (inl t) = absurd (omega (arith, low, up, g, p.1, t.0))
      go (inr p) (inr t) = p.0 ∙ g ∙ sym t.0

  -- and are as long
  pub same_length : e ≡ f → r ≡ s
  same_length g = sym o.same_run ∙ ap T.run g ∙ q.same_run

  -- two steps from one point, each to the side that the point b is on, go over one run
  pub same_step : {b : ℕ} → Stands T b → side T e c ≡ side T e b → side T f d ≡ side T f b → e ≡ f
  same_step {b} t here there = elim (cases_eq e f) [ inl g ↦ g | inr n ↦ absurd (other n) ]
    where
      other : (e ≡ f → ⊥) → ⊥
      other n = step_parts T q (first ∙ cross ∙ sym there)
        where
          first : side T f a ≡ side T f c
          first = step_keeps T o f q.is_run (λ g. n (sym g))

          second : side T e a ≡ side T e d
          second = step_keeps T q e o.is_run n

          apart : side T e f ≡ side T e c → ⊥
          apart g = elim q.ends [
            | inl p ↦ step_parts T o (ap (side T e) p.0 ∙ g)
            | inr p ↦ step_parts T o (second ∙ ap (side T e) p.0 ∙ g)
          ]

          cross : side T f c ≡ side T f b
          cross =
              nested T f e (omega (arith, joined_above T q.is_run)) (omega (arith, joined_above T o.is_run)) c b (step_to T o) t here apart
