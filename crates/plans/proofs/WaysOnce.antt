-- There is at most one way between two points.
use Rattle.std.proofs.Common.{◌≡◌, ℕ, ◌⊎◌, List, ◌∷◌, refl, ◌∙◌, ap₂, inl, inr}
use Rattle.std.proofs.lemmas.Bool.{cases_eq}
use Rattle.lengths.specs.Figures.{Figures}
use Rattle.books.specs.declared.states.State.{State}
use Rattle.books.specs.States.{Lawful}
use Rattle.books.specs.Edits.{Among, here, there}
use Rattle.trees.proofs.Trees.{Joined, side}
use Rattle.plans.specs.Ways.{Point, Joined as Linked, Way, alone, onward}
use Rattle.plans.proofs.Loom.{tree_of}
use Rattle.plans.proofs.Steps.{Over, over, step_from, step_end, step_meets, step_keeps, same_next, same_length, same_step}

module _ {K : Type 0} {k : Figures K} {state : ℕ → State K} {b : ℕ} where
  -- a way has its start
  pub way_start : {a x : ℕ} {ps : List ℕ} {l : K} → Way k state b a ps l → x ≡ a → Among x ps
  way_start (alone p) e = here e
  way_start (onward j n w) e = here e

  -- and its end
  pub way_end : {a : ℕ} {ps : List ℕ} {l : K} → Way k state b a ps l → Among b ps
  way_end (alone p) = here refl
  way_end (onward j n w) = there (way_end w)

  -- a way ends at a point
  pub end_stands : {a : ℕ} {ps : List ℕ} {l : K} → Way k state b a ps l → Point state b
  end_stands (alone p) = p
  end_stands (onward j n w) = end_stands w

module _ {K : Type 0} {k : Figures K} {size : ℕ} {state : ℕ → State K} (lawful : Lawful k size state) {b : ℕ} where
  -- every point of a way stands
  pub way_stands : {a w : ℕ} {ps : List ℕ} {l : K} → Way k state b a ps l → Among w ps → Point state w
  way_stands (alone p) (here e) = rw e p
  way_stands (alone p) (there m) = elim m [ ]
  way_stands (onward j n v) (here e) = rw e (step_from (tree_of lawful) (over lawful j).1)
  way_stands (onward j n v) (there m) = way_stands v m

  -- a way that does not come to the end x of the run e stays on one side of this run
  pub way_keeps :
      {a : ℕ} {ps : List ℕ} {l : K} (e x : ℕ) → Joined (tree_of lawful) e → (x ≡ e) ⊎ (x ≡ (tree_of lawful).parent e) →
      Way k state b a ps l → (Among x ps → ⊥) → side (tree_of lawful) e a ≡ side (tree_of lawful) e b
  way_keeps e x d end (alone p) out = refl
  way_keeps e x d end (onward {a} {c} {ps} {run} {length} j n w) out =
      pass (over lawful j).0 (over lawful j).1 ∙ way_keeps e x d end w (λ m. out (there m))
    where
      pass : (f : ℕ) → Over (tree_of lawful) a c run f → side (tree_of lawful) e a ≡ side (tree_of lawful) e c
      pass f o = elim (cases_eq e f) [
        | inl g ↦ elim (step_meets (tree_of lawful) o (rw g at end)) [
          | inl q ↦ absurd (out (here q))
          | inr q ↦ absurd (out (there (way_start w q)))
        ]
        | inr m ↦ step_keeps (tree_of lawful) o e d m
      ]

  -- a way that goes on from a over the run e ends on the side of e that its second point is on
  pub way_beyond :
      {a c : ℕ} {ps : List ℕ} {run l : K} {e : ℕ} → Over (tree_of lawful) a c run e → (Among a ps → ⊥) → Way k state b c ps l →
      side (tree_of lawful) e c ≡ side (tree_of lawful) e b
  way_beyond {a = a} {e = e} o n w = way_keeps e a o.is_run (step_end (tree_of lawful) o) w n

  -- two ways that go on from one point to one point go on to the same point, over runs that are as long
  next :
      {a u c d : ℕ} {ps qs : List ℕ} {r s l m : K} → a ≡ u → Linked state a c r → (Among a ps → ⊥) → Way k state b c ps l →
      Linked state u d s → (Among u qs → ⊥) → Way k state b d qs m → (c ≡ d) × (r ≡ s)
  next {d = d} {qs = qs} {s = s} e i n w j x v =
      let (f, o) = over lawful i in
      let (g, q) = over lawful (rw (← e) at j) in
      let h =
      same_step (tree_of lawful) o q (end_stands w) (way_beyond o n w) (way_beyond q (λ y. x (rw e at y)) v)
      in
      (same_next (tree_of lawful) o q h, same_length (tree_of lawful) o q h)

  -- two ways from one point to one point are the same
  once :
      {a d : ℕ} {ps qs : List ℕ} {l m : K} → a ≡ d → Way k state b a ps l → Way k state b d qs m → (ps ≡ qs) × (l ≡ m)
  once e (alone p) (alone q) = (refl, refl)
  once e (alone p) (onward {ps = qs} i n w) = absurd (n (rw e at (way_end w)))
  once e (onward {ps = ps} i n w) (alone q) = absurd (n (rw (← e) at (way_end w)))
  once e (onward i n w) (onward j x v) =
      let g = next e i n w j x v in
      let t = once g.0 w v in
      (ap₂ ◌∷◌ e t.0, ap₂ k.sum g.1 t.1)

  -- there is at most one way from a to b, and it has one length
  pub way_once : {a : ℕ} {ps qs : List ℕ} {l m : K} → Way k state b a ps l → Way k state b a qs m → (ps ≡ qs) × (l ≡ m)
  way_once v w = once refl v w
