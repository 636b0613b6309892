-- There is a way between any two points; its length is their distance, and its points are those on the way between them.
use Rattle.std.proofs.Common.{◌≡◌, ℕ, ◌⊎◌, List, [], ◌∷◌, sym, refl, ap, ◌∙◌, subst, inl, inr, arith}
use Rattle.std.proofs.lemmas.Bool.{cases_eq}
use Rattle.lengths.specs.Figures.{Figures, Laws}
use Rattle.books.specs.declared.states.State.{State}
use Rattle.books.specs.States.{Lawful}
use Rattle.books.specs.Edits.{Among, here, there}
use Rattle.trees.proofs.Trees.{distance, side, On, Between}
use Rattle.trees.proofs.Sides.{known_by_sides, by_parent}
use Rattle.trees.proofs.Ways.{way_by_cuts, on_stands}
use Rattle.plans.specs.Ways.{Point, Joined as Linked, upward, downward, Way, alone, onward}
use Rattle.plans.proofs.Loom.{tree_of, point_low, state_as}
use Rattle.plans.proofs.Steps.{over}
use Rattle.plans.proofs.Cuts.{distance_none, step_distance, between_before, between_after}
use Rattle.plans.proofs.WaysOnce.{way_start, end_stands, way_stands, way_beyond}

module _ {K : Type 0} {k : Figures K} {size : ℕ} {state : ℕ → State K} (lawful : Lawful k size state) {b : ℕ} where
  -- the length of a way is the distance of its ends
  pub way_length : Laws k → {a : ℕ} {ps : List ℕ} {l : K} → Way k state b a ps l → l ≡ distance (tree_of lawful) a b
  way_length laws (alone p) = sym (distance_none laws (tree_of lawful) b p)
  way_length laws (onward {run = run} j n w) =
      let (e, o) = over lawful j in
      ap (k.sum run) (way_length laws w) ∙ sym (step_distance (tree_of lawful) o b (end_stands w) (way_beyond lawful o n w) laws)

  -- no run parts a point of a way from both of its ends
  among_between : {a w : ℕ} {ps : List ℕ} {l : K} → Way k state b a ps l → Among w ps → Between (tree_of lawful) w a b
  among_between (alone p) (here q) = λ e d same. ap (side (tree_of lawful) e) q
  among_between (alone p) (there m) = elim m [ ]
  among_between (onward j n v) (here q) = λ e d same. ap (side (tree_of lawful) e) q
  among_between {w = w} (onward j n v) (there m) =
      let (e, o) = over lawful j in
      between_before (tree_of lawful) o b (end_stands v) (way_beyond lawful o n v) w (among_between v m)

  -- a point that no run parts from both ends of a way is one of its points
  between_among :
      (w : ℕ) → Point state w → {a : ℕ} {ps : List ℕ} {l : K} → Way k state b a ps l → Between (tree_of lawful) w a b → Among w ps
  between_among w s (alone p) h = here (known_by_sides (tree_of lawful) w b s p (λ e d. h e d refl))
  between_among w s (onward {a = a} j n v) h = elim (cases_eq w a) [
    | inl q ↦ here q
    | inr m ↦
        let (e, o) = over lawful j in
        there (between_among w s v (between_after (tree_of lawful) o b (end_stands v) (way_beyond lawful o n v) w s m h))
  ]

  -- the points of a way are on the way that the tree computes
  pub among_on : {a w : ℕ} {ps : List ℕ} {l : K} → Way k state b a ps l → Among w ps → On (tree_of lawful) w a b
  among_on {a} {w} v m =
      (way_by_cuts (tree_of lawful) w a b (way_stands lawful v m) (way_stands lawful v (way_start v refl)) (end_stands v)).1 (among_between v m)

  -- and what is on that way is one of them
  pub on_among : {a : ℕ} (w : ℕ) {ps : List ℕ} {l : K} → Way k state b a ps l → On (tree_of lawful) w a b → Among w ps
  on_among {a} w v h =
      let s = way_stands lawful v (way_start v refl) in
      let u = on_stands (tree_of lawful) w a b s (end_stands v) h in
      between_among w u v ((way_by_cuts (tree_of lawful) w a b u s (end_stands v)).0 h)

-- what is neither the first of a list nor among the others is not among all
neither : {x y : ℕ} {ps : List ℕ} → (x ≡ y → ⊥) → (Among x ps → ⊥) → Among x (y ∷ ps) → ⊥
neither n o (here e) = n e
neither n o (there m) = o m

-- a number is among those of a list, or it is not
pub cases_among : (x : ℕ) (ps : List ℕ) → Among x ps ⊎ (Among x ps → ⊥)
cases_among x [] = inr (λ m. elim m [ ])
cases_among x (y ∷ ps) = elim (cases_eq x y) [
  | inl e ↦ inl (here e)
  | inr n ↦ elim (cases_among x ps) [ inl m ↦ inl (there m) | inr o ↦ inr (neither n o) ]
]

-- there is a way from a to b
abbrev pub Some_way : {K : Type 0} → Figures K → (ℕ → State K) → ℕ → ℕ → Type 0
Some_way {K} k state b a = (ps : List ℕ) × ((l : K) × Way k state b a ps l)

module _ {K : Type 0} {k : Figures K} {state : ℕ → State K} {b : ℕ} where
  -- what is left of a way from one of its points on is a way
  rest : {a x : ℕ} {ps : List ℕ} {l : K} → Way k state b a ps l → Among x ps → Some_way k state b x
  rest (alone p) (here e) = subst (Some_way k state b) (sym e) (b ∷ [], (k.zero, alone p))
  rest (alone p) (there m) = elim m [ ]
  rest (onward {a} {c} {ps} {run} {length} j n w) (here e) =
      subst (Some_way k state b) (sym e) (a ∷ ps, (k.sum run length, onward j n w))
  rest (onward j n w) (there m) = rest w m

  -- a way from a neighbour of a gives a way from a
  before : {a c : ℕ} {run : K} → Linked state a c run → Some_way k state b c → Some_way k state b a
  before {a} {c} {run} j s = elim (cases_among a s.0) [
    | inl m ↦ rest s.1.1 m
    | inr n ↦ (a ∷ s.0, (k.sum run s.1.0, onward j n s.1.1))
  ]

  -- a way from a to c and one from c to b give one from a to b
  through : {c a : ℕ} {ps : List ℕ} {l : K} → Way k state c a ps l → Some_way k state b c → Some_way k state b a
  through (alone p) s = s
  through (onward j n w) s = before j (through w s)

module _ {K : Type 0} {k : Figures K} {size : ℕ} {state : ℕ → State K} (lawful : Lawful k size state) where
  -- there is a way from every point to the root, and one from the root to every point
  root_ways : (y : ℕ) → Point state y → Some_way k state 1 y × Some_way k state y 1
  root_ways = by_parent (tree_of lawful) (λ y. Some_way k state 1 y × Some_way k state y 1) (λ y s up. elim (cases_eq y 1) [
    | inl e ↦
        rw e
        ((1 ∷ [], (k.zero, alone (tree_of lawful).root)), (1 ∷ [], (k.zero, alone (tree_of lawful).root)))
    | inr n ↦
        let t = up (omega (arith, point_low lawful y s)) in
        (before (upward n (state_as lawful y s) refl refl) t.0, through t.1.1.1 (before (downward n (state_as lawful y s) refl refl) (y ∷ [], (k.zero, alone s))))
  ])

  -- there is a way between any two points
  pub way_there : (a b : ℕ) → Point state a → Point state b → (ps : List ℕ) × ((l : K) × Way k state b a ps l)
  way_there a b p q = through (root_ways a p).0.1.1 (root_ways b q).1
