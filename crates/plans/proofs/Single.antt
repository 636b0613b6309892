-- A hub, a spine and a trunk are each the only one.
use Rattle.std.proofs.Common.{◌≡◌, ℕ, ◌≤◌, ◌⊎◌, Bool, true, false, sym, refl, ◌∙◌, subst, inl, inr, arith}
use Rattle.std.proofs.lemmas.Bool.{both_ways, cases_eq}
use Rattle.lengths.specs.Figures.{Figures, Laws}
use Rattle.lengths.specs.Order.{irrefl, asym, same}
use Rattle.books.specs.declared.states.State.{State}
use Rattle.books.specs.States.{Lawful}
use Rattle.trees.proofs.Trees.{Tree, Stands, side, Between}
use Rattle.trees.proofs.TwoSides.{both_apart}
use Rattle.trees.proofs.Runs.{joined_above}
use Rattle.trees.proofs.Sides.{nested}
use Rattle.trees.proofs.Centers.{parting}
use Rattle.trees.proofs.Ways.{way_by_cuts}
use Rattle.plans.specs.Ways.{Point}
use Rattle.plans.specs.Measures.{On as Lies, Reach, Total}
use Rattle.plans.specs.Plans.{Hub, Spine, Trunk, Before, by_length, by_first, by_last}
use Rattle.plans.proofs.Loom.{tree_of}
use Rattle.plans.proofs.WaysOnce.{way_start, way_end}
use Rattle.plans.proofs.WaysThere.{way_there}
use Rattle.plans.proofs.MeasuresAre.{on_is}

-- two pairs in order, of which each number is one of the other pair
ends : (a b u v : ℕ) → a ≤ b → u ≤ v → (a ≡ u) ⊎ (a ≡ v) → (b ≡ u) ⊎ (b ≡ v) → (u ≡ a) ⊎ (u ≡ b) → (v ≡ a) ⊎ (v ≡ b) → (u ≡ a) × (v ≡ b)
ends a b u v l m (inl p) (inl q) (inl r) (inl s) = (omega arith, omega arith)
ends a b u v l m (inl p) (inl q) (inl r) (inr s) = (omega arith, omega arith)
ends a b u v l m (inl p) (inl q) (inr r) (inl s) = (omega arith, omega arith)
ends a b u v l m (inl p) (inl q) (inr r) (inr s) = (omega arith, omega arith)
ends a b u v l m (inl p) (inr q) (inl r) (inl s) = (omega arith, omega arith)
ends a b u v l m (inl p) (inr q) (inl r) (inr s) = (omega arith, omega arith)
ends a b u v l m (inl p) (inr q) (inr r) (inl s) = (omega arith, omega arith)
ends a b u v l m (inl p) (inr q) (inr r) (inr s) = (omega arith, omega arith)
ends a b u v l m (inr p) (inl q) (inl r) (inl s) = (omega arith, omega arith)
ends a b u v l m (inr p) (inl q) (inl r) (inr s) = (omega arith, omega arith)
ends a b u v l m (inr p) (inl q) (inr r) (inl s) = (omega arith, omega arith)
ends a b u v l m (inr p) (inl q) (inr r) (inr s) = (omega arith, omega arith)
ends a b u v l m (inr p) (inr q) (inl r) (inl s) = (omega arith, omega arith)
ends a b u v l m (inr p) (inr q) (inl r) (inr s) = (omega arith, omega arith)
ends a b u v l m (inr p) (inr q) (inr r) (inl s) = (omega arith, omega arith)
ends a b u v l m (inr p) (inr q) (inr r) (inr s) = (omega arith, omega arith)

module _ {K : Type 0} {k : Figures K} (laws : Laws k) where
  -- of two paths that each come before the other, by the ties, the ends are the same
  before_both : {l m : K} {a b c d : ℕ} → Before k l a b m c d → Before k m c d l a b → (c ≡ a) × (d ≡ b)
  before_both {l} {m} (by_length h) (by_length g) = absurd (both_ways (k.less m l) (asym laws h) g)
  before_both {l} {m} (by_length h) (by_first e g) = absurd (both_ways (k.less l m) (rw e (irrefl laws l)) h)
  before_both {l} {m} (by_length h) (by_last e f g) = absurd (both_ways (k.less l m) (rw e (irrefl laws l)) h)
  before_both {l} {m} (by_first e h) (by_length g) = absurd (both_ways (k.less m l) (rw e (irrefl laws m)) g)
  before_both (by_first e h) (by_first f g) = absurd (omega arith)
  before_both (by_first e h) (by_last f g i) = absurd (omega arith)
  before_both {l} {m} (by_last e f h) (by_length g) = absurd (both_ways (k.less m l) (rw e (irrefl laws m)) g)
  before_both (by_last e f h) (by_first g i) = absurd (omega arith)
  before_both (by_last e f h) (by_last g i j) = (sym f, omega arith)

module _ {K : Type 0} {k : Figures K} (laws : Laws k) {state : ℕ → State K} where
  hub_order : {a b : ℕ} {r : K} → Hub k state a b r → a ≤ b
  hub_order h = elim h.together [ inl e ↦ omega arith | inr l ↦ omega (arith, l.0) ]

  -- two hubs are the same
  pub hub_once : {a b u v : ℕ} {r s : K} → Hub k state a b r → Hub k state u v s → (u ≡ a) × (v ≡ b) × (s ≡ r)
  hub_once {a} {b} {u} {v} {r} {s} h i =
      let e : s ≡ r = same laws (h.least u s i.first_point i.first_reach) (i.least a r h.first_point h.first_reach) in
      let p = ends a b u v (hub_order h) (hub_order i)
      (i.all a h.first_point (subst (Reach k state a a) (sym e) h.first_reach))
      (i.all b h.last_point (subst (Reach k state b b) (sym e) h.last_reach))
      (h.all u i.first_point (subst (Reach k state u u) e i.first_reach))
      (h.all v i.last_point (subst (Reach k state v v) e i.last_reach)) in
      (p.0, p.1, e)

  -- two trunks for one limit are the same
  pub trunk_once : {size : ℕ} {limit : K} {a b u v : ℕ} {s t : K} → Trunk k size state limit a b s → Trunk k size state limit u v t → (u ≡ a) × (v ≡ b) × (t ≡ s)
  trunk_once {size} {limit} {a} {b} {u} {v} {s} {t} h i =
      let e : t ≡ s = same laws (h.least u v i.length t i.first_point i.last_point i.long i.within i.total) (i.least a b h.length s h.first_point h.last_point h.long h.within h.total) in
      let p = before_both laws
      (h.ties u v i.length i.first_point i.last_point i.ordered i.long i.within (subst (Total k state u v size) e i.total))
      (i.ties a b h.length h.first_point h.last_point h.ordered h.long h.within (subst (Total k state a b size) (sym e) h.total)) in
      (p.0, p.1, e)

-- one of two that differ
one_of : (s t x : Bool) → (s ≡ t → ⊥) → (x ≡ s) ⊎ (x ≡ t)
one_of true true x n = absurd (n refl)
one_of true false true n = inl refl
one_of true false false n = inr refl
one_of false true true n = inr refl
one_of false true false n = inl refl
one_of false false x n = absurd (n refl)

module _ {K : Type 0} {k : Figures K} (T : Tree k) (a b u v : ℕ) (sa : Stands T a) (sb : Stands T b) (su : Stands T u) (sv : Stands T v)
    (A : Between T a u v) (U : Between T u a b) (V : Between T v a b)
  where
    -- two paths that each have the other's ends have the same ends: else two runs would cross
    end_of : (a ≡ u) ⊎ (a ≡ v)
    end_of = elim (cases_eq a u) [ inl p ↦ inl p | inr n ↦ elim (cases_eq a v) [ inl q ↦ inr q | inr m ↦ absurd (crossing n m) ] ]
      where
        crossing : (a ≡ u → ⊥) → (a ≡ v → ⊥) → ⊥
        crossing n m =
            let (e, je, ne) = parting T a u sa su n in
            let (f, jf, nf) = parting T a v sa sv m in
            let uv_e : side T e u ≡ side T e v → ⊥ = λ q. ne (A e je q) in
            let av_e : side T e a ≡ side T e v = both_apart (side T e a) (side T e v) (side T e u) ne (λ q. uv_e (sym q)) in
            let ab_e : side T e a ≡ side T e b → ⊥ = λ q. ne (sym (U e je q)) in
            let uv_f : side T f u ≡ side T f v → ⊥ = λ q. nf (A f jf q ∙ q) in
            let au_f : side T f a ≡ side T f u = both_apart (side T f a) (side T f u) (side T f v) nf uv_f in
            let ab_f : side T f a ≡ side T f b → ⊥ = λ q. nf (sym (V f jf q)) in
            let bv_f : side T f b ≡ side T f v = both_apart (side T f b) (side T f v) (side T f a) (λ q. ab_f (sym q)) (λ q. nf (sym q)) in
            elim (one_of (side T f u) (side T f v) (side T f e) uv_f) [
              | inl p ↦
                  ab_e (av_e ∙ nested T e f (omega (arith, joined_above T je)) (omega (arith, joined_above T jf)) v b sv sb (sym bv_f) (λ q. uv_f (sym p ∙ q)))
              | inr p ↦
                  ne (sym (nested T e f (omega (arith, joined_above T je)) (omega (arith, joined_above T jf)) u a su sa (sym au_f) (λ q. uv_f (sym q ∙ p))))
            ]

module _ {K : Type 0} {k : Figures K} (laws : Laws k) {size : ℕ} {state : ℕ → State K} (lawful : Lawful k size state) where
  -- a path has its ends
  has_first : (a b : ℕ) → Point state a → Point state b → Lies k state a b a
  has_first a b p q = let (ps, (l, w)) = way_there lawful a b p q in (ps, (l, (w, way_start w refl)))

  has_last : (a b : ℕ) → Point state a → Point state b → Lies k state a b b
  has_last a b p q = let (ps, (l, w)) = way_there lawful a b p q in (ps, (l, (w, way_end w)))

  -- a point of a path is between its ends
  between : (a b w : ℕ) → Point state a → Point state b → Point state w → Lies k state a b w → Between (tree_of lawful) w a b
  between a b w p q s on = (way_by_cuts (tree_of lawful) w a b s p q).0 (on_is lawful a b w on)

  -- two spines are the same
  pub spine_once : {a b u v : ℕ} {r s : K} → Spine k state a b r → Spine k state u v s → (u ≡ a) × (v ≡ b) × (s ≡ r)
  spine_once {a} {b} {u} {v} {r} {s} h i =
      let sa = h.first_point in
      let sb = h.last_point in
      let su = i.first_point in
      let sv = i.last_point in
      let e : s ≡ r = same laws (h.least u v s su sv i.reach) (i.least a b r sa sb h.reach) in
      let first = h.contained u v su sv (subst (Reach k state u v) e i.reach) in
      let second = i.contained a b sa sb (subst (Reach k state a b) (sym e) h.reach) in
      let A = between u v a su sv sa (first a (has_first a b sa sb)) in
      let B = between u v b su sv sb (first b (has_last a b sa sb)) in
      let U = between a b u sa sb su (second u (has_first u v su sv)) in
      let V = between a b v sa sb sv (second v (has_last u v su sv)) in
      let T = tree_of lawful in
      let turned : (w x y : ℕ) → Between T w x y → Between T w y x = λ w x y c f d q. c f d (sym q) ∙ sym q in
      let p = ends a b u v h.ordered i.ordered (end_of T a b u v sa sb su sv A U V) (end_of T b a u v sb sa su sv B (turned u a b U) (turned v a b V))
      (end_of T u v a b su sv sa sb U A B) (end_of T v u a b sv su sa sb V (turned a u v A) (turned b u v B)) in
      (p.0, p.1, e)
