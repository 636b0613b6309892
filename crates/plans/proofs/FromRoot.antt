-- One tag of the pass from the root.
use Rattle.std.proofs.Common.{◌≡◌, ℕ, ◌+◌, ◌-◌, ◌<◌, ◌≤◌, Bool, true, false, ◌&&◌, ◌||◌, eqb, List, length, get_or, drop, sym, refl, ◌∙◌, inl, inr, arith}
use Rattle.std.proofs.lemmas.List.{get_or-set_same, get_or-set_other, length-set, drop-set-lt}
use Rattle.std.proofs.lemmas.Bool.{cases_Bool, cases_eq, and_parts, not-true, or_parts}
use Rattle.std.proofs.lemmas.Bool.Decides.{nat_tests}
use Rattle.lengths.specs.Figures.{Figures, Laws}
use Rattle.books.specs.declared.states.State.{State}
use Rattle.trees.proofs.Trees.{Tree, Stands, side, differ, nearest}
use Rattle.trees.proofs.Runs.{is_joined}
use Rattle.trees.proofs.Passes.{root_side, near_common, near_path, near_other}
use Rattle.plans.specs.declared.sides.Sides.{Sides}
use Rattle.plans.specs.Drawn.{parent_of, run_of}
use Rattle.plans.specs.Passing.{Given, Common, Near, up_to}
use Rattle.plans.proofs.ToRoot.{beyond_of}

module _ {K : Type 0} (k : Figures K) (memory : List K) (parent : ℕ) (one two : Bool) (tag : ℕ) (run : K) where
  -- the other places are left
  up_other : (i : ℕ) → (i ≡ tag - 1 → ⊥) → get_or (up_to k memory parent one two tag run) i k.zero ≡ get_or memory i k.zero
  up_other i n = grind (arith, nat_tests, get_or-set_other)

  -- nothing is lost, and what lies after the tags is left
  up_long : length (up_to k memory parent one two tag run) ≡ length memory
  up_long = grind (arith, nat_tests, length-set)

  up_rest : (size : ℕ) → tag - 1 < size → drop size (up_to k memory parent one two tag run) ≡ drop size memory
  up_rest size h = grind (arith, nat_tests, drop-set-lt)

-- two sides that are not both true, one of which is, differ
apart : (s t : Bool) → (s && t) ≡ false → (s || t) ≡ true → differ s t ≡ true
apart s t a b = grind arith

module _
    {K : Type 0} {k : Figures K} (laws : Laws k) {T : Tree k} {a b size : ℕ} {read : ℕ → State K} {sides : Sides}
    (given : Given T a b size read sides) (tag : ℕ) (low : 2 ≤ tag) (high : tag ≤ size)
  where
    up_here : Stands T tag → (memory : List K) → size ≤ length memory
        → (side T tag a ≡ true → side T tag b ≡ true → get_or memory (tag - 1) k.zero ≡ beyond_of T a b tag)
        → ((t : ℕ) → 1 ≤ t → t < tag → Stands T t → get_or memory (t - 1) k.zero ≡ nearest T t a b)
        → get_or (up_to k memory (parent_of (read tag)) (get_or sides.first tag false) (get_or sides.last tag false) tag (run_of k (read tag))) (tag - 1) k.zero ≡ nearest T tag a b
    up_here s memory long common before =
        let p = parent_of (read tag) in
        let o = get_or sides.first tag false in
        let w = get_or sides.last tag false in
        let run = run_of k (read tag) in
        let eo = given.first_met tag (omega arith) high in
        let ew = given.last_met tag (omega arith) high in
        let up : eqb p 0 ≡ false = not-true (eqb p 0) (sym (given.stands tag low high) ∙ s) in
        let j = is_joined T s (omega arith) in
        elim (cases_Bool (o && w)) [
          | inl y ↦
              let q = and_parts o w y in
              let here = sym eo ∙ q.0 in
              let there = sym ew ∙ q.1 in
              rw (up, y) (common here there ∙ sym (near_common laws T tag a b s given.first_stands given.last_stands here there))
          | inr n ↦ elim (cases_Bool (o || w)) [
            | inl y ↦
                rw (up, n, y, get_or-set_same memory (tag - 1) k.zero k.zero (omega arith))
                (sym (near_path laws T tag a b s given.first_stands given.last_stands (rw (← eo, ← ew) (apart o w n y))))
            | inr f ↦
                let q = or_parts o w f in
                let above = before (T.parent tag) (T.from_one _ (T.up_stands tag s low)) (T.up_lower tag s low) (T.up_stands tag s low) in
                rw (up, n, f, get_or-set_same memory (tag - 1) (k.sum (get_or memory (p - 1) k.zero) run) k.zero (omega arith), ← given.parent tag j, above, ← given.run tag j)
                (sym (near_other laws T tag a b s given.first_stands given.last_stands (sym eo ∙ q.0) (sym ew ∙ q.1)))
          ]
        ]

    -- after this tag, every point up to it has its distance
    up_more : (first memory : List K) → size ≤ length memory
        → ((t : ℕ) → tag ≤ t → t ≤ size → get_or memory (t - 1) k.zero ≡ get_or first (t - 1) k.zero)
        → Common T a b size first
        → ((t : ℕ) → 1 ≤ t → t < tag → Stands T t → get_or memory (t - 1) k.zero ≡ nearest T t a b)
        → (t : ℕ) → 1 ≤ t → t < tag + 1 → Stands T t
        → get_or (up_to k memory (parent_of (read tag)) (get_or sides.first tag false) (get_or sides.last tag false) tag (run_of k (read tag))) (t - 1) k.zero ≡ nearest T t a b
    up_more first memory long kept put done t l less s =
        let p = parent_of (read tag) in
        let o = get_or sides.first tag false in
        let w = get_or sides.last tag false in
        let run = run_of k (read tag) in
        elim (cases_eq t tag) [
          | inl e ↦
              rw e (up_here (rw e at s) memory long (λ x y. kept tag (omega arith) (omega arith) ∙ put tag (omega arith) (omega arith) x y) done)
          | inr n ↦ up_other k memory p o w tag run (t - 1) (λ e. omega arith) ∙ done t l (omega arith) s
        ]

module _ {K : Type 0} (k : Figures K) (size : ℕ) (read : ℕ → State K) (sides : Sides) (first : List K) where
  -- on the pass from the root, from the memory that the pass to the root left to this one: the points before the tag n have their distances
  abbrev pub Raised_to : List K → ℕ → Type 0
  Raised_to memory n =
      (length memory ≡ length first) × (drop size memory ≡ drop size first)
      × ((t : ℕ) → n ≤ t → t ≤ size → get_or memory (t - 1) k.zero ≡ get_or first (t - 1) k.zero)
      × ((T : Tree k) (a b : ℕ) → Given T a b size read sides → Common T a b size first
      → (t : ℕ) → 1 ≤ t → t < n → Stands T t → get_or memory (t - 1) k.zero ≡ nearest T t a b)

module _ {K : Type 0} {k : Figures K} (laws : Laws k) (size : ℕ) (read : ℕ → State K) (sides : Sides) (first : List K) where
  -- at first the root has its own: both ways up meet it
  pub up_start : Raised_to k size read sides first first 2
  up_start = (
    refl,
    refl,
    λ t l h. refl,
    λ T a b given put t low less s.
        let e : t ≡ 1 = omega arith in
        let here = rw (← e) at (root_side T a given.first_stands) in
        let there = rw (← e) at (root_side T b given.last_stands) in
        put t low (omega (arith, T.to_high t s, given.high)) here there
        ∙ sym (near_common laws T t a b s given.first_stands given.last_stands here there),
  )

  -- one tag more
  pub up_step : (memory : List K) (tag : ℕ) (after : List K) → size ≤ length first → 2 ≤ tag → tag ≤ size
      → after ≡ up_to k memory (parent_of (read tag)) (get_or sides.first tag false) (get_or sides.last tag false) tag (run_of k (read tag))
      → Raised_to k size read sides first memory tag → Raised_to k size read sides first after (tag + 1)
  up_step memory tag after long low high written was =
      let p = parent_of (read tag) in
      let o = get_or sides.first tag false in
      let w = get_or sides.last tag false in
      let run = run_of k (read tag) in
      rw written (
        up_long k memory p o w tag run ∙ was.0,
        up_rest k memory p o w tag run size (omega arith) ∙ was.1,
        λ t l h. up_other k memory p o w tag run (t - 1) (λ e. omega arith) ∙ was.2 t (omega arith) h,
        λ T a b given put. up_more laws given tag low high first memory (omega (arith, was.0)) was.2 put (was.3 T a b given put),
      )

  -- past the size every point has its own
  pub up_end : (memory : List K) (n : ℕ) → size < n → Raised_to k size read sides first memory n
      → (T : Tree k) (a b : ℕ) → Given T a b size read sides → Common T a b size first → Near T a b memory
  up_end memory n past was T a b given put t s = was.3 T a b given put t (T.from_one t s) (omega (arith, T.to_high t s, given.high)) s
