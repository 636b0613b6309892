-- One tag of the pass to the root.
use Rattle.std.proofs.Common.{◌≡◌, ℕ, suc, ◌-◌, ◌<◌, ◌≤◌, Bool, true, false, ◌&&◌, ltb, List, length, get_or, set, drop, refl, sym, ap, ◌∙◌, subst, inl, inr, arith}
use Rattle.std.proofs.lemmas.List.{length-set, drop-set-lt, get_or-set_same, get_or-set_other}
use Rattle.std.proofs.lemmas.Bool.{cases_eq, and_parts, and_from, both_ways}
use Rattle.lengths.specs.Figures.{Figures, Laws}
use Rattle.books.specs.declared.states.State.{State}
use Rattle.trees.proofs.Trees.{Tree, Stands, Joined, side, selected}
use Rattle.trees.proofs.Runs.{is_joined}
use Rattle.trees.proofs.Sides.{by_parent, side_up, side_low}
use Rattle.trees.proofs.Passes.{common_step, common_skip, common_none}
use Rattle.plans.specs.declared.sides.Sides.{Sides}
use Rattle.plans.specs.Drawn.{run_of}
use Rattle.plans.specs.Passing.{Given}

module _ {K : Type 0} {k : Figures K} (T : Tree k) where
  -- what is met on the way up from a point stands
  met_stands : (e : ℕ) → 1 ≤ e → (x : ℕ) → Stands T x → side T e x ≡ true → Stands T e
  met_stands e low = by_parent T (λ x. side T e x ≡ true → Stands T e) step
    where
      step : (y : ℕ) → Stands T y → (1 < y → side T e (T.parent y) ≡ true → Stands T e) → side T e y ≡ true → Stands T e
      step y s up h = elim (cases_eq e y) [
        | inl q ↦ ap T.stands q ∙ s
        | inr n ↦ let l : e < y = omega (arith, side_low T e y h) in up (omega arith) (sym (side_up T e y low s l) ∙ h)
      ]

  met_joined : (e : ℕ) → 2 ≤ e → (x : ℕ) → Stands T x → side T e x ≡ true → Joined T e
  met_joined e low x s h = is_joined T (met_stands e (omega arith) x s h) (omega arith)

  -- the common runs beyond a tag
  abbrev pub beyond_of : ℕ → ℕ → ℕ → K
  beyond_of a b n = selected T (λ e. (side T e a && side T e b) && ltb n e)

module _
    {K : Type 0} {k : Figures K} (laws : Laws k) {T : Tree k} {a b size : ℕ} {read : ℕ → State K} {sides : Sides}
    (given : Given T a b size read sides) (tag : ℕ) (low : 1 ≤ tag) (high : tag ≤ size)
  where
    -- whether both ways up meet the tag
    abbrev pub Met : Bool → Type 0
    Met met = met ≡ (get_or sides.first tag false && get_or sides.last tag false)

    sides_as : {met : Bool} → Met met → met ≡ (side T tag a && side T tag b)
    sides_as is = rw (← given.first_met tag low high, ← given.last_met tag low high) is

    -- where both meet it, its run is added to what is beyond it
    met_beyond : Met true → 1 ≤ tag - 1 → k.sum (run_of k (read tag)) (beyond_of T a b tag) ≡ beyond_of T a b (tag - 1)
    met_beyond is h =
        let p = and_parts (side T tag a) (side T tag b) (sym (sides_as is)) in
        let j = met_joined T tag (omega arith) a given.first_stands p.0 in
        let up : suc (tag - 1) ≡ tag = omega arith in
        rw (← given.run tag j)
        (sym (subst (λ (n : ℕ). Joined T n → side T n a ≡ true → side T n b ≡ true → beyond_of T a b (tag - 1) ≡ k.sum (T.run n) (beyond_of T a b n)) up (common_step laws T (tag - 1) a b) j p.0 p.1))

    -- elsewhere nothing is
    past_beyond : Met false → beyond_of T a b tag ≡ beyond_of T a b (tag - 1)
    past_beyond is =
        let up : suc (tag - 1) ≡ tag = omega arith in
        sym (subst (λ (m : ℕ). (Joined T m → (side T m a && side T m b) ≡ false) → beyond_of T a b (tag - 1) ≡ beyond_of T a b m) up (common_skip laws T (tag - 1) a b) (λ j. sym (sides_as is)))

    module _
        (memory : List K) (long : size ≤ length memory)
        (old : (t : ℕ) → tag < t → t ≤ size → side T t a ≡ true → side T t b ≡ true → get_or memory (t - 1) k.zero ≡ beyond_of T a b t)
        (t : ℕ) (l : tag - 1 < t) (h : t ≤ size) (p : side T t a ≡ true) (q : side T t b ≡ true)
      where
        -- where both meet it, what is beyond it is put down
        met_memory : get_or (set memory (tag - 1) (beyond_of T a b tag)) (t - 1) k.zero ≡ beyond_of T a b t
        met_memory = elim (cases_eq t tag) [
          | inl e ↦ rw e (get_or-set_same memory (tag - 1) (beyond_of T a b tag) k.zero (omega arith))
          | inr n ↦ get_or-set_other memory (tag - 1) (t - 1) (beyond_of T a b tag) k.zero (λ e. omega arith) ∙ old t (omega arith) h p q
        ]

        -- elsewhere nothing is
        past_memory : Met false → get_or memory (t - 1) k.zero ≡ beyond_of T a b t
        past_memory is = elim (cases_eq t tag) [
          | inl e ↦ absurd (both_ways (side T tag a && side T tag b) (sym (sides_as is)) (and_from (side T tag a) (side T tag b) (rw e at p) (rw e at q)))
          | inr n ↦ old t (omega arith) h p q
        ]

module _ {K : Type 0} (k : Figures K) (size : ℕ) (read : ℕ → State K) (sides : Sides) (first : List K) where
  -- on the way down, from the memory that was lent to this one and what is beyond the tag n: the tags after n have theirs
  abbrev pub Passed_to : List K → K → ℕ → Type 0
  Passed_to memory beyond n =
      (length memory ≡ length first) × (drop size memory ≡ drop size first)
      × ((T : Tree k) (a b : ℕ) → Given T a b size read sides
      → (1 ≤ n → beyond ≡ beyond_of T a b n)
      × ((t : ℕ) → n < t → t ≤ size → side T t a ≡ true → side T t b ≡ true → get_or memory (t - 1) k.zero ≡ beyond_of T a b t))

module _ {K : Type 0} {k : Figures K} (laws : Laws k) (size : ℕ) (read : ℕ → State K) (sides : Sides) (first : List K) where
  -- at first nothing is beyond the size
  pub down_start : (beyond : K) → beyond ≡ k.zero → Passed_to k size read sides first first beyond size
  down_start beyond e = (
    refl,
    refl,
    λ T a b given. (
      λ low. e ∙ sym (common_none laws T size a b (omega (arith, given.high))),
      λ t l h p q. absurd (omega arith),
    ),
  )

  module _
      (memory : List K) (beyond : K) (tag : ℕ) (was : Passed_to k size read sides first memory beyond tag) (long : size ≤ length first)
      (low : 1 ≤ tag) (high : tag ≤ size) (memory' : List K) (beyond' : K)
    where
      -- a tag that both ways up meet
      pub down_met : memory' ≡ set memory (tag - 1) beyond → beyond' ≡ k.sum (run_of k (read tag)) beyond
          → true ≡ (get_or sides.first tag false && get_or sides.last tag false) → Passed_to k size read sides first memory' beyond' (tag - 1)
      down_met written added is = (
        ap length written ∙ length-set memory (tag - 1) beyond ∙ was.0,
        ap (drop size) written ∙ drop-set-lt size memory (tag - 1) beyond (omega arith) ∙ was.1,
        λ T a b given.
            let here = (was.2 T a b given).0 low in (
              λ more. added ∙ ap (k.sum (run_of k (read tag))) here ∙ met_beyond laws given tag low high is more,
              λ t l h p q. rw (written, here)
                  (met_memory laws given tag low high memory (omega (arith, was.0)) (was.2 T a b given).1 t l h p q),
            ),
      )

      -- and one that they do not
      pub down_past : memory' ≡ memory → beyond' ≡ beyond
          → false ≡ (get_or sides.first tag false && get_or sides.last tag false) → Passed_to k size read sides first memory' beyond' (tag - 1)
      down_past written added is = (
        ap length written ∙ was.0,
        ap (drop size) written ∙ was.1,
        λ T a b given. (
          λ more. added ∙ (was.2 T a b given).0 low ∙ past_beyond laws given tag low high is,
          λ t l h p q. rw written
              (past_memory laws given tag low high memory (omega (arith, was.0)) (was.2 T a b given).1 t l h p q is),
        ),
      )
