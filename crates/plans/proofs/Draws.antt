-- Reading a tree out of a book, one tag after another.
use Rattle.std.proofs.Common.{◌≡◌, ℕ, ◌+◌, ◌-◌, ◌<◌, ◌≤◌, false, cond, eqb, Result, sym, refl, ap, ◌∙◌, inl, inr, arith}
use Rattle.std.specs.Result.{result_unwrap_or}
use Rattle.std.proofs.lemmas.Bool.{cases_Bool, cases_eq, cases_lt, le-ltb}
use Rattle.std.proofs.lemmas.Bool.Decides.{nat_tests}
use Rattle.lengths.specs.Figures.{Figures}
use Rattle.books.specs.declared.states.State.{State}
use Rattle.books.specs.declared.states.State.TheVariants.{Blank, Struck, Standing}
use Rattle.books.specs.declared.causes.Refused.{Refused}
use Rattle.books.specs.Causes.{answered, first_cause, look_causes}
use Rattle.books.specs.States.{stands, Lawful}
use Rattle.plans.specs.Drawn.{parent_of, Shows, Falling}
use Rattle.plans.proofs.Loom.{tied_as}

module _ {K : Type 0} where
  -- the tags before n are read as they are in the book, and the others are blank
  abbrev pub Read_to : (ℕ → State K) → (ℕ → State K) → ℕ → Type 0
  Read_to state read n =
      ((t : ℕ) → 1 ≤ t → t < n → read t ≡ state t) × ((t : ℕ) → 1 ≤ t → n ≤ t → t ≤ 256 → read t ≡ Blank)

  -- what does not stand has no parent
  pub parent_none : (s : State K) → stands s ≡ false → parent_of s ≡ 0
  parent_none Blank f = refl
  parent_none Struck f = refl
  parent_none (Standing s) f = cc

module _ {K : Type 0} {k : Figures K} {size : ℕ} {state : ℕ → State K} (lawful : Lawful k size state) where
  -- a tag from 1 to the size is answered with its state
  looked : (tag : ℕ) (answer : Result (State K) Refused) (x : State K) → 1 ≤ tag → tag ≤ size
      → answer ≡ answered tag (state tag) (first_cause (look_causes size tag)) → x ≡ result_unwrap_or answer Blank → x ≡ state tag
  looked tag answer x low high is taken =
      rw (taken, is, le-ltb tag 1 low, le-ltb size tag high)

  -- one tag more is read
  pub read_more : (before after : ℕ → State K) (tag : ℕ) (answer : Result (State K) Refused) (x : State K) → 1 ≤ tag → tag ≤ size
      → answer ≡ answered tag (state tag) (first_cause (look_causes size tag)) → x ≡ result_unwrap_or answer Blank
      → ((i : ℕ) → i < 256 → tag - 1 < 256 → after i ≡ cond (eqb (tag - 1) i) x (before i))
      → Read_to state (λ t. before (t - 1)) tag → Read_to state (λ t. after (t - 1)) (tag + 1)
  read_more before after tag answer x low high is taken put was = (
    λ t a b.
        let p = put (t - 1) (omega (arith, lawful.most)) (omega (arith, lawful.most)) in
        let q = looked tag answer x low high is taken in
        let r = was.0 t a in
        grind (arith, nat_tests),
    λ t a b c.
        let p = put (t - 1) (omega arith) (omega (arith, lawful.most)) in
        let r = was.1 t a (omega arith) c in
        grind (arith, nat_tests),
  )

  -- all is read once the size is passed, for beyond it a book is blank
  pub all_read : (read : ℕ → State K) (n : ℕ) → size < n → Read_to state read n → Shows state read
  all_read read n past was t low high = elim (cases_lt t n) [
    | inl l ↦ was.0 t low l
    | inr l ↦ was.1 t low (omega arith) high ∙ sym (lawful.beyond t (omega arith))
  ]

  -- in a book every parent is smaller than its tag
  falls : (t : ℕ) → 1 ≤ t → parent_of (state t) < t
  falls t low = elim (cases_eq t 1) [
    | inl e ↦ omega (arith, ap (λ (u : ℕ). parent_of (state u)) e ∙ ap parent_of lawful.root)
    | inr n ↦ elim (cases_Bool (stands (state t))) [
      | inl s ↦ (tied_as lawful t s n).smaller
      | inr f ↦ omega (arith, parent_none (state t) f)
    ]
  ]

  -- and so in what was read out of it
  pub shows_falling : (read : ℕ → State K) → Shows state read → Falling read
  shows_falling read shows t low high = omega (arith, ap parent_of (shows t low high), falls t low)
