-- What the rows mean, as equations: the root, tags outside the table, and what a row says of its tag.
use Rattle.std.proofs.Common.{◌≡◌, ℕ, zero, suc, ◌-◌, ◌<◌, ◌≤◌, true, false, cond, ◌&&◌, ◌⊎◌, eqb, ltb, leb, List, sym, refl, ap, ◌∙◌, inl, inr, arith}
use Rattle.std.proofs.lemmas.Bool.{cases_Bool, and_parts, and_from, and_left, and_right, leb-true, ltb-true, le-leb, lt-leb, ne_eqb, cond-true, cond-false}
use Rattle.lengths.specs.Figures.{Figures, Less}
use Rattle.books.specs.declared.states.Spur.{Spur}
use Rattle.books.specs.declared.states.State.{State}
use Rattle.books.specs.declared.states.State.TheVariants.{Blank, Struck, Standing}
use Rattle.books.specs.States.{stands, root_spur}
use Rattle.rows.specs.declared.row.Row.{Row}
use Rattle.rows.specs.Rows.{row_at, extent_of, fit, read, states, state_of}

-- what fits
pub record Fit {K : Type 0} (k : Figures K) (t : ℕ) (s : Spur K) : Type 0 where
  pub above : 1 ≤ s.parent
  pub smaller : s.parent < t
  pub run_some : Less k k.zero s.run
  pub run_entry : k.entry s.run ≡ true
  pub drop_entry : k.entry s.drop ≡ true

pub fit_parts : {K : Type 0} (k : Figures K) (t : ℕ) (s : Spur K) → fit k t s ≡ true → Fit k t s
fit_parts k t s h =
    let a = and_parts (leb 1 s.parent) _ h in
    let b = and_parts (ltb s.parent t) _ a.1 in
    let c = and_parts (k.less k.zero s.run) _ b.1 in
    let d = and_parts (k.entry s.run) (k.entry s.drop) c.1 in
    record { above = leb-true 1 s.parent a.0; smaller = ltb-true s.parent t b.0; run_some = c.0; run_entry = d.0; drop_entry = d.1 }

-- a row is read alike where the parent that it names has one state
pub read_alike : {K : Type 0} (k : Figures K) (t : ℕ) (f g : ℕ → State K) (x : State K) → ((p : ℕ) → 1 ≤ p → p < t → f p ≡ g p) → read k t f x ≡ read k t g x
unfolding read
read_alike k t f g Blank h = refl
read_alike k t f g Struck h = refl
read_alike {K} k t f g (Standing s) h =
    elim (cases_Bool (fit k t s)) [
      | inl y ↦ let a = fit_parts k t s y in ap (λ (x : State K). cond (fit k t s && stands x) (Standing s) Struck) (h s.parent a.above a.smaller)
      | inr n ↦ cond-false _ _ _ (and_left (fit k t s) (stands (f s.parent)) n) ∙ sym (cond-false _ _ _ (and_left (fit k t s) (stands (g s.parent)) n))
    ]

module _ {K : Type 0} (k : Figures K) (rows : List (Row K)) where
  -- enough looks are enough
  enough : (f g t : ℕ) → 1 ≤ t → t ≤ f → t ≤ g → states k rows f t ≡ states k rows g t
  unfolding states
  enough zero g t low a b = absurd (omega arith)
  enough (suc f) zero t low a b = absurd (omega arith)
  enough (suc f) (suc g) t low a b =
      ap (λ (s : State K). cond (eqb t 1) (Standing (root_spur k)) (cond (leb 2 t && leb t (extent_of rows)) s Blank))
      (read_alike k t (states k rows f) (states k rows g) (row_at rows (t - 2)) (λ p up low'. enough f g p up (omega arith) (omega arith)))

  pub state_root : state_of k rows 1 ≡ Standing (root_spur k)
  unfolding state_of states
  state_root = refl

  pub state_none : state_of k rows 0 ≡ Blank
  unfolding state_of states
  state_none = refl

  pub state_beyond : (t : ℕ) → extent_of rows < t → state_of k rows t ≡ Blank
  unfolding state_of states
  state_beyond zero h = absurd (omega arith)
  state_beyond (suc n) h = rw (ne_eqb (suc n) 1 (λ e. omega arith), le-leb 2 (suc n) (omega arith), lt-leb (suc n) (extent_of rows) h)

  pub state_row : (t : ℕ) → 2 ≤ t → t ≤ extent_of rows → state_of k rows t ≡ read k t (state_of k rows) (row_at rows (t - 2))
  unfolding state_of states
  state_row zero a b = absurd (omega arith)
  state_row (suc n) a b =
      rw (ne_eqb (suc n) 1 (λ e. omega arith), le-leb 2 (suc n) a, le-leb (suc n) (extent_of rows) b)
      (read_alike k (suc n) (states k rows n) (state_of k rows) (row_at rows (suc n - 2)) (λ p up low. enough n p p up (omega arith) (omega arith)))

  -- from what a row was found to say
  pub said : (t : ℕ) (s : State K) → 2 ≤ t → t ≤ extent_of rows → row_at rows (t - 2) ≡ s → read k t (state_of k rows) s ≡ state_of k rows t
  said t s a b e = ap (read k t (state_of k rows)) (sym e) ∙ sym (state_row t a b)

  pub state_low : (t : ℕ) → t < 2 → (t ≡ 1 → ⊥) → state_of k rows t ≡ Blank
  state_low t a n = ap (state_of k rows) (omega arith) ∙ state_none

  -- outside the root and the rows every tag is blank
  pub state_out : (t : ℕ) → (t ≡ 1 → ⊥) → (t < 2) ⊎ (extent_of rows < t) → state_of k rows t ≡ Blank
  state_out t n out = elim out [ inl low ↦ state_low t low n | inr beyond ↦ state_beyond t beyond ]

-- a row that says that its tag stands is believed, or not
pub read_stands : {K : Type 0} (k : Figures K) (t : ℕ) (up : ℕ → State K) (s : Spur K) → fit k t s ≡ true → stands (up s.parent) ≡ true → Standing s ≡ read k t up (Standing s)
unfolding read
read_stands k t up s a b = sym (cond-true _ _ _ (and_from _ _ a b))

pub read_unfit : {K : Type 0} (k : Figures K) (t : ℕ) (up : ℕ → State K) (s : Spur K) → fit k t s ≡ false → Struck ≡ read k t up (Standing s)
unfolding read
read_unfit k t up s a = sym (cond-false _ _ _ (and_left (fit k t s) (stands (up s.parent)) a))

pub read_fallen : {K : Type 0} (k : Figures K) (t : ℕ) (up : ℕ → State K) (s : Spur K) → stands (up s.parent) ≡ false → Struck ≡ read k t up (Standing s)
unfolding read
read_fallen k t up s a = sym (cond-false _ _ _ (and_right (fit k t s) (stands (up s.parent)) a))

pub read_blank : {K : Type 0} (k : Figures K) (t : ℕ) (up : ℕ → State K) → Blank ≡ read k t up Blank
unfolding read
read_blank k t up = refl

pub read_struck : {K : Type 0} (k : Figures K) (t : ℕ) (up : ℕ → State K) → Struck ≡ read k t up Struck
unfolding read
read_struck k t up = refl
