-- Sums of selected runs.
use Rattle.std.proofs.Common.{◌≡◌, ℕ, zero, suc, ◌-◌, ◌<◌, ◌≤◌, Bool, true, false, ◌&&◌, ◌||◌, eqb, ltb, ◌⊎◌, sym, refl, ◌∙◌, ap₂, inl, inr, arith}
use Rattle.std.proofs.lemmas.Bool.{both_ways, and_parts, eqb-true, eq-eqb, ne_eqb, lt-ltb, le-ltb, cases_lt, cases_order, and_right, or_cases, false_from_ne_true}
use Rattle.lengths.specs.Figures.{Figures, Laws, Sum, none, both, Less, AtMost}
use Rattle.lengths.specs.Order.{irrefl, same, sum_more, lt_le_trans, neutral_left}
use Rattle.trees.proofs.Trees.{Tree, joined, Joined, selected_below, selected}
use Rattle.trees.proofs.Adding.{swap_four, sum_le, grows}
use Rattle.trees.proofs.Runs.{joined_low, run_one, run_above_zero, pick, pick_sum, pick_none, pick_le, pick_or}

module _ {F : Type 0} {k : Figures F} (T : Tree k) where
  -- the run n, or zero if it is not selected or there is none
  taken : (φ : ℕ → Bool) (n : ℕ) → Sum k 1 (pick k (joined T n && φ n) (T.run n))
  taken φ n = pick_sum k (joined T n) (φ n) (T.run n) (λ h. run_one T h)

  -- the runs below n that are selected are at most n entries
  pub selected_below_sum : (φ : ℕ → Bool) (n : ℕ) → Sum k n (selected_below T φ n)
  unfolding selected_below
  selected_below_sum φ zero = none
  selected_below_sum φ (suc n) = both (omega arith) (selected_below_sum φ n) (taken φ n)

  -- no run is below 2
  low_taken : (φ : ℕ → Bool) (n : ℕ) → n < 2 → Sum k 0 (pick k (joined T n && φ n) (T.run n))
  unfolding joined
  low_taken φ n h = rw (le-ltb 1 n (omega arith)) none

  -- so the runs below n that are selected are at most two entries fewer than n
  pub selected_below_few : (φ : ℕ → Bool) (n : ℕ) → Sum k (n - 2) (selected_below T φ n)
  unfolding selected_below
  selected_below_few φ zero = none
  selected_below_few φ (suc n) = elim (cases_lt n 2) [
    | inl l ↦ both (omega arith) (sum_more {m = n - 2} {n = 0} (omega arith) (selected_below_few φ n)) (low_taken φ n l)
    | inr l ↦ both (omega arith) (selected_below_few φ n) (taken φ n)
  ]

  -- all runs that are selected are at most 255 entries
  pub selected_few : (φ : ℕ → Bool) → Sum k 255 (selected T φ)
  unfolding selected
  selected_few φ = sum_more (omega (arith, T.few)) (selected_below_few φ T.high)

  -- and so at most 257
  pub selected_sum : (φ : ℕ → Bool) → Sum k 257 (selected T φ)
  selected_sum φ = sum_more (omega arith) (selected_few φ)

module _ {F : Type 0} {k : Figures F} (laws : Laws k) (T : Tree k) where
  -- `more_selected`, of the runs below n
  below_le :
      (φ ψ : ℕ → Bool) → ((e : ℕ) → Joined T e → φ e ≡ true → ψ e ≡ true) →
      (n : ℕ) → n ≤ 257 → AtMost k (selected_below T φ n) (selected_below T ψ n)
  unfolding selected_below
  below_le φ ψ h zero r = irrefl laws k.zero
  below_le φ ψ h (suc n) r =
      sum_le laws n 1 (omega arith) (selected_below_sum T φ n) (taken T φ n) (selected_below_sum T ψ n) (taken T ψ n)
      (below_le φ ψ h n (omega arith)) (pick_le laws (joined T n) (φ n) (ψ n) (T.run n) (h n))

  -- `apart_selected`, of the runs below n
  below_or :
      (φ ψ : ℕ → Bool) → ((e : ℕ) → Joined T e → (φ e && ψ e) ≡ false) →
      (n : ℕ) → n ≤ 257 → selected_below T (λ e. φ e || ψ e) n ≡ k.sum (selected_below T φ n) (selected_below T ψ n)
  unfolding selected_below
  below_or φ ψ h zero r = sym (laws.neutral 1 (omega arith) none)
  below_or φ ψ h (suc n) r =
      let old = below_or φ ψ h n (omega arith) in
      let new = pick_or laws (joined T n) (φ n) (ψ n) (T.run n) (λ d. run_one T d) (h n) in
      ap₂ k.sum old new
      ∙ swap_four laws n 1 (omega arith) (selected_below_sum T φ n) (selected_below_sum T ψ n) (taken T φ n) (taken T ψ n)

  -- `none_selected`, of the runs below n
  below_none : (φ : ℕ → Bool) → ((e : ℕ) → Joined T e → φ e ≡ false) → (n : ℕ) → selected_below T φ n ≡ k.zero
  unfolding selected_below
  below_none φ h zero = refl
  below_none φ h (suc n) =
      ap₂ k.sum (below_none φ h n) (pick_none k (joined T n) (φ n) (T.run n) (h n)) ∙ laws.neutral 1 (omega arith) none

  -- one tag further, of the run g alone
  one_more :
      (g : ℕ) → Joined T g → (n : ℕ) → selected_below T (eqb g) n ≡ pick k (ltb g n) (T.run g) →
      selected_below T (eqb g) (suc n) ≡ pick k (ltb g (suc n)) (T.run g)
  unfolding selected_below
  one_more g h n old = go (cases_order g n)
    where
      go :
          (g ≡ n) ⊎ ((g < n) ⊎ (n < g)) →
          k.sum (selected_below T (eqb g) n) (pick k (joined T n && eqb g n) (T.run n)) ≡ pick k (ltb g (suc n)) (T.run g)
      go (inl e) =
          let h' : Joined T n = rw e at h in
          rw (old, e, h', eq-eqb n n refl, le-ltb n n (omega arith), lt-ltb n (suc n) (omega arith))
          (neutral_left laws 1 (omega arith) (run_one T h'))
      go (inr (inl l)) =
          let no_one : (joined T n && eqb g n) ≡ false = and_right (joined T n) (eqb g n) (ne_eqb g n (omega arith)) in
          rw (old, no_one, lt-ltb g n l, lt-ltb g (suc n) (omega arith)) (laws.neutral 1 (omega arith) (run_one T h))
      go (inr (inr l)) =
          let no_one : (joined T n && eqb g n) ≡ false = and_right (joined T n) (eqb g n) (ne_eqb g n (omega arith)) in
          rw (old, no_one, le-ltb g n (omega arith), le-ltb g (suc n) (omega arith)) (laws.neutral 1 (omega arith) none)

  -- `one_selected`, of the runs below n
  below_one : (g : ℕ) → Joined T g → (n : ℕ) → selected_below T (eqb g) n ≡ pick k (ltb g n) (T.run g)
  unfolding selected_below
  below_one g h zero = rw (le-ltb g 0 (omega arith))
  below_one g h (suc n) = one_more g h n (below_one g h n)

  -- no run selected: zero
  pub none_selected : (φ : ℕ → Bool) → ((e : ℕ) → Joined T e → φ e ≡ false) → selected T φ ≡ k.zero
  unfolding selected
  none_selected φ h = below_none φ h T.high

  -- one run selected: this run
  pub one_selected : (g : ℕ) → Joined T g → selected T (eqb g) ≡ T.run g
  unfolding selected
  one_selected g h = rw (below_one g h T.high, lt-ltb g T.high (joined_low T h))

  -- where ψ selects every run that φ selects, the runs of φ come to at most those of ψ
  pub more_selected : (φ ψ : ℕ → Bool) → ((e : ℕ) → Joined T e → φ e ≡ true → ψ e ≡ true) → AtMost k (selected T φ) (selected T ψ)
  unfolding selected
  more_selected φ ψ h = below_le φ ψ h T.high T.few

  -- where φ and ψ select no run both, the runs that one of them selects come to the sum of the two
  pub apart_selected :
      (φ ψ : ℕ → Bool) → ((e : ℕ) → Joined T e → (φ e && ψ e) ≡ false) → selected T (λ e. φ e || ψ e) ≡ k.sum (selected T φ) (selected T ψ)
  unfolding selected
  apart_selected φ ψ h = below_or φ ψ h T.high T.few

  -- the same runs selected come to the same
  pub same_selected : (φ ψ : ℕ → Bool) → ((e : ℕ) → Joined T e → φ e ≡ ψ e) → selected T φ ≡ selected T ψ
  same_selected φ ψ h = same laws (more_selected ψ φ (λ e d p. h e d ∙ p)) (more_selected φ ψ (λ e d p. sym (h e d) ∙ p))

  -- the runs of φ, and the run g besides, come to the run g and the runs of φ
  pub one_besides : (φ : ℕ → Bool) (g : ℕ) → Joined T g → φ g ≡ false → selected T (λ e. eqb g e || φ e) ≡ k.sum (T.run g) (selected T φ)
  one_besides φ g h out = rw (apart_selected (eqb g) φ apart, one_selected g h)
    where
      apart : (e : ℕ) → Joined T e → (eqb g e && φ e) ≡ false
      apart e d =
          false_from_ne_true (eqb g e && φ e) (λ t. let p = and_parts (eqb g e) (φ e) t in both_ways (φ e) (rw (eqb-true g e p.0) at out) p.1)

  -- where ψ selects every run that φ selects and one run more, the runs of φ come to less than those of ψ
  pub one_more_selected :
      (φ ψ : ℕ → Bool) → ((e : ℕ) → Joined T e → φ e ≡ true → ψ e ≡ true) →
      (e : ℕ) → Joined T e → φ e ≡ false → ψ e ≡ true → Less k (selected T φ) (selected T ψ)
  one_more_selected φ ψ h g d out got =
      lt_le_trans laws
      (rw (one_besides φ g d out) (grows laws 1 257 (omega arith) (run_one T d) (selected_sum T φ) (run_above_zero T d)))
      (more_selected (λ e. eqb g e || φ e) ψ within)
    where
      within : (e : ℕ) → Joined T e → (eqb g e || φ e) ≡ true → ψ e ≡ true
      within e b t = go (or_cases (eqb g e) (φ e) t)
        where
          go : (eqb g e ≡ true) ⊎ (φ e ≡ true) → ψ e ≡ true
          go (inl p) = rw (eqb-true g e p) at got
          go (inr p) = h e b p
