-- Going up from a tag, one parent at a time.
use Rattle.std.proofs.Common.{◌≡◌, ℕ, zero, suc, ◌<◌, ◌≤◌, Bool, true, false, ◌&&◌, ◌||◌, eqb, ltb, List, length, get_or, set, replicate, refl, ◌∙◌, inl, inr, arith}
use Rattle.std.proofs.lemmas.List.{length-set, get_or-replicate, get_or-set_same, get_or-set_other}
use Rattle.std.proofs.Math.Bool.{and-false, or-true, or-false}
use Rattle.std.proofs.lemmas.Bool.{cases_Bool, cases_eq, eq-eqb, ne_eqb, eqb-true, lt-ltb, ltb-true, or_cases, and_parts}
use Rattle.trees.proofs.Trees.{side_by}
use Rattle.trees.proofs.Sides.{side_none, enough}

module _ (P : ℕ → ℕ) (falls : (t : ℕ) → 1 ≤ t → t ≤ 256 → P t < t) (t : ℕ) (low : 1 ≤ t) where
  -- among the numbers up to 256 each step up leads to a smaller one
  lower : (x : ℕ) → x ≤ 256 → 1 < x → (P x ≤ 256) × (P x < x)
  lower x h l = let f = falls x (omega arith) h in (omega arith, f)

  -- what is met is not above
  side_low : (f x : ℕ) → x ≤ 256 → side_by P f t x ≡ true → t ≤ x
  unfolding side_by
  side_low zero x h e = cc
  side_low (suc f) x h e = elim (or_cases (eqb t x) (ltb t x && side_by P f t (P x)) e) [
    | inl y ↦ omega (arith, eqb-true t x y)
    | inr y ↦ omega (arith, ltb-true t x (and_parts (ltb t x) (side_by P f t (P x)) y).0)
  ]

  -- one step up
  pub side_up : (x : ℕ) → 1 ≤ x → x ≤ 256 → side_by P x t x ≡ (eqb t x || side_by P (P x) t (P x))
  unfolding side_by
  side_up zero a b = absurd (omega arith)
  side_up (suc x) a b =
      let f = falls (suc x) a b in
      let e = enough P (λ n. n ≤ 256) lower t low x (P (suc x)) (P (suc x)) (omega arith) (omega arith) (omega arith) in
      elim (cases_Bool (side_by P (P (suc x)) t (P (suc x)))) [
        | inl y ↦ rw (e, y, lt-ltb t (suc x) (omega (arith, side_low (P (suc x)) (P (suc x)) (omega arith) y)))
        | inr n ↦ rw (e, n, and-false)
      ]

module _ (P : ℕ → ℕ) (from : ℕ) where
  -- on the climb to `at`, what is met from the tag `from` on was met, or is to be met from `at` on
  abbrev pub Climbed : List Bool → ℕ → Type 0
  Climbed met at =
      (length met ≡ 257) × (at ≤ 256)
      × ((t : ℕ) → 1 ≤ t → t ≤ 256 → (get_or met t false || side_by P at t at) ≡ side_by P from t from)

  -- at first nothing was met
  pub climb_start : from ≤ 256 → Climbed (replicate 257 false) from
  climb_start h = (refl, h, λ t low high. rw (get_or-replicate 257 t false false (omega arith)))

  module _ (falls : (t : ℕ) → 1 ≤ t → t ≤ 256 → P t < t) (met : List Bool) (at : ℕ) (was : Climbed met at) where
    -- one tag more was met
    pub climb_more : 1 ≤ at → (next : ℕ) → next ≡ P at → Climbed (set met at true) next
    climb_more pos next is = (length-set met at true ∙ was.0, omega (arith, falls at pos was.1, was.1), each)
      where
        each : (t : ℕ) → 1 ≤ t → t ≤ 256 → (get_or (set met at true) t false || side_by P next t next) ≡ side_by P from t from
        each t low high =
            let up = side_up P falls t low at pos was.1 in
            let old = was.2 t low high in
            elim (cases_eq t at) [
              | inl e ↦
                  let here : get_or (set met at true) t false ≡ true = rw e (get_or-set_same met at true false (omega (arith, was.0, was.1))) in
                  rw here (rw (up, eq-eqb t at e, or-true) at old)
              | inr n ↦ rw (get_or-set_other met at t true false n, is) (rw (up, ne_eqb t at n) at old)
            ]

    -- at the top nothing is left to meet
    pub climb_end : at ≤ 0 → (t : ℕ) → 1 ≤ t → t ≤ 256 → get_or met t false ≡ side_by P from t from
    climb_end top t low high =
        let zero_at : at ≡ 0 = omega arith in
        rw (zero_at, side_none P (λ n. n ≤ 256) (lower P falls t low) t low 0, or-false) at (was.2 t low high)
