-- Two ways that no run has on different sides, and the distances to them.
use Rattle.std.proofs.Common.{◌≡◌, ℕ, zero, suc, ◌<◌, Bool, true, false, not, ◌&&◌, ◌⊎◌, sym, ◌∙◌, inl, inr, ⊎_elim, arith}
use Rattle.std.proofs.lemmas.Bool.{both_ways, cases_Bool, cases_eq, and_parts, not-true, true_from_ne_false}
use Rattle.lengths.specs.Figures.{Figures, Laws, Less}
use Rattle.trees.proofs.Trees.{Tree, Stands, joined, Joined, side, off, selected}
use Rattle.trees.proofs.TwoSides.{stable, both_apart, off_parts, off_from}
use Rattle.trees.proofs.Runs.{joined_above, joined_low, up_lower}
use Rattle.trees.proofs.Selected.{one_more_selected}
use Rattle.trees.proofs.Sides.{side_self, side_above, nested}

-- one of the tags below n passes the test, or none does
find : (χ : ℕ → Bool) (n : ℕ) → ((e : ℕ) × (χ e ≡ true)) ⊎ ((e : ℕ) → e < n → χ e ≡ false)
find χ zero = inr (λ e h. absurd (omega arith))
find χ (suc n) = go (cases_Bool (χ n)) (find χ n)
  where
    go :
        (χ n ≡ true) ⊎ (χ n ≡ false) → ((e : ℕ) × (χ e ≡ true)) ⊎ ((e : ℕ) → e < n → χ e ≡ false) →
        ((e : ℕ) × (χ e ≡ true)) ⊎ ((e : ℕ) → e < suc n → χ e ≡ false)
    go (inl t) rest = inl (n, t)
    go (inr f) (inl t) = inl t
    go (inr f) (inr all) = inr (λ e h. ⊎_elim (λ p. rw p f) (λ m. all e (omega (arith, m))) (cases_eq e n))

module _ {F : Type 0} {k : Figures F} (T : Tree k) where
  -- φ selects a run that ψ does not
  abbrev pub Outside : (ℕ → Bool) → (ℕ → Bool) → Type 0
  Outside φ ψ = (e : ℕ) × Joined T e × (φ e ≡ true) × (ψ e ≡ false)

  -- ψ selects every run that φ selects
  abbrev pub Inside : (ℕ → Bool) → (ℕ → Bool) → Type 0
  Inside φ ψ = (e : ℕ) → Joined T e → φ e ≡ true → ψ e ≡ true

  -- one of the two is so
  pub inside_or_not : (φ ψ : ℕ → Bool) → Outside φ ψ ⊎ Inside φ ψ
  inside_or_not φ ψ = go (find test T.high)
    where
      test : ℕ → Bool
      test e = joined T e && (φ e && not (ψ e))

      go : ((e : ℕ) × (test e ≡ true)) ⊎ ((e : ℕ) → e < T.high → test e ≡ false) → Outside φ ψ ⊎ Inside φ ψ
      go (inl (e, t)) =
          let p = and_parts (joined T e) (φ e && not (ψ e)) t in
          let q = and_parts (φ e) (not (ψ e)) p.1 in
          inl (e, p.0, q.0, not-true (ψ e) q.1)
      go (inr h) = inr (λ e d t. true_from_ne_false (ψ e) (λ f. both_ways (joined T e && (φ e && not (ψ e))) (h e (joined_low T d)) (rw (d, t, f))))

  -- no run has the way between a and b wholly on one side and the way between c and d wholly on the other
  abbrev pub Meet : ℕ → ℕ → ℕ → ℕ → Type 0
  Meet a b c d = (e : ℕ) → Joined T e → side T e a ≡ side T e b → side T e c ≡ side T e d → side T e a ≡ side T e c

  -- of the distances from y to two ways that meet, one counts every run that the other counts
  pub one_farther :
      (a b c d y : ℕ) → Stands T a → Stands T b → Stands T c → Stands T d → Stands T y → Meet a b c d →
      (e : ℕ) → Joined T e → off T y a b e ≡ true → off T y c d e ≡ false → Inside (off T y c d) (off T y a b)
  one_farther a b c d y sa sb sc sd sy meet e h on miss f g on' = true_from_ne_false (off T y a b f) never
    where
      at_e : (side T e a ≡ side T e b) × (side T e y ≡ side T e a → ⊥)
      at_e = off_parts (side T e a) (side T e b) (side T e y) on

      at_f : (side T f c ≡ side T f d) × (side T f y ≡ side T f c → ⊥)
      at_f = off_parts (side T f c) (side T f d) (side T f y) on'

      part : (x z : ℕ) → Stands T x → Stands T z → side T f x ≡ side T f z → (side T f e ≡ side T f x → ⊥) → side T e x ≡ side T e z
      part x z s t = nested T e f (omega (arith, joined_above T h)) (omega (arith, joined_above T g)) x z s t

      cd_crossed : side T e c ≡ side T e d → ⊥
      cd_crossed p =
          both_ways (off T y c d e) miss
          (off_from (side T e c) (side T e d) (side T e y) p (λ q. at_e.1 (q ∙ sym (meet e h at_e.0 p))))

      with_c : side T f e ≡ side T f c
      with_c = stable (side T f e) (side T f c) (λ n. cd_crossed (part c d sc sd at_f.0 n))

      e_off : side T f e ≡ side T f y → ⊥
      e_off p = at_f.1 (sym p ∙ with_c)

      together : side T f a ≡ side T f b
      together =
          both_apart (side T f a) (side T f b) (side T f y)
          (λ p. at_e.1 (part y a sy sa (sym p) e_off)) (λ p. at_e.1 (part y b sy sb (sym p) e_off ∙ sym at_e.0))

      never : off T y a b f ≡ false → ⊥
      never n =
          both_ways (off T y a b f) n
          (off_from (side T f a) (side T f b) (side T f y) together (λ q. at_f.1 (q ∙ meet f g together at_f.0)))

-- a way wholly on the other side of the run e is farther from y than the two ends of this run
pub beyond :
    {F : Type 0} {k : Figures F} (laws : Laws k) (T : Tree k) (e y c d : ℕ) → Joined T e → Stands T y → Stands T c → Stands T d →
    side T e c ≡ side T e d → (side T e y ≡ side T e c → ⊥) →
    Less k (selected T (off T y (T.parent e) e)) (selected T (off T y c d))
beyond laws T e y c d h s t u same apart =
    one_more_selected laws T (off T y (T.parent e) e) (off T y c d) inside e h
    (rw (side_above T e (T.parent e) (up_lower T h), side_self T e (omega (arith, joined_above T h))))
    (off_from (side T e c) (side T e d) (side T e y) same apart)
  where
    inside : (f : ℕ) → Joined T f → off T y (T.parent e) e f ≡ true → off T y c d f ≡ true
    inside f g on =
        off_from (side T f c) (side T f d) (side T f y)
        (both_apart (side T f c) (side T f d) (side T f y) c_far (far d u (λ q. apart (q ∙ sym same)))) (λ q. c_far (sym q))
      where
        ends : (side T f (T.parent e) ≡ side T f e) × (side T f y ≡ side T f (T.parent e) → ⊥)
        ends = off_parts (side T f (T.parent e)) (side T f e) (side T f y) on

        away : side T f e ≡ side T f y → ⊥
        away q = ends.1 (sym (ends.0 ∙ q))

        far : (z : ℕ) → Stands T z → (side T e y ≡ side T e z → ⊥) → side T f z ≡ side T f y → ⊥
        far z v n q = n (nested T e f (omega (arith, joined_above T h)) (omega (arith, joined_above T g)) y z s v (sym q) away)

        c_far : side T f c ≡ side T f y → ⊥
        c_far = far c t apart
