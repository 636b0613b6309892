-- The distance from a point to the nearest point of a way, from the sides that the ends of the way are on.
use Rattle.std.proofs.Common.{◌≡◌, ℕ, suc, ◌<◌, ◌≤◌, Bool, true, false, ◌&&◌, ◌||◌, eqb, ltb, ◌⊎◌, sym, refl, ◌∙◌, inl, inr, arith}
use mathlib.Core.Bool.{beq}
use Rattle.std.proofs.lemmas.Bool.{both_ways, cases_Bool, cases_order, and_right, eq-eqb, ne_eqb, lt-ltb, le-ltb, false_from_ne_true}
use Rattle.lengths.specs.Figures.{Figures, Laws}
use Rattle.trees.proofs.Trees.{Tree, Stands, Joined, side, off, selected, nearest, differ}
use Rattle.trees.proofs.TwoSides.{off_parts}
use Rattle.trees.proofs.Runs.{is_joined, joined_above, joined_low, up_stands, up_lower, run_one}
use Rattle.trees.proofs.Sides.{side_self, side_above, side_up, side_past, side_trans, side_chain, by_parent, nested}
use Rattle.trees.proofs.Selected.{selected_sum, none_selected, same_selected, one_besides}
use Rattle.trees.proofs.Nearest.{nearest_by_cuts}

-- two sides that differ are not the same
differ_apart : (s t : Bool) → differ s t ≡ true → s ≡ t → ⊥
differ_apart s t h e = grind arith

-- where u is on the inner side and c holds, u is off the way between s and t just where both are on the outer and c holds
off_inner : (s t u c : Bool) → u ≡ false → c ≡ true → (beq s t && differ u s) ≡ ((s && t) && c)
off_inner s t u c h g = grind arith

-- where u is on the side of s, it is not off the way between s and t
off_none : (s t u : Bool) → u ≡ s → (beq s t && differ u s) ≡ false
off_none s t u h = grind arith

-- where u is on the outer side and s and t on the inner, u is off the way between them
off_outer : (s t u : Bool) → s ≡ false → t ≡ false → u ≡ true → (beq s t && differ u s) ≡ true
off_outer s t u p q r = grind arith

module _ {F : Type 0} {k : Figures F} (T : Tree k) where
  -- every point is the root or hangs from it
  pub root_side : (x : ℕ) → Stands T x → side T 1 x ≡ true
  root_side = by_parent T (λ y. side T 1 y ≡ true) (λ y s up. go y s up (cases_order 1 y))
    where
      go : (y : ℕ) → Stands T y → (1 < y → side T 1 (T.parent y) ≡ true) → (1 ≡ y) ⊎ ((1 < y) ⊎ (y < 1)) → side T 1 y ≡ true
      go y s up (inl p) = rw (sym p) (side_self T 1 (omega arith))
      go y s up (inr (inl p)) = side_up T 1 y (omega arith) s p ∙ up p
      go y s up (inr (inr p)) = absurd (omega (arith, T.from_one y s))

  -- a point that some point does not hang from is not the root
  pub not_root : (t a : ℕ) → Stands T t → Stands T a → side T t a ≡ false → Joined T t
  not_root t a u s h = go (cases_order 1 t)
    where
      go : (1 ≡ t) ⊎ ((1 < t) ⊎ (t < 1)) → Joined T t
      go (inl p) = absurd (both_ways (side T t a) h (rw p at (root_side a s)))
      go (inr (inl p)) = is_joined T u p
      go (inr (inr p)) = absurd (omega (arith, T.from_one t u))

  -- where a is t or hangs from t, a run that is not greater than t has t and a on one side
  pub side_within : (e t a : ℕ) → 1 ≤ e → e ≤ t → Stands T a → side T t a ≡ true → side T e t ≡ side T e a
  side_within e t a l low s h = go (cases_Bool (side T e a))
    where
      go : (side T e a ≡ true) ⊎ (side T e a ≡ false) → side T e t ≡ side T e a
      go (inl p) = side_chain T e t l low a s p h ∙ sym p
      go (inr p) = false_from_ne_true (side T e t) (λ r. both_ways (side T e a) p (side_trans T e t l r a s h)) ∙ sym p

module _ {F : Type 0} {k : Figures F} (laws : Laws k) (T : Tree k) where
  -- a point that one end of a way hangs from and the other does not is on the way, so that nothing parts it from the way
  pub near_path :
      (t a b : ℕ) → Stands T t → Stands T a → Stands T b → differ (side T t a) (side T t b) ≡ true → nearest T t a b ≡ k.zero
  near_path t a b u v w h = nearest_by_cuts laws T t a b u v w ∙ none_selected laws T (off T t a b) none_off
    where
      none_off : (e : ℕ) → Joined T e → off T t a b e ≡ false
      none_off e d =
          false_from_ne_true (off T t a b e) (λ g.
          let p = off_parts (side T e a) (side T e b) (side T e t) g in
          let l = joined_above T d in
          differ_apart (side T t a) (side T t b) h (nested T t e (T.from_one t u) (omega arith) a b v w p.0 p.1))

  -- a point that neither end of a way hangs from is farther from the way than its parent, by its own run
  pub near_other :
      (t a b : ℕ) → Stands T t → Stands T a → Stands T b → side T t a ≡ false → side T t b ≡ false →
      nearest T t a b ≡ k.sum (nearest T (T.parent t) a b) (T.run t)
  near_other t a b u v w p q =
      nearest_by_cuts laws T t a b u v w
      ∙ same_selected laws T (off T t a b) (λ e. eqb t e || off T (T.parent t) a b e) (λ e d. each e d (cases_order t e))
      ∙ one_besides laws T (off T (T.parent t) a b) t joined_t not_up
      ∙ laws.comm 1 257 (omega arith) (run_one T joined_t) (selected_sum T (off T (T.parent t) a b))
      ∙ rw (nearest_by_cuts laws T (T.parent t) a b (up_stands T joined_t) v w)
    where
      joined_t : Joined T t
      joined_t = not_root T t a u v p

      not_up : off T (T.parent t) a b t ≡ false
      not_up =
          off_none (side T t a) (side T t b) (side T t (T.parent t)) (side_above T t (T.parent t) (up_lower T joined_t) ∙ sym p)

      past : (e : ℕ) → Joined T e → (e ≡ t → ⊥) → off T t a b e ≡ (eqb t e || off T (T.parent t) a b e)
      past e d ne =
          let l = joined_above T d in
          rw (ne_eqb t e (λ r. ne (sym r)), side_past T e t (omega arith) joined_t ne)

      each : (e : ℕ) → Joined T e → (t ≡ e) ⊎ ((t < e) ⊎ (e < t)) → off T t a b e ≡ (eqb t e || off T (T.parent t) a b e)
      each e d (inl r) =
          let here : off T t a b t ≡ true =
          off_outer (side T t a) (side T t b) (side T t t) p q (side_self T t (T.from_one t u)) in
          rw (sym r, eq-eqb t t refl) here
      each e d (inr (inl r)) = past e d (λ z. omega arith)
      each e d (inr (inr r)) = past e d (λ z. omega arith)

  -- a point that both ends of a way hang from is parted from the way by the runs beyond it that both ends hang from
  pub near_common :
      (t a b : ℕ) → Stands T t → Stands T a → Stands T b → side T t a ≡ true → side T t b ≡ true →
      nearest T t a b ≡ selected T (λ e. (side T e a && side T e b) && ltb t e)
  near_common t a b u v w p q =
      nearest_by_cuts laws T t a b u v w
      ∙ same_selected laws T (off T t a b) (λ e. (side T e a && side T e b) && ltb t e) (λ e d. each e d (cases_order t e))
    where
      within : (e : ℕ) → Joined T e → e ≤ t → off T t a b e ≡ ((side T e a && side T e b) && ltb t e)
      within e d r =
          let l = joined_above T d in
          off_none (side T e a) (side T e b) (side T e t) (side_within T e t a (omega arith) r v p)
          ∙ sym (and_right (side T e a && side T e b) (ltb t e) (le-ltb t e r))

      each : (e : ℕ) → Joined T e → (t ≡ e) ⊎ ((t < e) ⊎ (e < t)) → off T t a b e ≡ ((side T e a && side T e b) && ltb t e)
      each e d (inl r) = within e d (omega arith)
      each e d (inr (inl r)) = off_inner (side T e a) (side T e b) (side T e t) (ltb t e) (side_above T e t r) (lt-ltb t e r)
      each e d (inr (inr r)) = within e d (omega arith)

  -- the runs beyond n that both a and b hang from, where the next tag is one of them: its run, and those beyond it
  pub common_step :
      (n a b : ℕ) → Joined T (suc n) → side T (suc n) a ≡ true → side T (suc n) b ≡ true →
      selected T (λ e. (side T e a && side T e b) && ltb n e)
      ≡ k.sum (T.run (suc n)) (selected T (λ e. (side T e a && side T e b) && ltb (suc n) e))
  common_step n a b h p q =
      same_selected laws T (λ e. (side T e a && side T e b) && ltb n e)
      (λ e. eqb (suc n) e || ((side T e a && side T e b) && ltb (suc n) e)) (λ e d. each e (cases_order (suc n) e))
      ∙ one_besides laws T (λ e. (side T e a && side T e b) && ltb (suc n) e) (suc n) h
      (and_right (side T (suc n) a && side T (suc n) b) (ltb (suc n) (suc n)) (le-ltb (suc n) (suc n) (omega arith)))
    where
      each :
          (e : ℕ) → (suc n ≡ e) ⊎ ((suc n < e) ⊎ (e < suc n)) →
          ((side T e a && side T e b) && ltb n e) ≡ (eqb (suc n) e || ((side T e a && side T e b) && ltb (suc n) e))
      each e (inl r) =
          let p' : side T e a ≡ true = rw r at p in
          let q' : side T e b ≡ true = rw r at q in
          rw (p', q', lt-ltb n e (omega arith), eq-eqb (suc n) e r)
      each e (inr (inl r)) = rw (lt-ltb n e (omega arith), lt-ltb (suc n) e r, ne_eqb (suc n) e (omega arith))
      each e (inr (inr r)) = rw (le-ltb n e (omega arith), le-ltb (suc n) e (omega arith), ne_eqb (suc n) e (omega arith))

  -- the same runs, where the next tag is not one of them: those beyond it
  pub common_skip :
      (n a b : ℕ) → (Joined T (suc n) → (side T (suc n) a && side T (suc n) b) ≡ false) →
      selected T (λ e. (side T e a && side T e b) && ltb n e) ≡ selected T (λ e. (side T e a && side T e b) && ltb (suc n) e)
  common_skip n a b h =
      same_selected laws T (λ e. (side T e a && side T e b) && ltb n e) (λ e. (side T e a && side T e b) && ltb (suc n) e)
      (λ e d. each e d (cases_order (suc n) e))
    where
      each :
          (e : ℕ) → Joined T e → (suc n ≡ e) ⊎ ((suc n < e) ⊎ (e < suc n)) →
          ((side T e a && side T e b) && ltb n e) ≡ ((side T e a && side T e b) && ltb (suc n) e)
      each e d (inl r) =
          let d' : Joined T (suc n) = rw r d in
          let g : (side T e a && side T e b) ≡ false = rw r at (h d') in
          rw g
      each e d (inr (inl r)) = rw (lt-ltb n e (omega arith), lt-ltb (suc n) e r)
      each e d (inr (inr r)) = rw (le-ltb n e (omega arith), le-ltb (suc n) e (omega arith))

  -- beyond the greatest tag there is none of them
  pub common_none : (n a b : ℕ) → T.high ≤ suc n → selected T (λ e. (side T e a && side T e b) && ltb n e) ≡ k.zero
  common_none n a b h =
      none_selected laws T (λ e. (side T e a && side T e b) && ltb n e)
      (λ e d. let l = joined_low T d in and_right (side T e a && side T e b) (ltb n e) (le-ltb n e (omega arith)))
