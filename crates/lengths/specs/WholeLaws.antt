-- The laws of a kind of whole numbers, once for every greatest entry of which enough fit 64 bits.
use Rattle.std.specs.Prelude.{◌≡◌, ℕ, ◌+◌, ◌*◌, ◌<◌, ◌≤◌, min, false, nat_lt, refl}
use Rattle.std.proofs.Common.{sym, ap, ◌∙◌, inl, inr, add-mul, one-mul, mul-le-mul_right, arith}
use Rattle.std.proofs.lemmas.Bool.{cases_order, ltb-true, lt-ltb, le-ltb, leb-true, le-leb}
use Rattle.lengths.specs.Figures.{Laws, Sum, none, one, both, Compared, below, equal, above, Exact, most_entries}
use Rattle.lengths.specs.Whole.{whole, greatest}

module _ {F : Type 0} (of : ℕ → F) (at : F → ℕ) (of_at : (x : F) → of (at x) ≡ x) (at_of : (n : ℕ) → at (of n) ≡ n) (most : ℕ) (small : most_entries * most ≤ greatest) where
  -- a sum of at most n entries is at most n times the greatest entry
  bound : {n : ℕ} {x : F} → Sum (whole of at most) n x → at x ≤ n * most
  bound none = omega (arith, at_of 0)
  bound (one {n} {x} h e) = omega (arith, leb-true (at x) most e, one-mul most, mul-le-mul_right most h)
  bound (both {l} {m} {n} {x} {y} h p q) = omega (arith, bound p, bound q, add-mul m n most, mul-le-mul_right most h, at_of (min (at x + at y) greatest))

  room : {x y : F} (m n : ℕ) → m + n ≤ most_entries → Sum (whole of at most) m x → Sum (whole of at most) n y → at x + at y ≤ greatest
  room m n h p q = omega (arith, bound p, bound q, add-mul m n most, mul-le-mul_right most h, small)

  -- within the bound a sum is the sum of the whole numbers
  exact : (x y : F) (m n : ℕ) → m + n ≤ most_entries → Sum (whole of at most) m x → Sum (whole of at most) n y → at ((whole of at most).sum x y) ≡ at x + at y
  exact x y m n h p q = omega (arith, room m n h p q, at_of (min (at x + at y) greatest))

  pub whole_exact : Exact (whole of at most) at
  whole_exact = record { none = at_of 0; order = λ x y. refl; both = λ {x} {y} m n h p q. exact x y m n h p q }

  compared : (x y : F) → Compared (whole of at most) x y
  compared x y = elim (cases_order (at x) (at y)) [
    | inl e ↦ equal (le-ltb (at x) (at y) (omega arith)) (sym (of_at x) ∙ (ap of e ∙ of_at y)) (le-ltb (at y) (at x) (omega arith))
    | inr s ↦ elim s [
      | inl l ↦ below (lt-ltb (at x) (at y) l) (λ e. omega (arith, ap at e)) (le-ltb (at y) (at x) (omega arith))
      | inr l ↦ above (le-ltb (at x) (at y) (omega arith)) (λ e. omega (arith, ap at e)) (lt-ltb (at y) (at x) l)
    ]
  ]

  same_order : (a b c d : ℕ) → (a < b → c < d) → (c < d → a < b) → nat_lt a b ≡ nat_lt c d
  same_order a b c d f g = elim (cases_order a b) [
    | inl e ↦ le-ltb a b (omega arith) ∙ sym (not_less (λ l. omega (arith, g l)))
    | inr s ↦ elim s [
      | inl l ↦ lt-ltb a b l ∙ sym (lt-ltb c d (f l))
      | inr l ↦ le-ltb a b (omega arith) ∙ sym (not_less (λ h. omega (arith, g h)))
    ]
  ]
    where
      not_less : (c < d → ⊥) → nat_lt c d ≡ false
      not_less h = elim (cases_order c d) [
        | inl e ↦ le-ltb c d (omega arith)
        | inr s ↦ elim s [ inl l ↦ absurd (h l) | inr l ↦ le-ltb c d (omega arith) ]
      ]

  pub whole_laws : Laws (whole of at most)
  whole_laws = record {
    zero_entry = le-leb (at (of 0)) most (omega (arith, at_of 0));
    neutral = λ {x} n h s. ap of (omega (arith, at_of 0, room n 0 (omega arith) s none)) ∙ of_at x;
    comm = λ {x} {y} m n h p q. ap of (omega arith);
    assoc = λ {x} {y} {z} l m n h p q r. ap of (omega (arith, at_of (min (at x + at y) greatest), at_of (min (at y + at z) greatest)));
    compares = compared;
    trans = λ {x} {y} {z} l m. lt-ltb (at x) (at z) (omega (arith, ltb-true (at x) (at y) l, ltb-true (at y) (at z) m));
    least = λ x. le-ltb (at x) (at (of 0)) (omega (arith, at_of 0));
    shift = λ {x} {y} {z} l m n h g p q r.
        let u = exact x z l n h p r in
        let v = exact y z m n g q r in
        same_order (at ((whole of at most).sum x z)) (at ((whole of at most).sum y z)) (at x) (at y) (λ i. omega arith) (λ i. omega arith);
  }
