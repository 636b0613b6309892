-- What the laws of a kind give on the order and on sums, for every proof above to cite.
use Rattle.std.specs.Prelude.{◌≡◌, ℕ, ◌≤◌, false, refl}
use Rattle.std.proofs.Common.{sym, ap, ◌∙◌, arith}
use Rattle.std.proofs.lemmas.Bool.{both_ways}
use Rattle.lengths.specs.Figures.{Figures, Laws, Sum, none, one, both, below, equal, above, Less, AtMost, most_entries}

-- a sum of at most m entries is one of at most n, for a larger n
pub sum_more : {F : Type 0} {k : Figures F} {m n : ℕ} {x : F} → m ≤ n → Sum k m x → Sum k n x
sum_more h none = none
sum_more h (one g e) = one (omega arith) e
sum_more h (both g s t) = both (omega arith) s t

module _ {F : Type 0} {k : Figures F} (laws : Laws k) where
  pub irrefl : (x : F) → k.less x x ≡ false
  irrefl x = elim (laws.compares x x) [ below l n m ↦ absurd (n refl) | equal l e m ↦ l | above l n m ↦ l ]

  pub asym : {x y : F} → Less k x y → k.less y x ≡ false
  asym {x} {y} h = elim (laws.compares x y) [ below l n m ↦ m | equal l e m ↦ m | above l n m ↦ absurd (both_ways (k.less x y) l h) ]

  -- neither is less: the same figure
  pub same : {x y : F} → k.less x y ≡ false → k.less y x ≡ false → x ≡ y
  same {x} {y} g h = elim (laws.compares x y) [ below l n m ↦ absurd (both_ways (k.less x y) g l) | equal l e m ↦ e | above l n m ↦ absurd (both_ways (k.less y x) h m) ]

  pub lt_le_trans : {x y z : F} → Less k x y → AtMost k y z → Less k x z
  lt_le_trans {x} {y} {z} h g = elim (laws.compares y z) [ below l n m ↦ laws.trans h l | equal l e m ↦ ap (k.less x) (sym e) ∙ h | above l n m ↦ absurd (both_ways (k.less z y) g m) ]

  pub le_lt_trans : {x y z : F} → AtMost k x y → Less k y z → Less k x z
  le_lt_trans {x} {y} {z} h g = elim (laws.compares x y) [ below l n m ↦ laws.trans l g | equal l e m ↦ ap (λ (v : F). k.less v z) e ∙ g | above l n m ↦ absurd (both_ways (k.less y x) h m) ]

  pub le_trans : {x y z : F} → AtMost k x y → AtMost k y z → AtMost k x z
  le_trans {x} {y} {z} h g = elim (laws.compares z x) [ below l n m ↦ absurd (both_ways (k.less z y) g (lt_le_trans l h)) | equal l e m ↦ l | above l n m ↦ l ]

  -- zero adds nothing on the left either
  pub neutral_left : {x : F} (n : ℕ) → n ≤ most_entries → Sum k n x → k.sum k.zero x ≡ x
  neutral_left n h s = laws.comm 0 n (omega arith) none s ∙ laws.neutral n h s
