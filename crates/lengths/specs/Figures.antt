-- What a kind of length is. A value of a kind is a figure: a length, or a sum of lengths.
use Rattle.std.specs.Prelude.{◌≡◌, ℕ, ◌+◌, ◌≤◌, Bool, true, false, List, [], ◌∷◌, ◌≢◌, nat_lt}

-- What a kind says of its figures: which is zero, what two come to, which of two is less, and which may be an
-- entry, that is, a single run or drop.
pub record Figures (F : Type 0) : Type 0 where
  pub zero : F
  pub sum : F → F → F
  pub less : F → F → Bool
  pub entry : F → Bool

-- the number of entries up to which sums keep the laws
abbrev pub most_entries : ℕ
most_entries = 4194304

-- `Sum k n x`: x is a sum of at most n entries of the kind k, in any order and any bracketing
pub data Sum {F : Type 0} (k : Figures F) : ℕ → F → Type 0 where
  none : {n : ℕ} → Sum k n k.zero
  one : {n : ℕ} {x : F} → 1 ≤ n → k.entry x ≡ true → Sum k n x
  both : {l m n : ℕ} {x y : F} → m + n ≤ l → Sum k m x → Sum k n y → Sum k l (k.sum x y)

-- how two figures compare: exactly one of them is less, or they are the same figure
pub data Compared {F : Type 0} (k : Figures F) (x y : F) : Type 0 where
  below : k.less x y ≡ true → (x ≢ y) → k.less y x ≡ false → Compared k x y
  equal : k.less x y ≡ false → x ≡ y → k.less y x ≡ false → Compared k x y
  above : k.less x y ≡ false → (x ≢ y) → k.less y x ≡ true → Compared k x y

-- the laws that every kind shows
pub record Laws {F : Type 0} (k : Figures F) : Type 0 where
  pub zero_entry : k.entry k.zero ≡ true
  -- 1. the sum is the same in either order and any bracketing, and zero adds nothing
  pub neutral : {x : F} (n : ℕ) → n ≤ most_entries → Sum k n x → k.sum x k.zero ≡ x
  pub comm : {x y : F} (m n : ℕ) → m + n ≤ most_entries → Sum k m x → Sum k n y → k.sum x y ≡ k.sum y x
  pub assoc : {x y z : F} (l m n : ℕ) → l + m + n ≤ most_entries → Sum k l x → Sum k m y → Sum k n z
      → k.sum (k.sum x y) z ≡ k.sum x (k.sum y z)
  -- 2. of two figures exactly one is less, or they are the same; less is transitive; none is less than zero
  pub compares : (x y : F) → Compared k x y
  pub trans : {x y z : F} → k.less x y ≡ true → k.less y z ≡ true → k.less x z ≡ true
  pub least : (x : F) → k.less x k.zero ≡ false
  -- 3. one figure is less than another exactly when it stays less after the same figure is added to both
  pub shift : {x y z : F} (l m n : ℕ) → l + n ≤ most_entries → m + n ≤ most_entries → Sum k l x → Sum k m y → Sum k n z
      → k.less (k.sum x z) (k.sum y z) ≡ k.less x y

-- figures are whole numbers: zero is 0, less is by the number, so that no two figures have one number, and a sum within the
-- bound on entries is the sum of the whole numbers
pub record Exact {F : Type 0} (k : Figures F) (number : F → ℕ) : Type 0 where
  pub none : number k.zero ≡ 0
  pub order : (x y : F) → k.less x y ≡ nat_lt (number x) (number y)
  pub both : {x y : F} (m n : ℕ) → m + n ≤ most_entries → Sum k m x → Sum k n y → number (k.sum x y) ≡ number x + number y

-- x is less than y; x is at most y
abbrev pub Less : {F : Type 0} → Figures F → F → F → Type 0
Less k x y = k.less x y ≡ true

abbrev pub AtMost : {F : Type 0} → Figures F → F → F → Type 0
AtMost k x y = k.less y x ≡ false

-- what figures come to, added one after another to the first figure given
abbrev pub added : {F : Type 0} → Figures F → F → List F → F
added k x [] = x
added k x (y ∷ ys) = added k (k.sum x y) ys

-- what figures come to, added from the last one backwards
abbrev pub total : {F : Type 0} → Figures F → List F → F
total k [] = k.zero
total k (x ∷ xs) = k.sum x (total k xs)
