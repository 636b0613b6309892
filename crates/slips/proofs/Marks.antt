-- Bytes cut at a mark, and how often a mark stands in them.
use Rattle.std.proofs.Common.{◌≡◌, ◌≢◌, ℕ, ◌+◌, ◌-◌, ◌<◌, ◌≤◌, List, [], ◌∷◌, ◌++◌, length, get_or, take, drop, Some, None, Bool, cond, Option, MatchOption, sym, refl, ap, ◌∙◌, inl, inr, arith}
use Rattle.std.specs.List.{AllByRecursion, AllWithin, HoldsAt}
use Rattle.std.proofs.lemmas.List.{take-append-drop, drop_more, get_or-take, length-take, take_rest}
use Rattle.std.proofs.lemmas.List.Sums.{sum_by-append, sum_by-cons}
use Rattle.std.proofs.ByRecursion.{All-from_get_or, all_from_every}
use Rattle.std.proofs.lemmas.Bool.{cases_eq, eq-eqb, ne_eqb}
use Rattle.slips.specs.Rules.{Free}
use Rattle.slips.specs.Inner.{count}

-- the bytes around the mark at i
pub cut_at : (m : ℕ) (xs : List ℕ) (i : ℕ) → i < length xs → get_or xs i 0 ≡ m → xs ≡ take i xs ++ m ∷ drop (i + 1) xs
cut_at m xs i h e =
    sym (take-append-drop i xs) ∙ ap (λ (t : List ℕ). take i xs ++ t) (drop_more xs i 0 h ∙ ap (λ (x : ℕ). x ∷ drop (i + 1) xs) e)

-- bytes cut at the first mark, which is at i
pub cut_first : {m : ℕ} {i : ℕ} (xs : List ℕ) → (i < length xs) × HoldsAt (λ b. b ≡ m) xs i × AllWithin (λ b. b ≢ m) xs 0 i
    → (xs ≡ take i xs ++ m ∷ take (length xs - (i + 1)) (drop (i + 1) xs)) × Free m (take i xs)
cut_first {m} {i} xs h = (
  cut_at m xs i h.0 (h.1 0) ∙ ap (λ (t : List ℕ). take i xs ++ m ∷ t) (sym (take_rest xs (i + 1))),
  All-from_get_or (λ b. b ≢ m) (take i xs) 0 (λ j lt. let low : j < i = omega (arith, length-take i xs) in rw get_or-take (h.2 j 0 (omega arith) low)),
)

-- the first number above m
pub first_above : (m : ℕ) (r : Option ℕ) (ns : List ℕ) → MatchOption r (AllWithin (λ n. n ≤ m) ns 0 (length ns)) (λ k. (k < length ns) × HoldsAt (λ n. m < n) ns k × AllWithin (λ n. n ≤ m) ns 0 k)
    → MatchOption r (AllByRecursion (λ n. n ≤ m) ns) (λ k. (k < length ns) × ((j : ℕ) → j < k → get_or ns j 0 ≤ m) × (m < get_or ns k 0))
first_above m None ns h = all_from_every (λ n. n ≤ m) ns h
first_above m (Some k) ns h = (h.0, λ j lt. h.2 j 0 (omega arith) lt, h.1 0)

pub count_here : (m c : ℕ) (xs : List ℕ) → c ≡ m → count m (c ∷ xs) ≡ count m xs + 1
count_here m c xs e = sum_by-cons _ c xs ∙ ap (λ (b : Bool). cond b 1 0 + count m xs) (eq-eqb c m e) ∙ omega arith

pub count_other : (m c : ℕ) (xs : List ℕ) → (c ≡ m → ⊥) → count m (c ∷ xs) ≡ count m xs
count_other m c xs e = sum_by-cons _ c xs ∙ ap (λ (b : Bool). cond b 1 0 + count m xs) (ne_eqb c m e) ∙ omega arith

pub count_append : (m : ℕ) (xs ys : List ℕ) → count m (xs ++ ys) ≡ count m xs + count m ys
count_append m xs ys = sum_by-append _ xs ys

pub count_free : (m : ℕ) (xs : List ℕ) → Free m xs → count m xs ≡ 0
count_free m [] h = refl
count_free m (x ∷ xs) h = count_other m x xs h.0 ∙ count_free m xs h.1

-- what a cut leaves
pub count_cut : (m : ℕ) (xs front back : List ℕ) → xs ≡ front ++ m ∷ back → Free m front → count m xs ≡ count m back + 1
count_cut m xs front back e h =
    ap (count m) e ∙ count_append m front (m ∷ back) ∙ omega (arith, count_free m front h, count_here m m back refl)

pub free_from_count : (m : ℕ) (xs : List ℕ) → count m xs ≡ 0 → Free m xs
free_from_count m [] h = tt
free_from_count m (x ∷ xs) h =
    elim (cases_eq x m) [
      | inl e ↦ absurd (omega (arith, count_here m x xs e))
      | inr n ↦ (n, free_from_count m xs (sym (count_other m x xs n) ∙ h))
    ]
