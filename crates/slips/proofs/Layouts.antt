-- Fields one after another: their texts with commas, and their places.
use Rattle.std.proofs.Common.{◌≡◌, ℕ, zero, suc, ◌+◌, ◌<◌, ◌≤◌, List, [], ◌∷◌, length, take, arith}
use Rattle.std.specs.List.{AllByRecursion}
use Rattle.std.proofs.lemmas.List.{length-append}
use Rattle.slips.specs.Format.{commaed}
use Rattle.slips.specs.Layout.{laid}

-- fields in a line of n bytes begin within it
pub laid_within : (i n : ℕ) (fs : List (List ℕ)) → i + length (commaed fs) ≤ n + 1 → AllByRecursion (λ t. t.place ≤ n) (laid i fs)
laid_within i n [] h = tt
laid_within i n (f ∷ fs) h =
    let e : length (commaed (f ∷ fs)) ≡ 1 + length f + length (commaed fs) = simp length-append (omega arith) in
    (omega arith, laid_within (i + length f + 1) n fs (omega arith))

-- a field's comma comes after the fields before it
pub commaed_front : (fs : List (List ℕ)) (k : ℕ) → k < length fs → length (commaed (take k fs)) + 1 ≤ length (commaed fs)
commaed_front [] k h = absurd (omega arith)
commaed_front (f ∷ fs) zero h = omega arith
commaed_front (f ∷ fs) (suc k) h = simp length-append (omega (arith, commaed_front fs k (omega arith)))
