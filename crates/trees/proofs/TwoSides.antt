-- What holds of the sides that two, three or more points are on, at one run.
use Rattle.std.proofs.Common.{◌≡◌, Bool, true, false, ◌&&◌, ◌⊎◌, inl, inr, arith}
use mathlib.Core.Bool.{beq}
use Rattle.trees.proofs.Trees.{differ, majority}

-- a point is on its own side
pub differ_none : (s : Bool) → differ s s ≡ false
differ_none s = grind arith

-- two sides differ in either order
pub differ_turn : (s t : Bool) → differ s t ≡ differ t s
differ_turn s t = grind arith

-- two sides that are not the same differ
pub differ_of : (s t : Bool) → (s ≡ t → ⊥) → differ s t ≡ true
differ_of s t h = grind arith

-- two sides that cannot be different are the same
pub stable : (s t : Bool) → ((s ≡ t → ⊥) → ⊥) → s ≡ t
stable s t h = grind arith

-- the test for the same side, passed
pub beq_same : (s t : Bool) → beq s t ≡ true → s ≡ t
beq_same s t h = grind arith

-- the test for the same side, failed
pub beq_apart : (s t : Bool) → beq s t ≡ false → s ≡ t → ⊥
beq_apart s t h e = grind arith

-- of three, two that are each apart from the third are together
pub both_apart : (s t u : Bool) → (s ≡ u → ⊥) → (t ≡ u → ⊥) → s ≡ t
both_apart s t u h g = grind arith

-- what parts a point s from a point w on the way to u parts s from u
pub farther : (s w u : Bool) → (s ≡ u → w ≡ s) → differ s w ≡ true → differ s u ≡ true
farther s w u h g = grind arith

-- what parts a point w on the way from s to u from u parts s from u, and not from w
pub farther_here : (s w u : Bool) → (s ≡ u → w ≡ s) → (w ≡ u → ⊥) → (differ s w ≡ false) × (differ s u ≡ true)
farther_here s w u h g = grind arith

-- two on one side are two of three
pub two_of_three : (s t u : Bool) → s ≡ t → majority s t u ≡ s
two_of_three s t u h = grind arith

-- u is apart from the median of s, t and u where it is apart from both s and t
pub off_median : (s t u : Bool) → differ u (majority s t u) ≡ (beq s t && differ u s)
off_median s t u = grind arith

-- u is off the way between s and t: s and t are on one side, and u is not on it
pub off_parts : (s t u : Bool) → (beq s t && differ u s) ≡ true → (s ≡ t) × (u ≡ s → ⊥)
off_parts s t u h = grind arith

-- the other way round
pub off_from : (s t u : Bool) → s ≡ t → (u ≡ s → ⊥) → (beq s t && differ u s) ≡ true
off_from s t u h g = grind arith

-- where u is off the way between the medians of c and d with a and with b, it is off the way between a and b or off the one between c and d
pub off_of_medians :
    (a b c d u : Bool) → (beq (majority c d a) (majority c d b) && differ u (majority c d a)) ≡ true →
    ((beq a b && differ u a) ≡ true) ⊎ ((beq c d && differ u c) ≡ true)
off_of_medians a b false false u h = inr h
off_of_medians a b false true u h = inl h
off_of_medians a b true false u h = inl h
off_of_medians a b true true u h = inr h

-- what parts these two medians parts a from b
pub crossed_by_both : (a b c d : Bool) → differ (majority c d a) (majority c d b) ≡ true → differ a b ≡ true
crossed_by_both a b c d h = grind arith

-- where c and d are on one side, these two medians are as well
pub not_crossed : (a b c d : Bool) → c ≡ d → differ (majority c d a) (majority c d b) ≡ false
not_crossed a b c d h = grind arith
