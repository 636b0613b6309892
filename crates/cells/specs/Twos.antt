-- One of two.
use Rattle.std.specs.Prelude.{ℕ, zero, suc}

-- the part of a remainder by two; the last from 1 on
abbrev pub of_two : {C : Type 0} → C → C → ℕ → C
of_two a b zero = a
of_two a b (suc n) = b
