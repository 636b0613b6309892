-- The numbers of the fields of a row, read one after another.
use Rattle.std.proofs.Common.{◌≡◌, ℕ, suc, ◌<◌, ◌≤◌, List, [], ◌∷◌, map, length, get_or, decimal, refl, arith}
use Rattle.std.specs.List.{AllByRecursion}
use Rattle.slips.specs.Format.{most}
use Rattle.slips.specs.Rules.{Number}

-- all of them, as they were read
pub read_all : (fs : List (List ℕ)) (ns : List ℕ) → length fs ≡ length ns → ((j : ℕ) → j < length ns → Number (get_or fs j []) (get_or ns j 0))
    → AllByRecursion (λ n. n ≤ most) ns × (fs ≡ map decimal ns)
read_all [] [] e h = (tt, refl)
read_all [] (n ∷ ns) e h = absurd (omega arith)
read_all (f ∷ fs) [] e h = absurd (omega arith)
read_all (f ∷ fs) (n ∷ ns) e h =
    let t = read_all fs ns (omega arith) (λ j lt. h (suc j) (omega arith)) in
    let here = h 0 (omega arith) in
    ((here.0, t.0), cc (here.1, t.1))
