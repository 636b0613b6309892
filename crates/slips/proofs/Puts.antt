-- Numbers put after one another, a comma before each, and the row of a letter and five numbers.
use Rattle.std.proofs.Common.{◌≡◌, ℕ, ◌+◌, ◌<◌, ◌≤◌, List, [], ◌∷◌, ◌++◌, map, length, get_or, take, decimal, sym, ap, ◌∙◌, append_assoc, arith}
use Rattle.std.specs.List.{AllByRecursion}
use Rattle.std.proofs.ByRecursion.{All-get_or}
use Rattle.std.proofs.lemmas.List.{append-nil, take_more, map_push}
use Rattle.std.proofs.lemmas.Fmt.{length-decimal-le}
use Rattle.slips.specs.declared.rows.Letter.{Letter}
use Rattle.slips.specs.declared.rows.Values.{Values}
use Rattle.slips.specs.Format.{most, commaed}

-- numbers in decimal, with a comma before each
abbrev pub fields_text : List ℕ → List ℕ
fields_text ns = commaed (map decimal ns)

commaed_push : (fs : List (List ℕ)) (f : List ℕ) → commaed (fs ++ f ∷ []) ≡ (commaed fs ++ 44 ∷ []) ++ f
commaed_push [] f = ap (λ (t : List ℕ). 44 ∷ t) (append-nil f)
commaed_push (g ∷ fs) f = ap (λ (t : List ℕ). 44 ∷ (g ++ t)) (commaed_push fs f) ∙ simp append_assoc

-- one number more
pub text_more : (ns : List ℕ) (i : ℕ) → i < length ns → (fields_text (take i ns) ++ 44 ∷ []) ++ decimal (get_or ns i 0) ≡ fields_text (take (i + 1) ns)
text_more ns i h =
    sym (ap fields_text (take_more ns i 0 h) ∙ ap commaed (map_push decimal (take i ns) (get_or ns i 0)) ∙ commaed_push (map decimal (take i ns)) (decimal (get_or ns i 0)))

-- a number of a row has seven digits at most
pub digits_few : (ns : List ℕ) (i : ℕ) → i < length ns → AllByRecursion (λ n. n ≤ most) ns → length (decimal (get_or ns i 0)) ≤ 7
digits_few ns i h small =
    let low : get_or ns i 0 ≤ most = All-get_or (λ n. n ≤ most) ns i 0 h small in
    length-decimal-le 7 (get_or ns i 0) (omega arith) (omega arith) (omega arith)

-- the row of a letter and five numbers
unfoldable pub values_of : Letter → List ℕ → Values
values_of l ns = record { letter = l; tag = get_or ns 0 0; parent = get_or ns 1 0; couplings = get_or ns 2 0; run = get_or ns 3 0; drop = get_or ns 4 0 }
