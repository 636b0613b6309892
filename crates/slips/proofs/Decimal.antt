-- A field is read as a number exactly where it is the writing of one.
use Rattle.std.proofs.Common.{◌≡◌, ◌≢◌, ℕ, ◌^◌, ◌<◌, ◌≤◌, true, List, length, get_or, decimal, Ok, MatchOption, Result, sym, refl, ap, ◌∙◌, inl, inr, Bool, false, arith}
use Rattle.std.specs.Bool.{then_some}
use Rattle.std.specs.Str.{all_ascii_digits, IsUtf8}
use Rattle.std.specs.Str.Parse.{ParsesUnsigned, digits_value}
use Rattle.std.proofs.lemmas.Str.{IsUtf8-from_ascii}
use Rattle.std.proofs.lemmas.Str.Parse.{IsNumeralModel, numerals_by_value, tells_all_ascii_digits, not_in_digits, parse_plain}
use Rattle.std.proofs.lemmas.Fmt.{decimal_digit, decimal_nonempty, first_decimal, digits_decimal, parse-decimal, decimal-digits_value, IsAscii-decimal, length-decimal-le}
use Rattle.std.proofs.lemmas.Result.{OkIff-at_ok}
use Rattle.std.proofs.lemmas.Bool.{cases_lt}
use Rattle.slips.specs.Format.{most}
use Rattle.slips.specs.Rules.{Number, IsNumber}

pub own : IsNumeralModel (λ ds. all_ascii_digits ds ≡ true) (digits_value 10)
own = numerals_by_value _ tells_all_ascii_digits

-- a writing begins with no sign, and with 0 only where that is all, and has seven digits at most
pub leads : (f : List ℕ) → IsNumber f → (get_or f 0 0 ≢ 43) × (get_or f 0 0 ≡ 48 → length f ≡ 1) × (length f ≤ 7)
leads f (n, (h, e)) =
    let small : n < 2 ^ 64 = omega arith in
    let some : 0 < length (decimal n) = decimal_nonempty n small in
    rw e (
      not_in_digits own (decimal n) 43 (digits_decimal own n small) (λ r. omega (arith, r)) 0 some,
      λ z. elim (cases_lt 0 n) [
        | inl more ↦ absurd (omega (arith, first_decimal n more small))
        | inr none ↦ ap length (decimal_digit n (omega arith))
      ],
      length-decimal-le 7 n (omega arith) (omega arith) (omega arith),
    )

-- it is text, and is parsed as its number
pub is_text : (f : List ℕ) → IsNumber f → IsUtf8 f
is_text f (n, (h, e)) = rw e (IsUtf8-from_ascii (decimal n) (IsAscii-decimal n (omega arith)))

pub parses : {E : Type 0} (f : List ℕ) (r : Result ℕ E) → ParsesUnsigned 32 10 f r → (m : IsNumber f) → r ≡ Ok m.0
parses f r h (n, (k, e)) = parse-decimal 32 n f r (omega arith) (omega arith) e h

-- and what is parsed so is the writing of what it was parsed as
pub parsed_number : {E : Type 0} (f : List ℕ) (n : ℕ) (r : Result ℕ E) → ParsesUnsigned 32 10 f r → r ≡ Ok n → get_or f 0 0 ≢ 43 → (get_or f 0 0 ≡ 48 → length f ≡ 1)
    → n ≤ most → Number f n
parsed_number f n r h was sign zero low =
    let p = OkIff-at_ok r _ _ n (parse_plain own 32 f r h sign) was in
    (low, sym (ap decimal p.1 ∙ decimal-digits_value own f p.0.0 p.0.1 zero (omega (arith, p.0.2))))

-- a value where a test holds of it
pub then_cases : (P : Type 0) (Q : ℕ → Type 0) (b : Bool) (n : ℕ) → (b ≡ true → Q n) → (b ≡ false → P) → MatchOption (then_some b n) P Q
then_cases P Q true n held failed = held refl
then_cases P Q false n held failed = failed refl
