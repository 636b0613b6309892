-- Writing a row: when it is refused, what is written, and that it is read back.
use Rattle.std.specs.Prelude.{◌≡◌, ℕ, ◌+◌, ◌<◌, ◌≤◌, List, [], ◌∷◌, ◌++◌, length, take, drop, None, Ok, Err, Result, ◌≢◌, slice_index}
use Rattle.std.specs.List.{AllByRecursion}
use Rattle.slips.specs.declared.faults.Cause.TheVariants.{BadLetter, BadNumber, NotZero}
use Rattle.slips.specs.declared.faults.WriteFault.{WriteFault}
use Rattle.slips.specs.declared.faults.WriteFault.TheVariants.{InField, ShortBuffer}
use Rattle.slips.specs.declared.rows.Letter.{Letter}
use Rattle.slips.specs.declared.rows.Letter.TheVariants.{Strike}
use Rattle.slips.specs.declared.rows.Row.{Row}
use Rattle.slips.specs.declared.rows.Values.{Values}
use Rattle.slips.specs.Format.{most, most_bytes, letter_byte, numbers, Proper, row_line, slip_text}
use Rattle.slips.specs.Rules.{FirstNonzero, Holds}

-- v is the row of the letter c and the five numbers ns
pub record RowOf (c : ℕ) (ns : List ℕ) (v : Values) : Type 0 where
  pub letter : c ≡ letter_byte v.letter
  pub five : ns ≡ numbers v

-- `BadRow c ns f`: the letter c and the numbers ns are no row that a slip may hold, and f says why first
pub data BadRow (c : ℕ) (ns : List ℕ) (f : WriteFault) : Type 0 where
  bad_letter : ((l : Letter) → c ≢ letter_byte l) → f ≡ InField BadLetter 1 → BadRow c ns f
  too_large : (l : Letter) → c ≡ letter_byte l → (k : ℕ) → k < length ns → ((j : ℕ) → j < k → slice_index ns j ≤ most) → most < slice_index ns k
      → f ≡ InField BadNumber (k + 2) → BadRow c ns f
  not_zero : c ≡ letter_byte Strike → AllByRecursion (λ n. n ≤ most) ns → (k : ℕ) → FirstNonzero ns k → f ≡ InField NotZero (k + 2) → BadRow c ns f

-- `Unwritten c ns room f`: over a buffer of so many bytes the row is refused by f
pub data Unwritten (c : ℕ) (ns : List ℕ) (room : ℕ) (f : WriteFault) : Type 0 where
  bad_row : BadRow c ns f → Unwritten c ns room f
  short_buffer : (v : Values) → RowOf c ns v → Proper v → room < length (row_line v) → f ≡ ShortBuffer → Unwritten c ns room f

-- the row is written at the front of the buffer in n bytes, and the bytes after it stay
pub record Written (c : ℕ) (ns before after : List ℕ) (n : ℕ) : Type 0 where
  pub row : Values
  pub given : RowOf c ns row
  pub proper : Proper row
  pub room : n ≤ length before
  pub long : n ≡ length (row_line row)
  pub bytes : after ≡ row_line row ++ drop n before

-- put after any rows of a slip, these bytes are one row more, that of the letter c and the numbers ns
abbrev pub ReadBack : ℕ → List ℕ → List ℕ → Type 0
ReadBack c ns bytes = (vs : List Values) → AllByRecursion Proper vs → length (slip_text vs ++ bytes) ≤ most_bytes
    → (v : Values) × RowOf c ns v × Holds (slip_text vs ++ bytes) (vs ++ v ∷ []) None

-- the bytes of a row that was handed out of a slip stand there again: as many of them as the line has are written
abbrev pub SameBytes : Row → List ℕ → Result ℕ WriteFault → List ℕ → Type 0
SameBytes r slip (Ok n) out = take n out ≡ take n (drop r.letter.place slip)
SameBytes r slip (Err f) out = f ≡ ShortBuffer
