-- Which fault a line has, and which a slip has: the first cause in the order of the checks.
use Rattle.std.specs.Prelude.{◌≡◌, ℕ, ◌+◌, ◌<◌, ◌≤◌, List, [], ◌∷◌, ◌++◌, length, take, drop, Some, None, decimal, Option, ◌≢◌, slice_index, slice_index_or}
use Rattle.std.specs.List.{AllByRecursion}
use Rattle.slips.specs.declared.faults.Cause.{Cause}
use Rattle.slips.specs.declared.faults.Cause.TheVariants.{TooLong, NotNames, NotSixFields, BadLetter, BadNumber, NotZero, Unended}
use Rattle.slips.specs.declared.faults.RowFault.{RowFault}
use Rattle.slips.specs.declared.faults.Fault.{Fault}
use Rattle.slips.specs.declared.rows.Letter.{Letter}
use Rattle.slips.specs.declared.rows.Letter.TheVariants.{Strike}
use Rattle.slips.specs.declared.rows.Values.{Values}
use Rattle.slips.specs.Causes.{row_fault, slip_fault, placed}
use Rattle.slips.specs.Format.{most, most_bytes, letter_byte, Proper, commaed, names, slip_text}

-- the byte b does not stand in bs
abbrev pub Free : ℕ → List ℕ → Type 0
Free b bs = AllByRecursion (λ c. c ≢ b) bs

-- the field f is the writing of the number n
abbrev pub Number : List ℕ → ℕ → Type 0
Number f n = (n ≤ most) × (f ≡ decimal n)

-- the field f is well written: it is the writing of some number
abbrev pub IsNumber : List ℕ → Type 0
IsNumber f = (n : ℕ) × Number f n

-- k is the first after the tag of which the number is not 0
pub record FirstNonzero (ns : List ℕ) (k : ℕ) : Type 0 where
  pub after_tag : 1 ≤ k
  pub within : k < length ns
  pub zero_before : (j : ℕ) → 1 ≤ j → j < k → slice_index ns j ≡ 0
  pub not_zero : slice_index ns k ≢ 0

-- the line has six fields, f and the five fs, parted by commas
pub record SixFields (line f : List ℕ) (fs : List (List ℕ)) : Type 0 where
  pub text : line ≡ f ++ commaed fs
  pub five : length fs ≡ 5
  pub first_free : Free 44 f
  pub free : AllByRecursion (Free 44) fs

-- a fault in the field fs k, the field k + 2 of its line
abbrev pub field_fault : Cause → List (List ℕ) → ℕ → RowFault
field_fault c fs k = row_fault c (2 + k) (2 + length (commaed (take k fs)))

-- `NumberFault l fs f`: of a row with the letter l and the fields fs, f is the first fault at a number
pub data NumberFault (l : Letter) (fs : List (List ℕ)) (f : RowFault) : Type 0 where
  -- a field is badly written, and none before it
  badly_written : (k : ℕ) → k < 5 → ((j : ℕ) → j < k → IsNumber (slice_index_or fs j [])) → (IsNumber (slice_index_or fs k []) → ⊥)
      → f ≡ field_fault BadNumber fs k → NumberFault l fs f
  -- a strike has all numbers well written, one after the tag that is not 0, and 0 before that
  not_zero : (k : ℕ) → 1 ≤ k → k < 5 → l ≡ Strike → AllByRecursion IsNumber fs → ((j : ℕ) → 1 ≤ j → j < k → slice_index_or fs j [] ≡ decimal 0)
      → (slice_index_or fs k [] ≢ decimal 0) → f ≡ field_fault NotZero fs k → NumberFault l fs f

-- `LineFault line f`: f is the first fault of the line as a row
pub data LineFault (line : List ℕ) (f : RowFault) : Type 0 where
  not_six_fields : ((e : List ℕ) (fs : List (List ℕ)) → SixFields line e fs → ⊥) → f ≡ row_fault NotSixFields 0 0 → LineFault line f
  bad_letter : (e : List ℕ) (fs : List (List ℕ)) → SixFields line e fs → ((l : Letter) → e ≢ letter_byte l ∷ [])
      → f ≡ row_fault BadLetter 1 0 → LineFault line f
  at_number : (l : Letter) (fs : List (List ℕ)) → SixFields line (letter_byte l ∷ []) fs → NumberFault l fs f → LineFault line f

-- `NamesFault slip c`: the first line of the slip is at fault by the cause c
pub data NamesFault (slip : List ℕ) (c : Cause) : Type 0 where
  no_byte : slip ≡ [] → c ≡ NotNames → NamesFault slip c
  unended : (slip ≢ []) → Free 10 slip → c ≡ Unended → NamesFault slip c
  not_names : (line rest : List ℕ) → slip ≡ line ++ 10 ∷ rest → Free 10 line → (line ≢ names) → c ≡ NotNames → NamesFault slip c

-- `RowsFault rest b l f`: what is left of a slip from byte b on, where its line l begins, has no row first, but the fault f
pub data RowsFault (rest : List ℕ) (b l : ℕ) (f : Fault) : Type 0 where
  unended : (rest ≢ []) → Free 10 rest → f ≡ slip_fault Unended l 0 b → RowsFault rest b l f
  in_line : (line after : List ℕ) (g : RowFault) → rest ≡ line ++ 10 ∷ after → Free 10 line → LineFault line g
      → f ≡ placed g l b → RowsFault rest b l f

-- `Read slip vs b l`: the rows vs of the slip have been read, and byte b is where its line l begins, the next to read; at
-- the start nothing has been read, not even the names
pub data Read (slip : List ℕ) (vs : List Values) (b l : ℕ) : Type 0 where
  nothing : vs ≡ [] → b ≡ 0 → l ≡ 1 → Read slip vs b l
  up_to : length slip ≤ most_bytes → AllByRecursion Proper vs → slip ≡ slip_text vs ++ drop b slip → b ≡ length (slip_text vs) → l ≡ 2 + length vs
      → Read slip vs b l

-- `Holds slip vs o`: the slip holds the rows vs, and then ends, or has its first fault
pub data Holds (slip : List ℕ) (vs : List Values) (o : Option Fault) : Type 0 where
  whole : length slip ≤ most_bytes → AllByRecursion Proper vs → slip ≡ slip_text vs → o ≡ None → Holds slip vs o
  too_long : most_bytes < length slip → vs ≡ [] → o ≡ Some (slip_fault TooLong 0 0 0) → Holds slip vs o
  no_names : (c : Cause) → length slip ≤ most_bytes → NamesFault slip c → vs ≡ [] → o ≡ Some (slip_fault c 1 0 0) → Holds slip vs o
  at_row : (rest : List ℕ) (f : Fault) → length slip ≤ most_bytes → AllByRecursion Proper vs → slip ≡ slip_text vs ++ rest
      → RowsFault rest (length (slip_text vs)) (2 + length vs) f → o ≡ Some f → Holds slip vs o
