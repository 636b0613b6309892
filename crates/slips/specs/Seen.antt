-- What a reader hands out, as its bytes and places say it, and what reading answers.
use Rattle.std.specs.Prelude.{◌≡◌, ℕ, ◌+◌, ◌<◌, ◌≤◌, List, [], ◌∷◌, ◌++◌, map, length, take, drop, Some, None, Ok, Err, decimal, Option, Result, ◌≢◌}
use Rattle.std.specs.List.{AllByRecursion}
use Rattle.slips.specs.declared.faults.Cause.{Cause}
use Rattle.slips.specs.declared.faults.Cause.TheVariants.{TooLong}
use Rattle.slips.specs.declared.faults.Fault.{Fault}
use Rattle.slips.specs.declared.rows.Values.{Values}
use Rattle.slips.specs.declared.rows.Row.{Row}
use Rattle.slips.specs.Causes.{slip_fault}
use Rattle.slips.specs.Format.{most_bytes, letter_byte, numbers, Proper, row_line, names_line}
use Rattle.slips.specs.Layout.{Text, field_seen, Part, laid}
use Rattle.slips.specs.Rules.{NamesFault, RowsFault, Read, Holds}

-- a row as it was found: its line, where that begins, its six fields with their places in the slip, and its values
pub record Found : Type 0 where
  pub line : ℕ
  pub byte : ℕ
  pub fields : List Text
  pub values : Values

-- the row of the values v on the line l, which begins at byte b
abbrev pub found : ℕ → ℕ → Values → Found
found b l v = record { line = l; byte = b; fields = laid b ((letter_byte v.letter ∷ []) ∷ map decimal (numbers v)); values = v }

abbrev pub row_seen : Row → Found
row_seen r = record {
  line = r.line;
  byte = r.letter.place;
  fields = field_seen r.letter ∷ (field_seen r.tag ∷ (field_seen r.parent ∷ (field_seen r.couplings ∷ (field_seen r.run ∷ (field_seen r.drop ∷ [])))));
  values = r.values;
}

-- rows that stand one after another, the first on the line l, which begins at byte b
abbrev pub found_from : ℕ → ℕ → List Values → List Found
found_from b l [] = []
found_from b l (v ∷ vs) = found b l v ∷ found_from (b + length (row_line v)) (l + 1) vs

-- the values of rows
abbrev pub values_in : List Row → List Values
values_in rs = map (λ r. r.values) rs

-- what reading answers
pub data Answer : Type 0 where
  a_row : Found → Answer
  a_fault : Fault → Answer
  the_end : Answer

abbrev pub seen : Result (Option Row) Fault → Answer
seen (Ok (Some r)) = a_row (row_seen r)
seen (Ok None) = the_end
seen (Err f) = a_fault f

-- what is so of a row handed out: it is proper, the slip has its line, as it is written, from the row's first byte on, and
-- its fields are parts of the slip
pub record Handed (slip : List ℕ) (r : Found) : Type 0 where
  pub proper : Proper r.values
  pub written : take (length (row_line r.values)) (drop r.byte slip) ≡ row_line r.values
  pub parts : AllByRecursion (Part slip) r.fields

abbrev pub HandsOut : List ℕ → Answer → Type 0
HandsOut slip (a_row r) = Handed slip r
HandsOut slip (a_fault f) = Unit {0}
HandsOut slip the_end = Unit {0}

-- `RowsAnswer rest b l a`: a is the answer where rest is left of the slip, from byte b on, where its line l begins
pub data RowsAnswer (rest : List ℕ) (b l : ℕ) (a : Answer) : Type 0 where
  ends : rest ≡ [] → a ≡ the_end → RowsAnswer rest b l a
  faulty : (f : Fault) → RowsFault rest b l f → a ≡ a_fault f → RowsAnswer rest b l a
  row : (v : Values) (after : List ℕ) → Proper v → rest ≡ row_line v ++ after → a ≡ a_row (found b l v) → RowsAnswer rest b l a

-- `Answers slip b l a`: a is the answer of a reader that stands at byte b of the slip, where the line l begins; at
-- line 1 the names line has not been read
pub data Answers (slip : List ℕ) (b l : ℕ) (a : Answer) : Type 0 where
  too_long : most_bytes < length slip → a ≡ a_fault (slip_fault TooLong 0 0 0) → Answers slip b l a
  no_names : (c : Cause) → length slip ≤ most_bytes → l ≡ 1 → NamesFault slip c → a ≡ a_fault (slip_fault c 1 0 0) → Answers slip b l a
  first : (rest : List ℕ) → length slip ≤ most_bytes → l ≡ 1 → slip ≡ names_line ++ rest → RowsAnswer rest (length names_line) 2 a → Answers slip b l a
  later : length slip ≤ most_bytes → (l ≢ 1) → RowsAnswer (drop b slip) b l a → Answers slip b l a

-- where the reader stands after an answer: a row moves it past the row's line, a fault and the end leave it
pub record Place : Type 0 where
  pub byte : ℕ
  pub line : ℕ

abbrev pub place : ℕ → ℕ → Place
place b l = record { byte = b; line = l }

abbrev pub moved : Answer → Place → Place
moved (a_row r) p = place (r.byte + length (row_line r.values)) (r.line + 1)
moved (a_fault f) p = p
moved the_end p = p

-- `Continues slip vs a b l`: where the rows vs had been read, so it goes on from the answer a, with the reader at byte b and
-- line l: one row more has been read, or the slip holds just vs and then has its fault, or ends
abbrev pub Continues : List ℕ → List Values → Answer → ℕ → ℕ → Type 0
Continues slip vs (a_row r) b l = Read slip (vs ++ r.values ∷ []) b l
Continues slip vs (a_fault f) b l = Holds slip vs (Some f)
Continues slip vs the_end b l = Holds slip vs None
