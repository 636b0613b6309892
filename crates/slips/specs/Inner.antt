-- What the functions that the crate keeps to itself say to each other. No promise to a user stands here.
use Rattle.std.specs.Prelude.{◌≡◌, ℕ, ◌+◌, List, map, Some, None, Ok, Err, Option, Result, ◌==◌, count_by}
use Rattle.slips.specs.declared.cursor.Reader.{Reader}
use Rattle.slips.specs.declared.faults.Fault.{Fault}
use Rattle.slips.specs.declared.rows.Field.{Field}
use Rattle.slips.specs.declared.rows.Row.{Row}
use Rattle.slips.specs.Layout.{Text, text, field_seen}
use Rattle.slips.specs.Seen.{Answer, a_row, a_fault, the_end, row_seen, place, moved}

-- how often the byte b stands in bs
abbrev pub count : ℕ → List ℕ → ℕ
count b bs = count_by (λ c. c == b) bs

-- the same bytes, so many bytes further on
abbrev pub shifted : ℕ → Text → Text
shifted b t = text t.bytes (b + t.place)

-- the fields of a row after its letter: their bytes, and their bytes with their places
abbrev pub bytes_of : List Field → List (List ℕ)
bytes_of fs = map (λ (f : Field). f.bytes.now) fs

abbrev pub parts_seen : List Field → List Text
parts_seen fs = map field_seen fs

-- what reading answers, where a row comes with the reader past it
abbrev pub outcome : Result (Option (Row × Reader)) Fault → Answer
outcome (Ok (Some p)) = a_row (row_seen p.0)
outcome (Ok None) = the_end
outcome (Err f) = a_fault f

-- the reader that comes with a row is one over the same slip, past the row's line
abbrev pub After : Reader → Result (Option (Row × Reader)) Fault → Type 0
After r (Ok (Some p)) = (p.1.slip ≡ r.slip) × (place p.1.byte p.1.line ≡ moved (a_row (row_seen p.0)) (place r.byte r.line))
After r (Ok None) = Unit {0}
After r (Err f) = Unit {0}
