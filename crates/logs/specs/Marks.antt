-- Marks: how the program keeps the rows that edits come to while it replays them. No promise to a user speaks of them.
use Rattle.std.specs.Prelude.{ℕ, ◌-◌, cond, List, map, Option, Some, None, nat_le, slice_index_or, slice_set}
use Rattle.books.specs.declared.edits.Edit.{Edit}
use Rattle.books.specs.declared.states.State.TheVariants.{Blank}
use Rattle.books.specs.Edits.{tag_of, written}
use Rattle.rows.specs.declared.row.Row.{Row}
use Rattle.rows.specs.Rows.{row_of}

-- the rows that marks stand for: none for a blank row, and else the index of the edit that wrote the row
abbrev pub row_by : {K : Type 0} → List (Edit K) → Option ℕ → Row K
row_by edits None = row_of Blank
row_by edits (Some i) = row_of (slice_index_or (map written edits) i Blank)

abbrev pub rows_by : {K : Type 0} → List (Edit K) → List (Option ℕ) → List (Row K)
rows_by edits marks = map (row_by edits) marks

-- marking one edit
abbrev pub mark_one : {K : Type 0} → List (Option ℕ) → Edit K → ℕ → List (Option ℕ)
mark_one marks e i = cond (nat_le 2 (tag_of e)) (slice_set marks (tag_of e - 2) (Some i)) marks
