-- What the edits of a log come to.
use Rattle.std.specs.Prelude.{◌≡◌, ℕ, ◌+◌, ◌-◌, ◌*◌, ◌/◌, ◌≤◌, min, cond, List, map, length, take, drop, replicate, nat_le, slice_set, fold, sum_by}
use Rattle.lengths.specs.Figures.{Figures}
use Rattle.books.specs.declared.edits.Edit.{Edit}
use Rattle.books.specs.declared.states.State.{State}
use Rattle.books.specs.declared.states.State.TheVariants.{Blank}
use Rattle.books.specs.States.{New, left}
use Rattle.books.specs.Edits.{tag_of, written, accepted, Course}
use Rattle.rows.specs.declared.row.Row.{Row}
use Rattle.rows.specs.Rows.{row_of, state_of}

-- replaying one edit writes the row of its tag; replaying a list begins with its first edit, the oldest
abbrev pub replay_one : {K : Type 0} → List (Row K) → Edit K → List (Row K)
replay_one rows e = cond (nat_le 2 (tag_of e)) (slice_set rows (tag_of e - 2) (row_of (written e))) rows

abbrev pub replay : {K : Type 0} → List (Row K) → List (Edit K) → List (Row K)
replay rows es = fold replay_one rows es

-- the size: 1 plus the smaller of 255 and half the number of entries, rounded down
abbrev pub extent_of : {K : Type 0} → List (Edit K) → ℕ
extent_of entries = 1 + min 255 (length entries / 2)

-- (the entries and how many are used go apart here: what a log book is owed is said of them before there is a book)
-- the rows that the first `used` entries come to, from blank rows for the tags from 2 to the size on
unfoldable pub rows_of : {K : Type 0} → List (Edit K) → ℕ → List (Row K)
rows_of entries used = replay (replicate (extent_of entries - 1) (row_of Blank)) (take used entries)

-- the state of each tag, as these rows say it
abbrev pub log_state : {K : Type 0} → Figures K → List (Edit K) → ℕ → ℕ → State K
log_state k entries used = state_of k (rows_of entries used)

-- how many edits may still be accepted of all tags, by their rows
abbrev pub left_in : {K : Type 0} → List (Row K) → ℕ
left_in rows = sum_by (λ r. left r.state) rows

-- there are entries for all edits that may still be accepted
abbrev pub Roomy : {K : Type 0} → List (Edit K) → ℕ → Type 0
Roomy entries used = used + left_in (rows_of entries used) ≤ 2 * (extent_of entries - 1)

-- what is left of the entries from an earlier log to a later one: those that the earlier one kept, and those that hold no edit
-- of the later one
pub record Leaves {K : Type 0} (before : List (Edit K)) (used : ℕ) (after : List (Edit K)) (used' : ℕ) : Type 0 where
  pub longer : used ≤ used'
  pub kept : take used after ≡ take used before
  pub unused : drop used' after ≡ drop used' before

-- an edit more: it stands in the next entry, and no other entry is written
pub record Logs {K : Type 0} (before : List (Edit K)) (used : ℕ) (e : Edit K) (after : List (Edit K)) (used' : ℕ) : Type 0 where
  pub more : used' ≡ used + 1
  pub entry : after ≡ slice_set before used e

-- `Replays k entries used`: the edits kept, done one after another on a new book of this size, are all accepted and leave the
-- states that the log says
pub record Replays {K : Type 0} (k : Figures K) (entries : List (Edit K)) (used : ℕ) : Type 0 where
  pub fresh : ℕ → State K
  pub new : New k fresh
  pub course : Course k (extent_of entries) (map accepted (take used entries)) fresh (log_state k entries used)
