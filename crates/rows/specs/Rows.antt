-- What rows say of each tag.
use Rattle.std.specs.Prelude.{◌≡◌, ℕ, zero, suc, ◌+◌, ◌-◌, ◌<◌, min, Bool, true, cond, not, ◌&&◌, ◌||◌, List, length, ◌==◌, nat_le, nat_lt, slice_index_or}
use Rattle.lengths.specs.Figures.{Figures}
use Rattle.books.specs.declared.states.Spur.{Spur}
use Rattle.books.specs.declared.states.State.{State}
use Rattle.books.specs.declared.states.State.TheVariants.{Blank, Struck, Standing}
use Rattle.books.specs.States.{is_blank, stands, root_spur}
use Rattle.rows.specs.declared.row.Row.{Row}

-- a row that says this state
abbrev pub row_of : {K : Type 0} → State K → Row K
row_of s = record { state = s }

-- what the row at index i says, and blank past the last row
abbrev pub row_at : {K : Type 0} → List (Row K) → ℕ → State K
row_at rows i = (slice_index_or rows i (row_of Blank)).state

-- the size: 1 plus the smaller of 255 and the number of rows
abbrev pub extent_of : {K : Type 0} → List (Row K) → ℕ
extent_of rows = 1 + min 255 (length rows)

-- the tag t may stand by the spur s, leaving aside whether the parent stands
abbrev pub fit : {K : Type 0} → Figures K → ℕ → Spur K → Bool
fit k t s = nat_le 1 s.parent && (nat_lt s.parent t && (k.less k.zero s.run && (k.entry s.run && k.entry s.drop)))

-- what a row says of the tag t, where the tags before it have the states up: standing only on a parent that stands
unfoldable pub read : {K : Type 0} → Figures K → ℕ → (ℕ → State K) → State K → State K
read k t up Blank = Blank
read k t up Struck = Struck
read k t up (Standing s) = cond (fit k t s && stands (up s.parent)) (Standing s) Struck

-- the state of the tag t, and the number n bounds how often a parent is looked up
unfoldable pub states : {K : Type 0} → Figures K → List (Row K) → ℕ → ℕ → State K
states k rows zero t = Blank
states k rows (suc n) t =
    cond (t == 1) (Standing (root_spur k))
    (cond (nat_le 2 t && nat_le t (extent_of rows)) (read k t (states k rows n) (row_at rows (t - 2))) Blank)

-- a parent is smaller than its tag, so that t looks are enough
unfoldable pub state_of : {K : Type 0} → Figures K → List (Row K) → ℕ → State K
state_of k rows t = states k rows t t

-- a row that says that a tag stands names as parent 0, the root or a tag whose row is not blank
abbrev pub sound : {K : Type 0} → List (Row K) → State K → Bool
sound rows Blank = true
sound rows Struck = true
sound rows (Standing s) = nat_lt s.parent 2 || not (is_blank (row_at rows (s.parent - 2)))

-- so of all rows that are used. Then a tag that is grown anew has nothing that hangs from it already
abbrev pub Kept : {K : Type 0} → List (Row K) → Type 0
Kept rows = (i : ℕ) → i < 255 → sound rows (row_at rows i) ≡ true
