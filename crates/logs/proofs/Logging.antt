-- An edit more in a log: the rows it comes to, and that there is room for it.
use Rattle.std.proofs.Common.{◌≡◌, ℕ, zero, suc, ◌+◌, ◌-◌, ◌/◌, ◌<◌, ◌≤◌, min, leb, List, [], ◌∷◌, length, take, set, replicate, refl, ap, ◌∙◌, inl, inr, arith}
use Rattle.std.proofs.lemmas.List.{length-set, length-replicate, take_more_set}
use Rattle.std.proofs.lemmas.List.Folds.{sum_by-replicate}
use Rattle.std.proofs.lemmas.List.Sums.{fold_push, sum_by-set, get_or-le-sum_by}
use Rattle.std.proofs.lemmas.Bool.{cases_Bool, le-leb, cond-true, cond-false}
use Rattle.books.specs.declared.edits.Edit.{Edit}
use Rattle.books.specs.declared.states.State.TheVariants.{Blank}
use Rattle.books.specs.States.{left}
use Rattle.rows.specs.declared.row.Row.{Row}
use Rattle.rows.specs.Rows as rows
use Rattle.rows.specs.Rows.{row_of, row_at}
use Rattle.books.specs.Edits.{tag_of, written}
use Rattle.logs.specs.Logs.{replay_one, replay, extent_of, rows_of, left_in, Roomy}

one_length : {K : Type 0} (rs : List (Row K)) (e : Edit K) → length (replay_one rs e) ≡ length rs
one_length rs e = elim (cases_Bool (leb 2 (tag_of e))) [
  | inl y ↦ ap length (cond-true _ _ _ y) ∙ length-set rs (tag_of e - 2) (row_of (written e))
  | inr n ↦ ap length (cond-false _ _ _ n)
]

replay_length : {K : Type 0} (rs : List (Row K)) (es : List (Edit K)) → length (replay rs es) ≡ length rs
replay_length rs [] = refl
replay_length rs (e ∷ es) = replay_length (replay_one rs e) es ∙ one_length rs e

-- a log without edits: blank rows, and room for all
pub empty_rows : {K : Type 0} (entries : List (Edit K)) (i : ℕ) → i < 255 → row_at (rows_of entries 0) i ≡ Blank
unfolding rows_of
empty_rows {K} entries i h = blank_rows (extent_of entries - 1) i
  where
    blank_rows : (n i : ℕ) → row_at (replicate n (row_of {K = K} Blank)) i ≡ Blank
    blank_rows zero i = refl
    blank_rows (suc n) zero = refl
    blank_rows (suc n) (suc i) = blank_rows n i

pub empty_room : {K : Type 0} (entries : List (Edit K)) → Roomy entries 0
unfolding rows_of
empty_room {K} entries = omega (arith, sum_by-replicate (λ (r : Row K). left r.state) (extent_of entries - 1) (row_of Blank))

module _ {K : Type 0} (entries : List (Edit K)) (used : ℕ) where
  rows_length : length (rows_of entries used) ≡ extent_of entries - 1
  unfolding rows_of
  rows_length = replay_length (replicate (extent_of entries - 1) (row_of Blank)) (take used entries) ∙ length-replicate (extent_of entries - 1) (row_of {K = K} Blank)

  -- the rows are those of a book of the log's size
  pub rows_extent : rows.extent_of (rows_of entries used) ≡ extent_of entries
  rows_extent = omega (arith, rows_length)

  -- what is written last
  pub rows_more : (e : Edit K) → used < length entries → rows_of (set entries used e) (used + 1) ≡ replay_one (rows_of entries used) e
  unfolding rows_of
  rows_more e h =
      let same : extent_of (set entries used e) ≡ extent_of entries = ap (λ (n : ℕ). 1 + min 255 (n / 2)) (length-set entries used e) in
      ap (λ (n : ℕ). replay (replicate (n - 1) (row_of Blank)) (take (used + 1) (set entries used e))) same
      ∙ ap (replay (replicate (extent_of entries - 1) (row_of Blank))) (take_more_set entries used e h)
      ∙ fold_push replay_one (replicate (extent_of entries - 1) (row_of Blank)) (take used entries) e

  module _ (e : Edit K) (low : 2 ≤ tag_of e) (high : tag_of e ≤ extent_of entries) (room : Roomy entries used) where
    row_within : tag_of e - 2 < length (rows_of entries used)
    row_within = omega (arith, rows_length)

    -- where a tag has an edit left, there is an entry for it
    pub fits : 1 ≤ left (row_at (rows_of entries used) (tag_of e - 2)) → used < length entries
    fits some = omega (arith, get_or-le-sum_by (λ (r : Row K). left r.state) (rows_of entries used) (tag_of e - 2) (row_of Blank) row_within)

    pub rows_set : used < length entries → rows_of (set entries used e) (used + 1) ≡ set (rows_of entries used) (tag_of e - 2) (row_of (written e))
    rows_set h = rows_more e h ∙ cond-true _ _ _ (le-leb 2 (tag_of e) low)

    pub roomy_more : used < length entries → left (row_at (rows_of entries used) (tag_of e - 2)) ≡ left (written e) + 1 → Roomy (set entries used e) (used + 1)
    roomy_more h step =
        let a = sum_by-set (λ (r : Row K). left r.state) (rows_of entries used) (tag_of e - 2) (row_of (written e)) (row_of Blank) row_within in
        let b : left_in (rows_of (set entries used e) (used + 1)) ≡ left_in (set (rows_of entries used) (tag_of e - 2) (row_of (written e))) = ap left_in (rows_set h) in
        let c : extent_of (set entries used e) ≡ extent_of entries = ap (λ (n : ℕ). 1 + min 255 (n / 2)) (length-set entries used e) in
        omega arith
