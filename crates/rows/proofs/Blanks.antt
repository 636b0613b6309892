-- Rows that are made blank.
use Rattle.std.proofs.Common.{◌≡◌, ℕ, ◌-◌, ◌<◌, List, sym, ap, ◌∙◌, inl, inr, arith}
use Rattle.std.proofs.lemmas.Bool.{cases_lt}
use Rattle.lengths.specs.Figures.{Figures}
use Rattle.books.specs.declared.states.State.TheVariants.{Blank}
use Rattle.books.specs.States.{New}
use Rattle.rows.specs.declared.row.Row.{Row}
use Rattle.rows.specs.Rows.{row_at, extent_of, read, state_of, sound, Kept}
use Rattle.rows.proofs.Meaning.{state_root, state_low, state_beyond, state_row, read_blank}

module _ {K : Type 0} (rows : List (Row K)) (blank : (i : ℕ) → i < 255 → row_at rows i ≡ Blank) where
  pub blank_kept : Kept rows
  blank_kept i h = ap (sound rows) (blank i h)

  pub blank_new : (k : Figures K) → New k (state_of k rows)
  blank_new k = record {
    root = state_root k rows;
    blank = λ t n. elim (cases_lt t 2) [
      | inl low ↦ state_low k rows t low n
      | inr low ↦ elim (cases_lt (extent_of rows) t) [
        | inl out ↦ state_beyond k rows t out
        | inr in' ↦ state_row k rows t low in' ∙ ap (read k t (state_of k rows)) (blank (t - 2) (omega arith)) ∙ sym (read_blank k t (state_of k rows))
      ]
    ];
  }
