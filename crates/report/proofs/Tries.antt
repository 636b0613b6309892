-- The edits that rows ask for, and what they were answered.
use Rattle.std.proofs.Common.{◌≡◌, List, [], ◌∷◌, map, length, refl, sym, ap, ◌∙◌}
use lib.ListN.{length-map}
use Rattle.lengths.specs.Figures.{Figures}
use Rattle.books.specs.declared.edits.Edit.{Edit}
use Rattle.books.specs.declared.edits.Entry.{Entry}
use Rattle.books.specs.Edits.{Tried}
use Rattle.slips.specs.declared.rows.Row.{Row}
use Rattle.slips.specs.declared.rows.Values.{Values}
use Rattle.slips.specs.Seen.{values_in}
use Rattle.report.specs.Asked.{unanswered}

-- the edits of unanswered entries are those that the rows ask for
asked_all : {K : Type 0} (f : Values → Edit K) (rows : List Row) → map (λ (x : Entry K). x.edit) (map (λ (w : Row). unanswered (f w.values)) rows) ≡ map f (values_in rows)
asked_all f [] = refl
asked_all f (w ∷ rows) = ap (◌∷◌ (f w.values)) (asked_all f rows)

module _ {K : Type 0} {k : Figures K} (f : Values → Edit K) where
  -- what was tried is what the rows asked for
  pub tried_as : {xs ys ns : List (Entry K)} {rs rows : List Row} → Tried k 256 (map (λ (x : Entry K). x.edit) xs) ns → xs ≡ ys → ys ≡ map (λ (w : Row). unanswered (f w.values)) rs → rs ≡ rows
      → Tried k 256 (map f (values_in rows)) ns
  tried_as {rs = rs} t a b c = record {
    fresh = t.fresh;
    left = t.left;
    new = t.new;
    course = t.course;
    same = t.same ∙ ap (map (λ (x : Entry K). x.edit)) (a ∙ b) ∙ asked_all f rs ∙ ap (λ (ws : List Row). map f (values_in ws)) c;
  }

-- lists with the same edits are as long
pub as_many : {K : Type 0} (xs ys : List (Entry K)) → map (λ (x : Entry K). x.edit) xs ≡ map (λ (x : Entry K). x.edit) ys → length xs ≡ length ys
as_many {K} xs ys e = sym (length-map xs (λ (x : Entry K). x.edit)) ∙ ap length e ∙ length-map ys (λ (x : Entry K). x.edit)
