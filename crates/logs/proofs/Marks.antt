-- Marks that stand for rows.
use Rattle.std.proofs.Common.{◌≡◌, ℕ, zero, suc, ◌+◌, ◌-◌, ◌<◌, ◌≤◌, leb, List, ◌∷◌, ◌++◌, Option, Some, None, length, get_or, take, set, replicate, sym, refl, ap, ◌∙◌, inl, inr, arith}
use Rattle.std.proofs.lemmas.List.{map-set, get_or-map, take_all, take-append-le, take-replicate, length-replicate}
use Rattle.std.proofs.lemmas.Bool.{cases_Bool, cond-true, cond-false}
use Rattle.books.specs.declared.edits.Edit.{Edit}
use Rattle.books.specs.declared.states.State.{State}
use Rattle.books.specs.declared.states.State.TheVariants.{Blank}
use Rattle.rows.specs.Rows.{row_of}
use Rattle.books.specs.Edits.{tag_of, written}
use Rattle.logs.specs.Logs.{replay_one, replay}
use Rattle.logs.specs.Marks.{row_by, mark_one, rows_by}
use Rattle.std.proofs.lemmas.List.Sums.{fold_more}
use Rattle.std.specs.List.{refill}

-- an edit that is marked is replayed
marked : {K : Type 0} (edits : List (Edit K)) (marks : List (Option ℕ)) (i : ℕ) (d : Edit K) → i < length edits
    → rows_by edits (mark_one marks (get_or edits i d) i) ≡ replay_one (rows_by edits marks) (get_or edits i d)
marked {K} edits marks i d h =
    let t = tag_of (get_or edits i d) in
    elim (cases_Bool (leb 2 t)) [
      | inl y ↦
          ap (rows_by edits) (cond-true _ _ _ y) ∙ map-set (row_by edits) marks (t - 2) (Some i)
          ∙ ap (λ (s : State K). set (rows_by edits marks) (t - 2) (row_of s)) (get_or-map written edits i d Blank h) ∙ sym (cond-true _ _ _ y)
      | inr n ↦ ap (rows_by edits) (cond-false _ _ _ n) ∙ sym (cond-false _ _ _ n)
    ]

-- one edit more
pub marked_next : {K : Type 0} (edits : List (Edit K)) (marks all : List (Option ℕ)) (i : ℕ) (d : Edit K) → i < length edits
    → rows_by edits marks ≡ replay (rows_by edits all) (take i edits)
    → rows_by edits (mark_one marks (get_or edits i d) i) ≡ replay (rows_by edits all) (take (i + 1) edits)
marked_next edits marks all i d h e =
    marked edits marks i d h ∙ ap (λ rs. replay_one rs (get_or edits i d)) e
    ∙ sym (fold_more replay_one (rows_by edits all) edits i d h)

-- no marks are blank rows
pub no_marks : {K : Type 0} (edits : List (Edit K)) (n : ℕ) → rows_by edits (replicate n None) ≡ replicate n (row_of Blank)
no_marks edits zero = refl
no_marks edits (suc n) = ap (λ rs. row_of Blank ∷ rs) (no_marks edits n)

-- edits that are marked on no marks, which are put back, come to what they come to on blank rows
pub marked_refill : {K : Type 0} (edits : List (Edit K)) (count : ℕ) (xs marks : List (Option ℕ)) → count ≤ 255 → xs ≡ take count (replicate {A = Option ℕ} 255 None)
    → length marks ≡ length xs → rows_by edits marks ≡ replay (rows_by edits xs) edits → rows_by edits (refill (length xs) xs marks) ≡ replay (replicate count (row_of Blank)) edits
marked_refill edits count xs marks within is long h =
    ap (rows_by edits) (take-append-le (length xs) marks _ (omega arith) ∙ take_all (length xs) marks (omega arith))
    ∙ h ∙ ap (λ (ms : List (Option ℕ)). replay (rows_by edits ms) edits) (is ∙ take-replicate count 255 None within) ∙ ap (λ rs. replay rs edits) (no_marks edits count)
