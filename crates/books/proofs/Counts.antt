-- How many edits a book accepts: each takes one from what is left of the tags.
use Rattle.std.proofs.Common.{◌≡◌, ℕ, zero, suc, ◌+◌, ◌-◌, ◌*◌, ◌<◌, ◌≤◌, List, Some, Ok, Err, Result, refl, ap, ◌∙◌, inl, inr, arith}
use Rattle.std.proofs.lemmas.Bool.{cases_Bool, cases_eq}
use Rattle.std.proofs.lemmas.List.Sums.{sum_by-cons}
use Rattle.lengths.specs.Figures.{Figures}
use Rattle.books.specs.declared.causes.Refused.{Refused}
use Rattle.books.specs.declared.edits.Edit.{Edit}
use Rattle.books.specs.declared.edits.Edit.TheVariants.{Growth, Strike}
use Rattle.books.specs.declared.edits.Entry.{Entry}
use Rattle.books.specs.declared.states.Spur.{Spur}
use Rattle.books.specs.declared.states.State.{State}
use Rattle.books.specs.declared.states.State.TheVariants.{Blank, Struck, Standing}
use Rattle.books.specs.Edits.{Done, Course, nothing, then, verdict, taken, accepted_in}
use Rattle.books.specs.States.{is_struck, left, lefts, Grown, StruckOut, Same}
use Rattle.books.proofs.Courses.{struck_as, out_apart}
use Rattle.books.proofs.Steps.{standing_as}
use Rattle.books.proofs.Tables.{may_grow, may_strike}

left_most : {K : Type 0} (s : State K) → left s ≤ 2
left_most Blank = omega arith
left_most Struck = omega arith
left_most (Standing s) = omega arith

pub lefts_most : {K : Type 0} (f : ℕ → State K) (n : ℕ) → lefts f n ≤ 2 * n
unfolding lefts
lefts_most f zero = omega arith
lefts_most f (suc n) = omega (arith, left_most (f (n + 2)), lefts_most f n)

module _ {K : Type 0} (f g : ℕ → State K) (less : (t : ℕ) → left (g t) ≤ left (f t)) where
  lefts_le : (n : ℕ) → lefts g n ≤ lefts f n
  unfolding lefts
  lefts_le zero = omega arith
  lefts_le (suc n) = omega (arith, less (n + 2), lefts_le n)

  -- one tag that has less makes the sum less
  lefts_lt : (tag n : ℕ) → 2 ≤ tag → tag < n + 2 → left (g tag) < left (f tag) → lefts g n < lefts f n
  unfolding lefts
  lefts_lt tag zero a b h = absurd (omega arith)
  lefts_lt tag (suc n) a b h = elim (cases_eq tag (n + 2)) [
    | inl e ↦
        let x : left (g tag) ≡ left (g (n + 2)) = ap (λ (t : ℕ). left (g t)) e in
        let y : left (f tag) ≡ left (f (n + 2)) = ap (λ (t : ℕ). left (f t)) e in
        omega (arith, lefts_le n)
    | inr e ↦ omega (arith, less (n + 2), lefts_lt tag n a (omega arith) h)
  ]

grown_less : {K : Type 0} {s t : ℕ → State K} {tag : ℕ} {v : Spur K} → s tag ≡ Blank → Grown s t tag (Standing v) → (x : ℕ) → left (t x) ≤ left (s x)
grown_less {K} {s} {t} {tag} e grown x = elim (cases_eq x tag) [
  | inl q ↦
      let a : left (s x) ≡ 2 = ap left (ap s q ∙ e) in
      omega (arith, left_most (t x))
  | inr n ↦ let a : left (t x) ≡ left (s x) = ap left (grown.kept x n) in omega arith
]

out_less : {K : Type 0} {s t : ℕ → State K} {tag : ℕ} → StruckOut s t tag → (x : ℕ) → left (t x) ≤ left (s x)
out_less {K} {s} {t} out x = elim (cases_Bool (is_struck (t x))) [
  | inl y ↦ let a : left (t x) ≡ 0 = ap left (struck_as (t x) y) in omega arith
  | inr n ↦ let m = out_apart out x n in let a : left (t x) ≡ left (s x) = ap left (out.kept x m.0 m.1) in omega arith
]

same_less : {K : Type 0} {s t : ℕ → State K} (n : ℕ) → Same s t → lefts t n ≤ lefts s n
same_less {K} {s} {t} n same = lefts_le s t (λ x. let a : left (t x) ≡ left (s x) = ap left (same x) in omega arith) n

-- an edit takes one from what is left, if it was accepted
done_less : {K : Type 0} (k : Figures K) (size : ℕ) (s t : ℕ → State K) (e : Edit K) (r : Result (Unit {0}) Refused) → r ≡ verdict k size s e → Done e r s t → taken (Some r) + lefts t (size - 1) ≤ lefts s (size - 1)
done_less k size s t (Growth tag x) (Ok u) v d =
    let may = may_grow k size s tag x v in
    let was : left (s tag) ≡ 2 = ap left may.empty in
    let is : left (t tag) ≡ 1 = ap left d.stood in
    omega (arith, lefts_lt s t (grown_less may.empty d) tag (size - 1) may.low (omega (arith, may.high, may.low)) (omega arith))
done_less k size s t (Strike tag) (Ok u) v d =
    let may = may_strike k size s tag v in
    let up = standing_as (s tag) may.up in
    let was : left (s tag) ≡ 1 = ap left up.1 in
    let is : left (t tag) ≡ 0 = ap left d.named in
    omega (arith, lefts_lt s t (out_less d) tag (size - 1) may.low (omega (arith, may.high, may.low)) (omega arith))
done_less k size s t (Growth tag x) (Err f) v d = omega (arith, same_less {s = s} {t = t} (size - 1) d)
done_less k size s t (Strike tag) (Err f) v d = omega (arith, same_less {s = s} {t = t} (size - 1) d)

pub course_less : {K : Type 0} {k : Figures K} {size : ℕ} {ns : List (Entry K)} {s t : ℕ → State K} → Course k size ns s t → accepted_in ns + lefts t (size - 1) ≤ lefts s (size - 1)
course_less {K} {k} {size} {ns} {s} {t} (nothing same) = omega (arith, same_less {s = s} {t = t} (size - 1) same)
course_less {K} {k} {size} {ns} {s} {t} (then {n = n} {ns = rest} {t = u} v d c) = omega (arith, sum_by-cons (λ (m : Entry K). taken m.answer) n rest, ap taken v, done_less k size s u n.edit _ refl d, course_less c)

pub course_few : {K : Type 0} {k : Figures K} {size : ℕ} {ns : List (Entry K)} {s t : ℕ → State K} → Course k size ns s t → accepted_in ns ≤ 2 * (size - 1)
course_few {K} {k} {size} {ns} {s} {t} c = omega (arith, course_less c, lefts_most s (size - 1))
