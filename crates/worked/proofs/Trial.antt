-- The edits of the table done on a new book, with their answers; no book answers them otherwise.
use Rattle.std.proofs.Common.{◌≡◌, ℕ, zero, suc, ◌≤◌, cond, eqb, List, [], ◌∷◌, map, Some, Err, sym, refl, ap, ◌∙◌, subst, arith}
use Rattle.std.proofs.lemmas.Bool.{cond-true, cond-false, eq-eqb, ne_eqb}
use Rattle.lengths.specs.Whole.{Millimetres, mm, millimetres}
use Rattle.books.specs.declared.causes.Refusal.{Refusal}
use Rattle.books.specs.declared.causes.Refusal.TheVariants.{OutOfRange, BadParent, BadRun, TagStands, TagStruck, ParentBlank, ParentStruck, TagBlank}
use Rattle.books.specs.declared.edits.Edit.{Edit}
use Rattle.books.specs.declared.edits.Edit.TheVariants.{Strike}
use Rattle.books.specs.declared.edits.Entry.{Entry}
use Rattle.books.specs.declared.states.Spur.{Spur}
use Rattle.books.specs.declared.states.State.{State}
use Rattle.books.specs.declared.states.State.TheVariants.{Blank, Struck, Standing}
use Rattle.books.specs.Edits.{accepted, Tried, nothing, then}
use Rattle.books.specs.States as states
use Rattle.books.specs.States.{root_spur, New, Hangs, Grown, StruckOut}
use Rattle.books.proofs.Courses.{tried_once}
use Rattle.worked.specs.Worked.{growth_of, cases, WorkedOut}

-- states with that of one tag put in
abbrev put : (ℕ → State Millimetres) → ℕ → State Millimetres → ℕ → State Millimetres
put s tag new t = cond (eqb t tag) new (s t)

put_other : (s : ℕ → State Millimetres) (tag : ℕ) (new : State Millimetres) (t : ℕ) → (t ≡ tag → ⊥) → put s tag new t ≡ s t
put_other s tag new t n = cond-false _ _ _ (ne_eqb t tag n)

put_grown : (s : ℕ → State Millimetres) (tag : ℕ) (new : State Millimetres) → Grown s (put s tag new) tag new
put_grown s tag new = record { stood = cond-true _ _ _ (eq-eqb tag tag refl); kept = put_other s tag new }

-- the states of a new book; those after the growth of 2, then after that of 4, then after the strike of 2
abbrev none : ℕ → State Millimetres
none t = Blank

abbrev start : ℕ → State Millimetres
start = put none 1 (Standing (root_spur mm))

abbrev with_two : ℕ → State Millimetres
with_two = put start 2 (Standing (record { parent = 1; run = millimetres 1000000; drop = millimetres 0 }))

abbrev with_four : ℕ → State Millimetres
with_four = put with_two 4 (Standing (record { parent = 2; run = millimetres 1; drop = millimetres 0 }))

abbrev struck : ℕ → State Millimetres
struck = put (put with_four 4 Struck) 2 Struck

start_new : New mm start
start_new = record { root = refl; blank = put_other none 1 _ }

-- a state that stands by one spur says so of its parent
parent_of : (x s : Spur Millimetres) → Standing x ≡ Standing s → s.parent ≡ x.parent
parent_of x s e = let q : s ≡ x = cc in ap (λ (v : Spur Millimetres). v.parent) q

-- before the strike no tag but 4 has a parent other than the root, and its parent is 2
parents : (t : ℕ) (s : Spur Millimetres) → with_four t ≡ Standing s → 2 ≤ s.parent → (t ≡ 4) × (s.parent ≡ 2)
parents zero s e h = let z : ◌≡◌ {A = ℕ} 0 1 = cc in absurd (omega arith)
parents (suc zero) s e h = absurd (omega (arith, parent_of _ s e))
parents (suc (suc zero)) s e h = absurd (omega (arith, parent_of _ s e))
parents (suc (suc (suc zero))) s e h = let z : ◌≡◌ {A = ℕ} 0 1 = cc in absurd (omega arith)
parents (suc (suc (suc (suc zero)))) s e h = (refl, parent_of _ s e)
parents (suc (suc (suc (suc (suc u))))) s e h =
    let t = suc (suc (suc (suc (suc u)))) in
    let b : with_four t ≡ Blank = put_other with_two 4 _ t (λ x. omega arith) ∙ put_other start 2 _ t (λ x. omega arith) ∙ put_other none 1 _ t (λ x. omega arith) in
    let z : ◌≡◌ {A = ℕ} 0 1 = cc in
    absurd (omega arith)

-- so only 4 hangs from 2
only_four : {t : ℕ} → Hangs with_four 2 t → t ≡ 4
only_four (states.child {t = t} {s = s} e p) = (parents t s e (omega (arith, p))).0
only_four (states.under {t = t} {s = s} e c) = (parents t s e (omega (arith, only_four c))).0

struck_out : StruckOut with_four struck 2
struck_out = record {
  named = refl;
  with_it = λ t c. ap struck (only_four c);
  kept = λ t n m. put_other (put with_four 4 Struck) 2 Struck t n ∙ put_other with_four 4 Struck t (λ e. m (subst (Hangs with_four 2) (sym e) (states.child refl refl)));
}

-- the edits with their answers
abbrev refused : Edit Millimetres → Refusal → ℕ → Entry Millimetres
refused e r tag = record { edit = e; answer = Some (Err (record { cause = r; tag = tag })) }

abbrev answered : List (Entry Millimetres)
answered =
    refused (growth_of 3 3 0) BadParent 3
    ∷ (refused (growth_of 2 1 0) BadRun 2
    ∷ (refused (growth_of 2 1 1000001) BadRun 2
    ∷ (refused (growth_of 257 1 1) OutOfRange 257
    ∷ (refused (growth_of 4 2 1) ParentBlank 4
    ∷ (accepted (growth_of 2 1 1000000)
    ∷ (refused (growth_of 2 1 1) TagStands 2
    ∷ (accepted (growth_of 4 2 1)
    ∷ (refused (Strike 5) TagBlank 5
    ∷ (accepted (Strike 2)
    ∷ (refused (Strike 4) TagStruck 4
    ∷ (refused (growth_of 4 1 1) TagStruck 4
    ∷ (refused (growth_of 5 4 1) ParentStruck 5
    ∷ []))))))))))))

-- each answer is what the states before its edit call for, which is computed
done : Tried mm 256 (map (λ c. c.edit) cases) answered
done = record {
  fresh = start;
  left = struck;
  new = start_new;
  course =
      then refl (λ t. refl) (then refl (λ t. refl) (then refl (λ t. refl) (then refl (λ t. refl) (then refl (λ t. refl)
      (then refl (put_grown start 2 _) (then refl (λ t. refl)
      (then refl (put_grown with_two 4 _) (then refl (λ t. refl)
      (then refl struck_out
      (then refl (λ t. refl) (then refl (λ t. refl) (then refl (λ t. refl)
      (nothing (λ t. refl))))))))))))));
  same = refl;
}

pub worked_out : WorkedOut cases
worked_out = record { noted = answered; tried = done; numbers = refl; only = λ ns t. tried_once done t }
