-- A list of calls, one after another: what has been so far, and what one call more does.
use Rattle.std.proofs.Common.{◌≡◌, ℕ, ◌+◌, ◌-◌, ◌<◌, ◌≤◌, ◌⊎◌, Bool, true, false, ◌||◌, List, [], ◌∷◌, ◌++◌, map, length, get_or, drop, set, replicate, Option, Some, sym, refl, ap, ◌∙◌, subst, inl, inr, arith}
use mathlib.Core.Path.{fun_ext}
use Rattle.std.proofs.Math.Seq.{drop-append_seam}
use Rattle.std.proofs.lemmas.List.{length-append, length-replicate, map-set, get_or-map, set-get_or}
use Rattle.std.proofs.lemmas.List.Folds.{list_any-append}
use Rattle.std.proofs.lemmas.List.Sums.{sum_by-append}
use Rattle.lengths.specs.Figures.{Figures}
use Rattle.books.specs.declared.states.State.{State}
use Rattle.looms.specs.declared.calls.Call.{Call}
use Rattle.looms.specs.declared.calls.Answer.{Answer}
use Rattle.looms.specs.declared.calls.Noted.{Noted}
use Rattle.books.specs.declared.edits.Edit.{Edit}
use Rattle.books.specs.declared.edits.Entry.{Entry}
use Rattle.books.specs.Edits.{Course, nothing, then, Wrote, end, wrote, idle, accepted_in, taken}
use Rattle.books.specs.States.{New, lefts}
use Rattle.books.proofs.Courses.{course_led}
use Rattle.books.proofs.Runs.{led_new}
use Rattle.looms.specs.Histories.{Right, LedTo, edit_of, edits_of, released_after, count_of}
use Rattle.looms.proofs.Goes.{edits_more}
use Rattle.looms.specs.Lists.{noted_figure, any_figure, is_figure, MemoryLeft, AllRight}

-- an element of a list with one more at its end is that one, or is one of the list
split : {A : Type 0} (ns : List A) (n : A) (before : List A) (m : A) (after : List A) → ns ++ n ∷ [] ≡ before ++ m ∷ after
    → ((before ≡ ns) × (m ≡ n)) ⊎ ((rest : List A) × (ns ≡ before ++ m ∷ rest))
split [] n [] m after e = let h : n ≡ m = cc in inl (refl, sym h)
split {A} [] n (b ∷ before) m after e =
    let t : [] ≡ before ++ m ∷ after = cc in
    absurd (omega (arith, ap length t ∙ length-append before (m ∷ after)))
split (x ∷ ns) n [] m after e = let h : x ≡ m = cc in inr (ns, ap (λ y. y ∷ ns) h)
split (x ∷ ns) n (b ∷ before) m after e =
    let h : x ≡ b = cc in
    let t : ns ++ n ∷ [] ≡ before ++ m ∷ after = cc in
    elim (split ns n before m after t) [
      | inl p ↦ inl (ap (λ y. y ∷ before) (sym h) ∙ ap (◌∷◌ x) p.0, p.1)
      | inr p ↦ inr (p.0, ap (◌∷◌ x) p.1 ∙ ap (λ y. y ∷ (before ++ m ∷ p.0)) h)
    ]

-- one course of edits, and another that goes on where it ends
pub course_on : {K : Type 0} {k : Figures K} {size : ℕ} {ns ms : List (Entry K)} {s t u : ℕ → State K} → Course k size ns s t → Course k size ms t u → Course k size (ns ++ ms) s u
course_on {K} {k} {size} {ns} {ms} {s} {t} {u} (nothing same) d = subst (λ (x : ℕ → State K). Course k size ms x u) (fun_ext same) d
course_on (then v e c) d = then v e (course_on c d)

-- and what they wrote
pub wrote_on : {B K : Type 0} {w : B → Edit K → B → Type 0} {ns ms : List (Entry K)} {a b c : B} → Wrote w a ns b → Wrote w b ms c → Wrote w a (ns ++ ms) c
wrote_on {B} {K} {w} {ns} {ms} {a} {b} {c} (end q) d = subst (λ (x : B). Wrote w x ms c) q d
wrote_on (wrote y h v) d = wrote y h (wrote_on v d)
wrote_on (idle y v) d = idle y (wrote_on v d)

module _ {K : Type 0} (k : Figures K) (size room : ℕ) where
  -- no call, and all right
  pub right_none : (first : ℕ → State K) → AllRight k size room first []
  right_none first [] n after e = let z : ◌≡◌ {A = ℕ} 0 1 = cc in absurd (omega arith)
  right_none first (b ∷ before) n after e = let z : ◌≡◌ {A = ℕ} 0 1 = cc in absurd (omega arith)

  -- a call more, and still all right
  pub right_more : (first s : ℕ → State K) (ns : List (Noted K)) (c : Call K) (a : Answer K) → Course k size (edits_of ns) first s
      → Right k size room (released_after false ns) s (count_of ns) c a → AllRight k size room first ns → AllRight k size room first (ns ++ record { call = c; answer = Some a } ∷ [])
  right_more first s ns c a course right was before m after e = elim (split ns (record { call = c; answer = Some a }) before m after e) [
    | inl p ↦ rw (p.0, p.1) (s, (course, (a, (refl, right))))
    | inr p ↦ was before m p.0 p.1
  ]

  -- what two calls, one after the other, leave of the memory
  pub memory_more : (f g : Bool) (before middle after : List K) → MemoryLeft k size f before middle → MemoryLeft k size g middle after → MemoryLeft k size (f || g) before after
  memory_more false false before middle after p q = q ∙ p
  memory_more false true before middle after p q = rw p at q
  memory_more true false before middle after p q = q ∙ p
  memory_more true true before middle after p q =
      q ∙ ap (λ (ms : List K). replicate size k.zero ++ ms)
      (ap (drop size) p ∙ subst (λ (n : ℕ). drop n (replicate size k.zero ++ drop size before) ≡ drop size before) (length-replicate size k.zero) (drop-append_seam (replicate size k.zero) (drop size before)))

  -- a call more was answered with a figure, or one before it was
  pub figure_more : (ns : List (Noted K)) (c : Call K) (a : Answer K) → any_figure (ns ++ record { call = c; answer = Some a } ∷ []) ≡ (any_figure ns || is_figure a)
  figure_more ns c a = list_any-append (λ (n : Noted K). noted_figure n.answer) ns (record { call = c; answer = Some a } ∷ []) ∙ ap (λ (b : Bool). any_figure ns || b) (last (is_figure a))
    where
      last : (b : Bool) → (b || false) ≡ b
      last true = refl
      last false = refl

-- noting an answer changes no call
pub calls_kept : {K : Type 0} (ns : List (Noted K)) (i : ℕ) (d : Noted K) (a : Option (Answer K)) → i < length ns
    → map (λ (n : Noted K). n.call) (set ns i (record { call = (get_or ns i d).call; answer = a })) ≡ map (λ (n : Noted K). n.call) ns
calls_kept {K} ns i d a h =
    map-set (λ (n : Noted K). n.call) ns i _
    ∙ ap (set (map (λ (n : Noted K). n.call) ns) i) (sym (get_or-map (λ (n : Noted K). n.call) ns i d d.call h))
    ∙ set-get_or (map (λ (n : Noted K). n.call) ns) i d.call

module _ {K : Type 0} where
  -- the edits of a list with a call more, and how many of them were accepted
  pub edits_on : (ns : List (Noted K)) (c : Call K) (a : Answer K) → edits_of (ns ++ record { call = c; answer = Some a } ∷ []) ≡ edits_of ns ++ edit_of c (Some a)
  edits_on ns c a = edits_more ns (record { call = c; answer = Some a })

  pub count_on : (ns : List (Noted K)) (c : Call K) (a : Answer K) → count_of (ns ++ record { call = c; answer = Some a } ∷ []) ≡ count_of ns + accepted_in (edit_of c (Some a))
  count_on ns c a = ap accepted_in (edits_on ns c a) ∙ sum_by-append (λ (m : Entry K). taken m.answer) (edits_of ns) (edit_of c (Some a))

-- a list of calls on a loom over a new book led to the loom
pub led_from : {K : Type 0} {k : Figures K} {size : ℕ} {first state : ℕ → State K} {released : Bool} {count : ℕ} (ns : List (Noted K)) → New k first
    → Course k size (edits_of ns) first state → released ≡ released_after false ns → count ≡ count_of ns → count + lefts state (size - 1) ≤ 510
    → LedTo k size ns released state count
led_from {first = first} ns new course stage count few = record { led = course_led [] course (led_new first new); stage = sym stage; counted = count; few = few }
