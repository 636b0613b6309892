-- How a history goes on with a call.
use Rattle.std.proofs.Common.{◌≡◌, ℕ, ◌+◌, ◌-◌, ◌≤◌, min, Bool, false, List, [], ◌∷◌, ◌++◌, Option, Some, Ok, Err, Result, OnOk, OnErr, sym, refl, ap, ◌∙◌, subst, append_assoc, arith}
use Rattle.std.proofs.lemmas.List.{append-nil}
use Rattle.std.proofs.lemmas.List.Sums.{sum_by-append, sum_by-cons}
use Rattle.lengths.specs.Figures.{Figures}
use Rattle.books.specs.declared.causes.Refused.{Refused}
use Rattle.books.specs.declared.edits.Edit.{Edit}
use Rattle.books.specs.declared.edits.Entry.{Entry}
use Rattle.books.specs.declared.states.State.{State}
use Rattle.books.specs.Edits.{Led, Done, Course, nothing, then, Wrote, end, wrote, idle, accepted_in, taken, verdict}
use Rattle.books.specs.States.{New, Lawful, lefts}
use Rattle.books.proofs.Counts.{lefts_most, course_less}
use Rattle.books.proofs.Runs.{led_new}
use Rattle.looms.specs.declared.calls.Call.{Call}
use Rattle.looms.specs.declared.calls.Call.TheVariants as calls
use Rattle.looms.specs.declared.calls.Answer.{Answer}
use Rattle.looms.specs.declared.calls.Answer.TheVariants as answers
use Rattle.looms.specs.declared.calls.Noted.{Noted}
use Rattle.looms.specs.Histories.{edit_of, edits_of, releases, released_after, count_of, Right, LedTo, with_call, Edited}
use Rattle.looms.specs.Lists.{Stepped}

module _ {K : Type 0} where
  -- the edits of a history with a call more
  pub edits_more : (h : List (Noted K)) (n : Noted K) → edits_of (h ++ n ∷ []) ≡ edits_of h ++ edit_of n.call n.answer
  unfolding edits_of
  edits_more [] n = append-nil (edit_of n.call n.answer)
  edits_more (m ∷ h) n =
      ap (λ (es : List (Entry K)). edit_of m.call m.answer ++ es) (edits_more h n)
      ∙ sym (append_assoc (edit_of m.call m.answer) (edits_of h) (edit_of n.call n.answer))

  -- and whether the loom is released after it
  pub released_more : (r : Bool) (h : List (Noted K)) (n : Noted K) → released_after r (h ++ n ∷ []) ≡ releases (released_after r h) n.call
  unfolding released_after
  released_more r [] n = refl
  released_more r (m ∷ h) n = released_more (releases r m.call) h n

module _ {K : Type 0} (k : Figures K) (size : ℕ) (s t : ℕ → State K) (e : Edit K) where
  -- an accepted edit takes one from what may still be accepted, and a refused one nothing
  spent : (r : Result (Unit {0}) Refused) → r ≡ verdict k size s e → Done e r s t → taken (Some r) + lefts t (size - 1) ≤ lefts s (size - 1)
  spent r v d =
      let n : Entry K = record { edit = e; answer = Some r } in
      let course : Course k size (n ∷ []) s t = then (ap Some v) (subst (λ (x : Result (Unit {0}) Refused). Done e x s t) v d) (nothing (λ x. refl)) in
      omega (arith, course_less course, sum_by-cons (λ (m : Entry K). taken m.answer) n [])

  -- so where no more than 510 edits are accepted in all, the count is exact
  pub exact_count : (count count' : ℕ) (r : Result (Unit {0}) Refused) → r ≡ verdict k size s e → Done e r s t
      → OnOk r (count' ≡ min (count + 1) 4294967295) → OnErr r (count' ≡ count) → count + lefts s (size - 1) ≤ 510
      → (count' ≡ count + taken (Some r)) × (count' + lefts t (size - 1) ≤ 510)
  exact_count count count' (Ok u) v d more same few =
      let left = spent (Ok u) v d in
      let here : count' ≡ count + 1 = omega (arith, more, left, few) in
      (here, omega (arith, here, left, few))
  exact_count count count' (Err x) v d more same few =
      let left = spent (Err x) v d in
      (omega (arith, same), omega (arith, same, left, few))

  -- and the history goes on with the edit
  pub history_on : (count count' : ℕ) (r : Result (Unit {0}) Refused) (h : List (Noted K))
      → (Led k (edits_of h) s → Led k (edits_of h ++ record { edit = e; answer = Some r } ∷ []) t)
      → (count' ≡ count + taken (Some r)) × (count' + lefts t (size - 1) ≤ 510)
      → LedTo k size h false s count → LedTo k size (with_call h (calls.Edit e) (answers.Edited r)) false t count'
  history_on count count' r h on exact was =
      let n : Noted K = record { call = calls.Edit e; answer = Some (answers.Edited r) } in
      let more = edits_more h n in
      record {
        led = subst (λ (es : List (Entry K)). Led k es t) (sym more) (on was.led);
        stage = released_more false h n ∙ was.stage;
        counted =
            exact.0 ∙ ap (λ (m : ℕ). m + taken (Some r)) was.counted
            ∙ sym (ap accepted_in more ∙ sum_by-append (λ (m : Entry K). taken m.answer) (edits_of h) (edit_of n.call n.answer) ∙ ap (λ (m : ℕ). count_of h + m) (one r));
        few = exact.1;
      }
    where
      one : (r : Result (Unit {0}) Refused) → accepted_in {K = K} (record { edit = e; answer = Some r } ∷ []) ≡ taken (Some r)
      one r = omega (arith, sum_by-cons (λ (m : Entry K). taken m.answer) (record { edit = e; answer = Some r }) [])

module _ {K : Type 0} {k : Figures K} {size : ℕ} {state : ℕ → State K} (lawful : Lawful k size state) where
  -- of no book are more than 510 edits accepted from now on
  pub few_at_first : lefts state (size - 1) ≤ 510
  few_at_first = omega (arith, lefts_most state (size - 1), lawful.most)

  -- to a new book no edit led
  pub led_at_first : New k state → LedTo k size [] false state 0
  unfolding edits_of released_after
  led_at_first new = record { led = led_new state new; stage = refl; counted = refl; few = omega (arith, few_at_first) }

-- a call that is no edit that was done changes nothing that a history tells of the book
pub quiet : {K : Type 0} {k : Figures K} {size : ℕ} {released : Bool} {state : ℕ → State K} {count : ℕ} (c : Call K) (a : Answer K) → edit_of c (Some a) ≡ []
    → (h : List (Noted K)) → LedTo k size h released state count → LedTo k size (with_call h c a) (releases released c) state count
quiet {K} {k} {size} {released} {state} {count} c a none h was =
    let n : Noted K = record { call = c; answer = Some a } in
    let same : edits_of (with_call h c a) ≡ edits_of h = edits_more h n ∙ ap (λ (es : List (Entry K)). edits_of h ++ es) none ∙ append-nil (edits_of h) in
    record {
      led = subst (λ (es : List (Entry K)). Led k es state) (sym same) was.led;
      stage = released_more false h n ∙ ap (λ (r : Bool). releases r c) was.stage;
      counted = was.counted ∙ sym (ap accepted_in same);
      few = was.few;
    }

-- what an edit of an open loom does, from what it does on the book and on the count
pub edited : {B K : Type 0} (k : Figures K) (extent : B → ℕ) (state : B → ℕ → State K) (writes : B → Edit K → B → Type 0) (leaves : B → B → Type 0)
    (e : Edit K) (before after : B) (count count' : ℕ) (r : Result (Unit {0}) Refused)
    → r ≡ verdict k (extent before) (state before) e → extent after ≡ extent before → Done e r (state before) (state after)
    → OnOk r (writes before e after) → OnErr r (after ≡ before) → ((a : B) → leaves a before → leaves a after)
    → ((h : List (Entry K)) → Led k h (state before) → Led k (h ++ record { edit = e; answer = Some r } ∷ []) (state after))
    → OnOk r (count' ≡ min (count + 1) 4294967295) → OnErr r (count' ≡ count)
    → Edited k extent state writes leaves e before count after count' r
edited {B} {K} k extent state writes leaves e before after count count' r answer size done written refused alone led more same = record {
  answered = answer;
  size = size;
  done = done;
  wrote = written;
  left_alone = alone;
  refused = both_on (after ≡ before) (count' ≡ count) r refused same;
  counted = more;
  exact = λ few. here few;
  goes_on = λ h was. rw size (history_on k (extent before) (state before) (state after) e count count' r h (led (edits_of h)) (exact_count k (extent before) (state before) (state after) e count count' r answer done more same was.few) was);
}
  where
    here : count + lefts (state before) (extent before - 1) ≤ 510 → (count' ≡ count + taken (Some r)) × (count' + lefts (state after) (extent after - 1) ≤ 510)
    here few = rw size (exact_count k (extent before) (state before) (state after) e count count' r answer done more same few)

    both_on : (P Q : Type 0) (r : Result (Unit {0}) Refused) → OnErr r P → OnErr r Q → OnErr r (P × Q)
    both_on P Q (Ok u) p q = tt
    both_on P Q (Err x) p q = (p, q)

module _ {B K : Type 0} (k : Figures K) (extent : B → ℕ) (state : B → ℕ → State K) (writes : B → Edit K → B → Type 0) (leaves : B → B → Type 0) (room : ℕ) where
  -- a call that is no edit that was done leaves the book and the count as they were
  pub quiet_step : (released released' : Bool) (book : B) (count : ℕ) (c : Call K) (a : Answer K) → Right k (extent book) room released (state book) count c a
      → released' ≡ releases released c → edit_of c (Some a) ≡ [] → Stepped k extent state writes leaves room released book count released' book count c a
  quiet_step released released' book count c a right stage none = record {
    right = right;
    stage = stage;
    size = refl;
    course = subst (λ (es : List (Entry K)). Course k (extent book) es (state book) (state book)) (sym none) (nothing (λ t. refl));
    wrote = subst (λ (es : List (Entry K)). Wrote writes book es book) (sym none) (end refl);
    left_alone = λ b h. h;
    exact = λ few. (omega (arith, ap accepted_in none), few);
  }

  -- and an edit that was done does what it does on an open loom
  pub edit_step : (e : Edit K) (before after : B) (count count' : ℕ) (r : Result (Unit {0}) Refused) → Edited k extent state writes leaves e before count after count' r
      → Stepped k extent state writes leaves room false before count false after count' (calls.Edit e) (answers.Edited r)
  edit_step e before after count count' r did = record {
    right = ap answers.Edited did.answered;
    stage = refl;
    size = did.size;
    course = then (ap Some did.answered) (subst (λ (x : Result (Unit {0}) Refused). Done e x (state before) (state after)) did.answered did.done) (nothing (λ t. refl));
    wrote = wrote_one r did.wrote did.refused;
    left_alone = did.left_alone;
    exact = λ few. let x = did.exact few in (omega (arith, x.0, sum_by-cons (λ (m : Entry K). taken m.answer) (record { edit = e; answer = Some r }) []), x.1);
  }
    where
      wrote_one : (r : Result (Unit {0}) Refused) → OnOk r (writes before e after) → OnErr r ((after ≡ before) × (count' ≡ count))
          → Wrote writes before (record { edit = e; answer = Some r } ∷ []) after
      wrote_one (Ok u) w same = wrote refl w (end refl)
      wrote_one (Err x) w same = idle (λ (p : ◌≡◌ {A = Option (Result (Unit {0}) Refused)} (Some (Err x)) (Some (Ok tt))). let z : ◌≡◌ {A = ℕ} 0 1 = cc in omega arith) (end same.0)
