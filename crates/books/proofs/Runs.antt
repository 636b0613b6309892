-- Lists of edits that are done one after another.
use Rattle.std.proofs.Common.{◌≡◌, ℕ, ◌+◌, ◌<◌, List, [], ◌∷◌, ◌++◌, map, length, get_or, take, set, Option, Some, Result, sym, refl, ap, ◌∙◌, inl, inr}
use mathlib.Core.Path.{fun_ext}
use Rattle.std.proofs.lemmas.List.{map-set, get_or-map, set-get_or, take_more_set}
use Rattle.std.proofs.lemmas.Bool.{cases_eq}
use Rattle.lengths.specs.Figures.{Figures}
use Rattle.books.specs.declared.causes.Refused.{Refused}
use Rattle.books.specs.declared.edits.Edit.{Edit}
use Rattle.books.specs.declared.edits.Entry.{Entry}
use Rattle.books.specs.declared.states.State.{State}
use Rattle.books.specs.declared.states.State.TheVariants.{Blank, Struck, Standing}
use Rattle.books.specs.Edits.{Among, Explains, Led, Answered, CalledFor, verdict}
use Rattle.books.specs.States.{New}
use Rattle.books.proofs.Steps.{not_blank}

-- a list explains one meaning
module _ {K : Type 0} {k : Figures K} {h : List (Entry K)} {s t : ℕ → State K} (a : Explains k h s) (b : Explains k h t) where
  states_as : (u : ℕ) → (u ≡ 1 → ⊥) → (x y : State K) → s u ≡ x → t u ≡ y → x ≡ y
  states_as u n Blank Blank e f = refl
  states_as u n Blank Struck e f = sym (sym f ∙ b.never u n (λ v m. a.blank u v e m))
  states_as u n Blank (Standing v) e f = absurd (a.blank u v e (b.standing u v n f).grew)
  states_as u n Struck Blank e f = sym e ∙ a.never u n (λ v m. b.blank u v f m)
  states_as u n Struck Struck e f = refl
  states_as u n Struck (Standing v) e f = sym e ∙ a.stood u v (b.standing u v n f)
  states_as u n (Standing v) Blank e f = absurd (b.blank u v f (a.standing u v n e).grew)
  states_as u n (Standing v) Struck e f = sym (sym f ∙ b.stood u v (a.standing u v n e))
  states_as u n (Standing v) (Standing w) e f = sym (b.stood u v (a.standing u v n e)) ∙ f

  states_once : (u : ℕ) → s u ≡ t u
  states_once u = elim (cases_eq u 1) [
    | inl e ↦ ap s e ∙ a.root ∙ sym (ap t e ∙ b.root)
    | inr n ↦ states_as u n (s u) (t u) refl refl
  ]

-- so what an edit is answered is one answer
verdict_once : {K : Type 0} {k : Figures K} {h : List (Entry K)} {s t : ℕ → State K} (size : ℕ) (e : Edit K) → Explains k h s → Explains k h t → verdict k size s e ≡ verdict k size t e
verdict_once {K} {k} {h} {s} {t} size e a b = ap (λ (x : ℕ → State K). verdict k size x e) (fun_ext (states_once a b))

-- so what is called for is what each of them calls for
pub answered_as : {K : Type 0} {k : Figures K} (size : ℕ) (h : List (Entry K)) {ns : List (Entry K)} → CalledFor k size h ns → Answered k size h ns
answered_as {K} {k} size h {ns} called before e after p state ex =
    let c = called before e after p in c.1.1 ∙ ap Some (verdict_once size e.edit c.1.0 ex)

-- an edit with its answer, under other names
pub entry_as : {K : Type 0} {e f : Edit K} {a b : Option (Result (Unit {0}) Refused)} → e ≡ f → a ≡ b → ◌≡◌ {A = Entry K} (record { edit = e; answer = a }) (record { edit = f; answer = b })
entry_as p q = λ i. record { edit = p i; answer = q i }

-- an answer that is noted leaves the edits
pub edits_kept : {K : Type 0} (es : List (Entry K)) (i : ℕ) (d : Entry K) (a : Option (Result (Unit {0}) Refused)) → i < length es
    → map (λ (e : Entry K). e.edit) (set es i (record { edit = (get_or es i d).edit; answer = a })) ≡ map (λ (e : Entry K). e.edit) es
edits_kept {K} es i d a h =
    map-set (λ (e : Entry K). e.edit) es i _
    ∙ ap (set (map (λ (e : Entry K). e.edit) es) i) (sym (get_or-map (λ (e : Entry K). e.edit) es i d d.edit h))
    ∙ set-get_or (map (λ (e : Entry K). e.edit) es) i d.edit

-- entries up to one that was noted are those before it, and it with its answer, however that came to be noted
pub noted_more : {K : Type 0} (es : List (Entry K)) (i : ℕ) (n : Entry K) (a : Option (Result (Unit {0}) Refused)) → i < length es → n.answer ≡ a
    → take (i + 1) (set es i (record { edit = n.edit; answer = a })) ≡ take i es ++ n ∷ []
noted_more {K} es i n a h e = ap (λ (b : Option (Result (Unit {0}) Refused)). take (i + 1) (set es i (record { edit = n.edit; answer = b }))) (sym e) ∙ take_more_set es i n h

-- the empty list leads to a new book
pub led_new : {K : Type 0} {k : Figures K} (s : ℕ → State K) → New k s → Led k [] s
led_new {K} {k} s new = record {
  orderly = record {
    above = λ t v m. absurd (nowhere m);
    grounded = λ t v m. absurd (nowhere m);
    once = λ t v w m n. absurd (nowhere m);
    named = λ q m. absurd (nowhere m);
  };
  explains = record {
    root = new.root;
    standing = λ t v n e. absurd (not_blank (sym e ∙ new.blank t n));
    stood = λ t v sb. absurd (nowhere sb.grew);
    blank = λ t v e m. absurd (nowhere m);
    never = λ t n f. new.blank t n;
  };
}
  where
    nowhere : {x : Entry K} → Among x [] → ⊥
    nowhere m = elim m [ ]
