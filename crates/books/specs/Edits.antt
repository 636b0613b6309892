-- Lists of edits with their answers, and the states that they explain.
use Rattle.std.specs.Prelude.{◌≡◌, ℕ, ◌+◌, ◌<◌, ◌≤◌, ◌⊎◌, List, [], ◌∷◌, ◌++◌, map, Option, Some, None, Ok, Err, Result, MatchResult, ◌≢◌, sum_by}
use Rattle.lengths.specs.Figures.{Figures}
use Rattle.books.specs.declared.causes.Refused.{Refused}
use Rattle.books.specs.declared.edits.Edit.{Edit}
use Rattle.books.specs.declared.edits.Edit.TheVariants.{Growth, Strike}
use Rattle.books.specs.declared.edits.Entry.{Entry}
use Rattle.books.specs.declared.states.Spur.{Spur}
use Rattle.books.specs.declared.states.State.{State}
use Rattle.books.specs.declared.states.State.TheVariants.{Blank, Struck, Standing}
use Rattle.books.specs.Causes.{refusal_number, answered, first_cause, growth_causes, strike_causes}
use Rattle.books.specs.States.{root_spur, New, Grown, StruckOut, Same}

-- the tag that an edit names, and the state that it says of it
abbrev pub tag_of : {K : Type 0} → Edit K → ℕ
tag_of (Growth tag s) = tag
tag_of (Strike tag) = tag

abbrev pub written : {K : Type 0} → Edit K → State K
written (Growth tag s) = Standing s
written (Strike tag) = Struck

-- x is among the elements of the list
pub data Among {A : Type 0} (x : A) : List A → Type 0 where
  here : {y : A} {ys : List A} → x ≡ y → Among x (y ∷ ys)
  there : {y : A} {ys : List A} → Among x ys → Among x (y ∷ ys)

-- an edit that was answered without a refusal
abbrev pub accepted : {K : Type 0} → Edit K → Entry K
accepted e = record { edit = e; answer = Some (Ok tt) }

-- the list has an accepted growth of t by the spur s; an accepted strike of t
abbrev pub Grew : {K : Type 0} → List (Entry K) → ℕ → Spur K → Type 0
Grew h t s = Among (accepted (Growth t s)) h

abbrev pub Named : {K : Type 0} → List (Entry K) → ℕ → Type 0
Named h t = Among (accepted (Strike t)) h

-- `HangsBy h q t`: by the list, t hangs from q: from the parent that its accepted growth gave, and from all that this parent
-- hangs from
pub data HangsBy {K : Type 0} (h : List (Entry K)) (q : ℕ) : ℕ → Type 0 where
  child : {t : ℕ} {s : Spur K} → Grew h t s → s.parent ≡ q → HangsBy h q t
  under : {t : ℕ} {s : Spur K} → Grew h t s → HangsBy h q s.parent → HangsBy h q t

-- by the list, t stands by the spur s: its growth was accepted so, and no accepted strike named it or a tag that it hangs from
pub record StandsBy {K : Type 0} (h : List (Entry K)) (t : ℕ) (s : Spur K) : Type 0 where
  pub grew : Grew h t s
  pub unnamed : Named h t → ⊥
  pub free : (q : ℕ) → HangsBy h q t → Named h q → ⊥

-- the list explains the states: the root stands; another tag stands exactly when it stands by the list, and as it says there;
-- it is blank exactly when no growth of it was accepted
pub record Explains {K : Type 0} (k : Figures K) (h : List (Entry K)) (state : ℕ → State K) : Type 0 where
  pub root : state 1 ≡ Standing (root_spur k)
  pub standing : (t : ℕ) (s : Spur K) → (t ≢ 1) → state t ≡ Standing s → StandsBy h t s
  pub stood : (t : ℕ) (s : Spur K) → StandsBy h t s → state t ≡ Standing s
  pub blank : (t : ℕ) (s : Spur K) → state t ≡ Blank → Grew h t s → ⊥
  pub never : (t : ℕ) → (t ≢ 1) → ((s : Spur K) → Grew h t s → ⊥) → state t ≡ Blank

-- what is so of the accepted edits of a list that a book answered, whatever their order and however often one is written: a
-- growth has a tag above its parent, and the root is no such tag; it stands on the root or on a tag that was grown; a tag was
-- grown in one way; what a strike named was grown
pub record Orderly {K : Type 0} (h : List (Entry K)) : Type 0 where
  pub above : (t : ℕ) (s : Spur K) → Grew h t s → (1 ≤ s.parent) × (s.parent < t)
  pub grounded : (t : ℕ) (s : Spur K) → Grew h t s → (s.parent ≡ 1) ⊎ ((u : Spur K) × Grew h s.parent u)
  pub once : (t : ℕ) (s u : Spur K) → Grew h t s → Grew h t u → s ≡ u
  pub named : (t : ℕ) → Named h t → (s : Spur K) × Grew h t s

-- `Led k h state`: the states are those that the accepted edits of the list call for. That a book gave these answers is said
-- by `Course`, `Answered` and `CalledFor`
pub record Led {K : Type 0} (k : Figures K) (h : List (Entry K)) (state : ℕ → State K) : Type 0 where
  pub orderly : Orderly h
  pub explains : Explains k h state

-- the number of an answer: 0 for accepted, the number of the refusal, and 255, which is no number of a refusal, for none yet
abbrev pub answer_number : Option (Result (Unit {0}) Refused) → ℕ
answer_number None = 255
answer_number (Some (Ok u)) = 0
answer_number (Some (Err r)) = refusal_number r.cause

-- what an edit is answered where the tags have these states: the first cause, or accepted
abbrev pub verdict : {K : Type 0} → Figures K → ℕ → (ℕ → State K) → Edit K → Result (Unit {0}) Refused
verdict k size state (Growth tag s) = answered tag tt (first_cause (growth_causes k size (state tag) (state s.parent) tag s))
verdict k size state (Strike tag) = answered tag tt (first_cause (strike_causes size (state tag) tag))

-- what an edit did to the states, by its answer: an accepted growth made its tag stand as given, an accepted strike struck its
-- tag out, and a refused edit changed nothing
abbrev pub Done : {K : Type 0} → Edit K → Result (Unit {0}) Refused → (ℕ → State K) → (ℕ → State K) → Type 0
Done (Growth tag s) r a b = MatchResult r (λ _. Grown a b tag (Standing s)) (λ _. Same a b)
Done (Strike tag) r a b = MatchResult r (λ _. StruckOut a b tag) (λ _. Same a b)

-- `Course k size ns s t`: the edits of the list, done one after another from the states s on, are answered so and leave the
-- states t. Each answer is what the states before it call for, and each edit did what its answer says
pub data Course {K : Type 0} (k : Figures K) (size : ℕ) : List (Entry K) → (ℕ → State K) → (ℕ → State K) → Type 0 where
  nothing : {s t : ℕ → State K} → Same s t → Course k size [] s t
  then : {n : Entry K} {ns : List (Entry K)} {s t u : ℕ → State K}
      → n.answer ≡ Some (verdict k size s n.edit) → Done n.edit (verdict k size s n.edit) s t → Course k size ns t u → Course k size (n ∷ ns) s u

-- how many edits of the list were accepted
abbrev pub taken : Option (Result (Unit {0}) Refused) → ℕ
taken None = 0
taken (Some (Ok u)) = 1
taken (Some (Err r)) = 0

abbrev pub accepted_in : {K : Type 0} → List (Entry K) → ℕ
accepted_in ns = sum_by (λ n. taken n.answer) ns

-- every answer is the one that the states before it call for
abbrev pub Answered : {K : Type 0} → Figures K → ℕ → List (Entry K) → List (Entry K) → Type 0
Answered {K} k size h es = (before : List (Entry K)) (e : Entry K) (after : List (Entry K)) → es ≡ before ++ e ∷ after
    → (state : ℕ → State K) → Explains k (h ++ before) state → e.answer ≡ Some (verdict k size state e.edit)

-- the same, and there are such states: after the list h, the list up to an edit explains states, and the edit is answered as
-- these states call for
abbrev pub CalledFor : {K : Type 0} → Figures K → ℕ → List (Entry K) → List (Entry K) → Type 0
CalledFor {K} k size h ns = (before : List (Entry K)) (n : Entry K) (after : List (Entry K)) → ns ≡ before ++ n ∷ after
    → (state : ℕ → State K) × (Explains k (h ++ before) state × (n.answer ≡ Some (verdict k size state n.edit)))

-- `Tried k size edits ns`: these edits, done one after another on a new book of this size, are answered so
pub record Tried {K : Type 0} (k : Figures K) (size : ℕ) (edits : List (Edit K)) (ns : List (Entry K)) : Type 0 where
  pub fresh : ℕ → State K
  pub left : ℕ → State K
  pub new : New k fresh
  pub course : Course k size ns fresh left
  pub same : map (λ n. n.edit) ns ≡ edits

-- `Wrote w a ns b`, where w says what an accepted edit writes: from the book a to the book b each accepted edit of the list wrote
-- so, one after another, and the others changed nothing
pub data Wrote {B K : Type 0} (w : B → Edit K → B → Type 0) : B → List (Entry K) → B → Type 0 where
  end : {a b : B} → b ≡ a → Wrote w a [] b
  wrote : {n : Entry K} {ns : List (Entry K)} {a b c : B} → n.answer ≡ Some (Ok tt) → w a n.edit b → Wrote w b ns c → Wrote w a (n ∷ ns) c
  idle : {n : Entry K} {ns : List (Entry K)} {a b : B} → (n.answer ≢ Some (Ok tt)) → Wrote w a ns b → Wrote w a (n ∷ ns) b
