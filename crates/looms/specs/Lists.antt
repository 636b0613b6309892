-- What a list of calls does on one loom.
use Rattle.std.specs.Prelude.{◌≡◌, ℕ, ◌+◌, ◌-◌, ◌≤◌, Bool, true, false, List, ◌∷◌, ◌++◌, replicate, drop, Option, Some, None, Ok}
use Rattle.std.specs.List.{list_any}
use Rattle.lengths.specs.Figures.{Figures}
use Rattle.books.specs.declared.edits.Edit.{Edit}
use Rattle.books.specs.declared.states.State.{State}
use Rattle.books.specs.Edits.{Course, Wrote, accepted_in}
use Rattle.books.specs.States.{lefts}
use Rattle.looms.specs.declared.calls.Call.{Call}
use Rattle.looms.specs.declared.calls.Answer.{Answer}
use Rattle.looms.specs.declared.calls.Answer.TheVariants.{Measured, Planned}
use Rattle.looms.specs.declared.calls.Noted.{Noted}
use Rattle.looms.specs.declared.history.AnyLoom.{AnyLoom}
use Rattle.looms.specs.declared.history.AnyLoom.TheVariants.{Open, Released}
use Rattle.looms.specs.Histories.{edit_of, edits_of, releases, released_after, count_of, Right}

-- whether a loom is released, its book, and its count
abbrev pub released_in : {B : Type 0} → AnyLoom B → Bool
released_in (Open l) = false
released_in (Released l) = true

abbrev pub book_in : {B : Type 0} → AnyLoom B → B
book_in (Open l) = l.book
book_in (Released l) = l.book

abbrev pub count_in : {B : Type 0} → AnyLoom B → ℕ
count_in (Open l) = l.count
count_in (Released l) = l.count

-- a call was answered with a figure, or with a plan
abbrev pub is_figure : {K : Type 0} → Answer K → Bool
is_figure (Measured (Ok x)) = true
is_figure (Planned (Ok x)) = true
is_figure a = false

-- some call of a list was answered so
abbrev pub noted_figure : {K : Type 0} → Option (Answer K) → Bool
noted_figure None = false
noted_figure (Some a) = is_figure a

abbrev pub any_figure : {K : Type 0} → List (Noted K) → Bool
any_figure ns = list_any (λ n. noted_figure n.answer) ns

-- what a call leaves of the memory: where it was answered with a figure, zeros, as many as the size, and the rest as it was; else all
-- of it as it was
abbrev pub MemoryLeft : {K : Type 0} → Figures K → ℕ → Bool → List K → List K → Type 0
MemoryLeft k size true before after = after ≡ replicate size k.zero ++ drop size before
MemoryLeft k size false before after = after ≡ before

-- what a call c of a loom, answered a, does, from its state, its book and its count before to those after
pub record Stepped {B K : Type 0} (k : Figures K) (extent : B → ℕ) (state : B → ℕ → State K) (writes : B → Edit K → B → Type 0) (leaves : B → B → Type 0)
    (room : ℕ) (released : Bool) (before : B) (count : ℕ) (released' : Bool) (after : B) (count' : ℕ) (c : Call K) (a : Answer K) : Type 0 where
  -- the answer is right, and the state of the loom is that after the call
  pub right : Right k (extent before) room released (state before) count c a
  pub stage : released' ≡ releases released c
  -- an edit that was done does on the book what the book says; any other call leaves the book as it was
  pub size : extent after ≡ extent before
  pub course : Course k (extent before) (edit_of c (Some a)) (state before) (state after)
  pub wrote : Wrote writes before (edit_of c (Some a)) after
  pub left_alone : (b : B) → leaves b before → leaves b after
  -- an accepted edit adds 1 to the count
  pub exact : count + lefts (state before) (extent before - 1) ≤ 510
      → (count' ≡ count + accepted_in (edit_of c (Some a))) × (count' + lefts (state after) (extent after - 1) ≤ 510)

-- each answer of a list of calls on a loom is right: the edits before it lead from the states at first to states s, and the answer is
-- what these call for, in the state of the loom at that place, and with the count there
abbrev pub AllRight : {K : Type 0} → Figures K → ℕ → ℕ → (ℕ → State K) → List (Noted K) → Type 0
AllRight {K} k size room first ns = (before : List (Noted K)) (n : Noted K) (after : List (Noted K)) → ns ≡ before ++ n ∷ after
    → (s : ℕ → State K) × (Course k size (edits_of before) first s
    × ((a : Answer K) × ((n.answer ≡ Some a) × Right k size room (released_after false before) s (count_of before) n.call a)))
