-- The refusals of a book, with the numbers of docs/refusals.md, and the order in which each call checks.
use Rattle.std.specs.Prelude.{ℕ, Bool, true, false, cond, not, ◌||◌, List, [], ◌∷◌, ◌++◌, Some, None, Ok, Err, Option, Result, ◌==◌, nat_le, nat_lt}
use Rattle.lengths.specs.Figures.{Figures}
use Rattle.books.specs.declared.causes.Refusal.{Refusal}
use Rattle.books.specs.declared.causes.Refusal.TheVariants.{OutOfRange, BadParent, BadRun, BadDrop, TagStands, TagStruck, ParentBlank, ParentStruck, TagBlank}
use Rattle.books.specs.declared.causes.Refused.{Refused}
use Rattle.books.specs.declared.states.Spur.{Spur}
use Rattle.books.specs.declared.states.State.{State}
use Rattle.books.specs.States.{is_blank, is_struck, stands}

-- the number of a refusal
abbrev pub refusal_number : Refusal → ℕ
refusal_number OutOfRange = 1
refusal_number BadParent = 2
refusal_number BadRun = 3
refusal_number BadDrop = 4
refusal_number TagStands = 5
refusal_number TagStruck = 6
refusal_number ParentBlank = 7
refusal_number ParentStruck = 8
refusal_number TagBlank = 9

-- a table of causes (nothing to do with the table book), in the order in which they are checked: whether each holds, and the
-- refusal that it is
abbrev pub Table : Type 0 → Type 0
Table R = List (Bool × R)

-- the first cause of a table that holds
abbrev pub first_cause : {R : Type 0} → Table R → Option R
first_cause [] = None
first_cause (c ∷ cs) = cond c.0 (Some c.1) (first_cause cs)

-- a spur of a tag: the parent is 0 or not smaller than the tag; the run is zero or no entry; the drop is no entry
abbrev pub spur_causes : {K : Type 0} → Figures K → ℕ → Spur K → Table Refusal
spur_causes k tag s =
    (s.parent == 0 || nat_le tag s.parent, BadParent)
    ∷ ((not (k.less k.zero s.run) || not (k.entry s.run), BadRun)
    ∷ ((not (k.entry s.drop), BadDrop)
    ∷ []))

-- growth, where the tag has the state at and the parent the state up: the tag is below 2 or above the size; the causes against
-- its spur; the tag stands; it is struck; the parent is blank; it is struck
abbrev pub growth_causes : {K : Type 0} → Figures K → ℕ → State K → State K → ℕ → Spur K → Table Refusal
growth_causes k size at up tag s =
    (nat_lt tag 2 || nat_lt size tag, OutOfRange)
    ∷ (spur_causes k tag s
    ++ ((stands at, TagStands)
    ∷ ((is_struck at, TagStruck)
    ∷ ((is_blank up, ParentBlank)
    ∷ ((is_struck up, ParentStruck)
    ∷ [])))))

-- strike, where the tag has the state at: the tag is below 2 or above the size; it is blank; it is struck
abbrev pub strike_causes : {K : Type 0} → ℕ → State K → ℕ → Table Refusal
strike_causes size at tag = (nat_lt tag 2 || nat_lt size tag, OutOfRange) ∷ ((is_blank at, TagBlank) ∷ ((is_struck at, TagStruck) ∷ []))

-- look: the tag is below 1 or above the size
abbrev pub look_causes : ℕ → ℕ → Table Refusal
look_causes size tag = (nat_lt tag 1 || nat_lt size tag, OutOfRange) ∷ []

-- what a check of the causes answers: the first cause is its error
abbrev pub checked : Option Refusal → Result (Unit {0}) Refusal
checked None = Ok tt
checked (Some r) = Err r

-- a refusal with the tag of the call
abbrev pub refused : Refusal → ℕ → Refused
refused r tag = record { cause = r; tag = tag }

-- what a call answers: the first cause, with the tag, or else this
abbrev pub answered : {T : Type 0} → ℕ → T → Option Refusal → Result T Refused
answered tag x None = Ok x
answered tag x (Some r) = Err (refused r tag)
