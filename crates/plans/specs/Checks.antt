-- Why a measure or a plan is refused, with the numbers of docs/refusals.md, and the order in which each call checks.
use Rattle.std.specs.Prelude.{◌≡◌, ℕ, ◌||◌, List, [], ◌∷◌, ◌++◌, drop, replicate, Some, None, Result, MatchResult, nat_lt}
use Rattle.lengths.specs.Figures.{Figures}
use Rattle.books.specs.declared.causes.Refusal.TheVariants.{OutOfRange, TagBlank, TagStruck}
use Rattle.books.specs.declared.states.State.{State}
use Rattle.books.specs.Causes.{Table, first_cause, refusal_number, refused}
use Rattle.books.specs.States.{is_blank, is_struck, Lawful}
use Rattle.plans.specs.Ways.{Point}
use Rattle.plans.specs.declared.denials.Denial.{Denial}
use Rattle.plans.specs.declared.denials.Denial.TheVariants.{ShortMemory, NoPoint}

-- the number of a refusal, and the tag that comes with it
abbrev pub denial_number : Denial → ℕ
denial_number ShortMemory = 10
denial_number (NoPoint r) = refusal_number r.cause

abbrev pub denial_tag : Denial → ℕ
denial_tag ShortMemory = 0
denial_tag (NoPoint r) = r.tag

-- a plan, with so much memory: the memory is shorter than the size
abbrev pub plan_causes : ℕ → ℕ → Table Denial
plan_causes size room = (nat_lt room size, ShortMemory) ∷ []

-- a tag with the state at is no point: it is below 1 or above the size; it is blank; it is struck
abbrev pub point_causes : {K : Type 0} → ℕ → State K → ℕ → Table Denial
point_causes size at tag =
    (nat_lt tag 1 || nat_lt size tag, NoPoint (refused OutOfRange tag))
    ∷ ((is_blank at, NoPoint (refused TagBlank tag))
    ∷ ((is_struck at, NoPoint (refused TagStruck tag))
    ∷ []))

-- a measure: the memory is shorter than the size; the first tag is no point; the last tag is no point
abbrev pub measure_causes : {K : Type 0} → ℕ → ℕ → (ℕ → State K) → ℕ → ℕ → Table Denial
measure_causes size room state first last =
    plan_causes size room ++ (point_causes size (state first) first ++ point_causes size (state last) last)

-- a call answers what its causes call for: it is refused by the first that holds; where none holds, P holds of what it answers
abbrev pub Answers : {T : Type 0} → Table Denial → (T → Type 0) → Result T Denial → Type 0
Answers causes P answer = MatchResult answer (λ x. (first_cause causes ≡ None) × P x) (λ e. first_cause causes ≡ Some e)

-- what a call leaves of the memory: a refused one all of it as it was, an accepted one zeros, as many as the size, and the rest as it
-- was
abbrev pub Leaves : {K T : Type 0} → Figures K → ℕ → List K → List K → Result T Denial → Type 0
Leaves k size before after answer = MatchResult answer (λ _. after ≡ replicate size k.zero ++ drop size before) (λ _. after ≡ before)

-- what is known of the ends of a path that was measured: they are points of a lawful book
pub record Ends {K : Type 0} (k : Figures K) (size : ℕ) (state : ℕ → State K) (a b : ℕ) : Type 0 where
  pub lawful : Lawful k size state
  pub first : Point state a
  pub last : Point state b
