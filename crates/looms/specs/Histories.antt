-- Histories of a loom: lists of calls with their answers, and what each answer has to be.
use Rattle.std.specs.Prelude.{◌≡◌, ℕ, ◌+◌, ◌-◌, ◌≤◌, min, Bool, true, false, List, [], ◌∷◌, ◌++◌, Option, Some, Result, OnOk, OnErr}
use Rattle.lengths.specs.Figures.{Figures}
use Rattle.books.specs.declared.edits.Edit.{Edit}
use Rattle.books.specs.declared.edits.Entry.{Entry}
use Rattle.books.specs.declared.states.State.{State}
use Rattle.books.specs.Causes.{answered, first_cause, look_causes}
use Rattle.books.specs.declared.causes.Refused.{Refused}
use Rattle.books.specs.Edits.{Led, Done, accepted_in, taken, verdict}
use Rattle.books.specs.States.{lefts}
use Rattle.plans.specs.declared.denials.Denial.{Denial}
use Rattle.plans.specs.declared.answers.Plan.{Plan}
use Rattle.plans.specs.Measures as measured
use Rattle.plans.specs.Measures.{Total}
use Rattle.plans.specs.Plans as planned
use Rattle.plans.specs.Checks.{Answers, measure_causes, plan_causes}
use Rattle.looms.specs.declared.calls.Call.{Call}
use Rattle.looms.specs.declared.calls.Call.TheVariants as calls
use Rattle.looms.specs.declared.calls.Answer.{Answer}
use Rattle.looms.specs.declared.calls.Answer.TheVariants as answers
use Rattle.looms.specs.declared.calls.Noted.{Noted}

-- the edits of a history that were done, with what each was answered: accepted, or a refusal
abbrev pub edit_of : {K : Type 0} → Call K → Option (Answer K) → List (Entry K)
edit_of (calls.Edit e) (Some (answers.Edited r)) = record { edit = e; answer = Some r } ∷ []
edit_of c a = []

unfoldable pub edits_of : {K : Type 0} → List (Noted K) → List (Entry K)
edits_of [] = []
edits_of (n ∷ ns) = edit_of n.call n.answer ++ edits_of ns

-- whether a loom is released after a call, done or not allowed: a release always leaves it released, a reopening open; and after a
-- history
abbrev pub releases : {K : Type 0} → Bool → Call K → Bool
releases released calls.Release = true
releases released calls.Reopen = false
releases released c = released

unfoldable pub released_after : {K : Type 0} → Bool → List (Noted K) → Bool
released_after released [] = released
released_after released (n ∷ ns) = released_after (releases released n.call) ns

-- how many edits of a history were accepted
abbrev pub count_of : {K : Type 0} → List (Noted K) → ℕ
count_of h = accepted_in (edits_of h)

-- P holds of the answer where the loom is open, or where it is released; else the answer is that the call is not allowed
abbrev pub IfOpen : {K : Type 0} → Bool → (Answer K → Type 0) → Answer K → Type 0
IfOpen true P a = a ≡ answers.NotAllowed
IfOpen false P a = P a

abbrev pub IfReleased : {K : Type 0} → Bool → (Answer K → Type 0) → Answer K → Type 0
IfReleased true P a = P a
IfReleased false P a = a ≡ answers.NotAllowed

module _ {K : Type 0} (k : Figures K) (size room : ℕ) (released : Bool) (state : ℕ → State K) (count : ℕ) where
  -- the answer is that of a measure of the path between two tags, or of a plan: refused by the first cause that holds, or else a
  -- figure, or a plan, of which P holds
  abbrev pub MeasuredBy : ℕ → ℕ → (K → Type 0) → Answer K → Type 0
  MeasuredBy first last P a = (r : Result K Denial) × ((a ≡ answers.Measured r) × Answers (measure_causes size room state first last) P r)

  abbrev pub PlannedBy : (Plan K → Type 0) → Answer K → Type 0
  PlannedBy P a = (r : Result (Plan K) Denial) × ((a ≡ answers.Planned r) × Answers (plan_causes size room) P r)

  -- the answer is right: it is what the states of the tags call for, on a loom of this size with these states and this count, and with
  -- so much working memory
  abbrev pub Right : Call K → Answer K → Type 0
  Right (calls.Edit e) = IfOpen released (λ a. a ≡ answers.Edited (verdict k size state e))
  Right calls.Release = IfOpen released (λ a. a ≡ answers.Done)
  Right calls.Reopen = IfReleased released (λ a. a ≡ answers.Done)
  Right calls.Size = λ a. a ≡ answers.Number size
  Right calls.Count = λ a. a ≡ answers.Number count
  Right (calls.Look tag) = λ a. a ≡ answers.Looked (answered tag (state tag) (first_cause (look_causes size tag)))
  Right (calls.Distance first last) = IfReleased released (MeasuredBy first last (λ d. measured.Distance k state first last d))
  Right (calls.Length first last) = IfReleased released (MeasuredBy first last (λ d. measured.Distance k state first last d))
  Right (calls.Reach first last) = IfReleased released (MeasuredBy first last (λ r. measured.Reach k state first last r))
  Right (calls.Sum first last) = IfReleased released (MeasuredBy first last (λ s. Total k state first last size s))
  Right calls.Hub = IfReleased released (PlannedBy (λ p. planned.Hub k state p.first p.last p.figure))
  Right calls.Spine = IfReleased released (PlannedBy (λ p. planned.Spine k state p.first p.last p.figure))
  Right (calls.Trunk limit) = IfReleased released (PlannedBy (λ p. planned.Trunk k size state limit p.first p.last p.figure))

-- a history led to a loom of this size, open or released, with these states and this count: the states are those that its accepted
-- edits call for, the loom is released or not as its calls left it, the count is the number of its accepted edits, and no more than
-- 510 come to be accepted in all: two for each tag but the root. (Whether its answers are right is another thing.)
pub record LedTo {K : Type 0} (k : Figures K) (size : ℕ) (h : List (Noted K)) (released : Bool) (state : ℕ → State K) (count : ℕ) : Type 0 where
  pub led : Led k (edits_of h) state
  pub stage : released_after false h ≡ released
  pub counted : count ≡ count_of h
  pub few : count + lefts state (size - 1) ≤ 510

-- the history h with a call more, and its answer
abbrev pub with_call : {K : Type 0} → List (Noted K) → Call K → Answer K → List (Noted K)
with_call h c a = h ++ record { call = c; answer = Some a } ∷ []

-- what an edit e of an open loom does, from the book before and its count to the book after and its count
pub record Edited {B K : Type 0} (k : Figures K) (extent : B → ℕ) (state : B → ℕ → State K) (writes : B → Edit K → B → Type 0) (leaves : B → B → Type 0)
    (e : Edit K) (before : B) (count : ℕ) (after : B) (count' : ℕ) (answer : Result (Unit {0}) Refused) : Type 0 where
  -- it is answered as its book says, and changes the states and the memory of the book as its book says
  pub answered : answer ≡ verdict k (extent before) (state before) e
  pub size : extent after ≡ extent before
  pub done : Done e answer (state before) (state after)
  pub wrote : OnOk answer (writes before e after)
  pub left_alone : (a : B) → leaves a before → leaves a after
  -- refused, it changes nothing
  pub refused : OnErr answer ((after ≡ before) × (count' ≡ count))
  -- accepted, it adds 1 to the count, which stops at the greatest number of 32 bits: where no more than 510 edits are accepted in all,
  -- it never comes to that
  pub counted : OnOk answer (count' ≡ min (count + 1) 4294967295)
  pub exact : count + lefts (state before) (extent before - 1) ≤ 510
      → (count' ≡ count + taken (Some answer)) × (count' + lefts (state after) (extent after - 1) ≤ 510)
  -- the history that led to the loom goes on with it
  pub goes_on : (h : List (Noted K)) → LedTo k (extent before) h false (state before) count
      → LedTo k (extent after) (with_call h (calls.Edit e) (answers.Edited answer)) false (state after) count'
