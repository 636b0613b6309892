-- What the tables of causes of measures say where no cause holds.
use Rattle.std.proofs.Common.{◌≡◌, ℕ, ◌≤◌, Bool, true, cond, ltb, [], ◌∷◌, ◌++◌, Some, None, refl, ap, ◌∙◌, arith}
use Rattle.std.proofs.lemmas.Bool.{ltb-false, le-ltb, or_parts}
use Rattle.lengths.specs.Figures.{Figures}
use Rattle.books.specs.declared.states.State.{State}
use Rattle.books.specs.States.{stands}
use Rattle.books.specs.Causes.{Table, first_cause}
use Rattle.books.proofs.Tables.{none_first, stands_from}
use Rattle.plans.specs.Ways.{Point}
use Rattle.plans.specs.Drawn.{Reads}
use Rattle.plans.specs.Checks.{plan_causes, point_causes, measure_causes}

-- no cause of two tables, one after the other
none_both : {R : Type 0} (xs ys : Table R) → first_cause xs ≡ None → first_cause ys ≡ None → first_cause (xs ++ ys) ≡ None
none_both [] ys a b = b
none_both {R} (x ∷ xs) ys a b =
    let c = none_first x.0 x.1 (first_cause xs) a in
    ap (λ (t : Bool). cond t (Some x.1) (first_cause (xs ++ ys))) c.0 ∙ none_both xs ys c.1 b

module _ {K : Type 0} (size : ℕ) where
  -- a tag against which nothing is to be said is a point
  pub point_from : (at : State K) (tag : ℕ) → first_cause (point_causes size at tag) ≡ None → (1 ≤ tag) × (tag ≤ size) × (stands at ≡ true)
  point_from at tag e =
      let a = none_first _ _ _ e in
      let b = none_first _ _ _ a.1 in
      let c = none_first _ _ _ b.1 in
      let t = or_parts (ltb tag 1) (ltb size tag) a.0 in
      (ltb-false tag 1 t.0, ltb-false size tag t.1, stands_from at b.0 c.0)

  -- nothing is to be said against a measure of two points, where the memory is long enough
  pub measured_from : (room : ℕ) (state : ℕ → State K) (first last : ℕ) → size ≤ room
      → first_cause (point_causes size (state first) first) ≡ None → first_cause (point_causes size (state last) last) ≡ None
      → first_cause (measure_causes size room state first last) ≡ None
  measured_from room state first last fits a b =
      rw (le-ltb room size fits) (none_both (point_causes size (state first) first) (point_causes size (state last) last) a b)

-- a tag whose state was read, and against which nothing is to be said there, is a point of the book, and nothing is to be said
-- against it
pub point_read : {K : Type 0} {k : Figures K} {size : ℕ} {state read : ℕ → State K} → Reads k size state read → (tag : ℕ)
    → first_cause (point_causes size (read tag) tag) ≡ None → Point state tag × (first_cause (point_causes size (state tag) tag) ≡ None)
point_read {K} {k} {size} {state} {read} r tag e =
    let (low, high, s) = point_from size (read tag) tag e in
    let same = r.shows tag low (omega (arith, r.lawful.most)) in
    (rw same at s, rw same at e)

-- nothing is to be said against a plan, where the memory is long enough
pub planned_from : (size room : ℕ) → size ≤ room → first_cause (plan_causes size room) ≡ None
planned_from size room fits = rw (le-ltb room size fits) refl
