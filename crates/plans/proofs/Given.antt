-- What a tree that was read out of a book, with the two ways up from the ends of a path, gives the passes.
use Rattle.std.proofs.Common.{◌≡◌, ℕ, zero, suc, ◌<◌, ◌≤◌, not, ◌||◌, eqb, ltb, sym, refl, ap, ◌∙◌, inl, inr, arith}
use Rattle.std.proofs.lemmas.Bool.{cases_Bool, ltb-true, ne_eqb}
use Rattle.lengths.specs.Figures.{Figures}
use Rattle.books.specs.declared.states.State.{State}
use Rattle.books.specs.States.{stands}
use Rattle.trees.proofs.Trees.{side_by, side}
use Rattle.trees.proofs.Sides.{and_same}
use Rattle.trees.proofs.Runs.{joined_stands}
use Rattle.plans.specs.declared.sides.Sides.{Sides}
use Rattle.plans.specs.Ways.{Point}
use Rattle.plans.specs.Drawn.{Reads, Climbed, parent_of, run_of}
use Rattle.plans.specs.Passing.{Given}
use Rattle.plans.proofs.Draws.{parent_none}
use Rattle.plans.proofs.Loom.{tree_of, tied_as, point_high}

-- going up by two rules that agree on what is met leads to the same
module _ (P Q : ℕ → ℕ) (S : ℕ → Type 0) (up : (x : ℕ) → S x → 1 < x → S (Q x)) (same : (x : ℕ) → S x → P x ≡ Q x) (e : ℕ) (low : 1 ≤ e) where
  sides_alike : (l x : ℕ) → S x → side_by P l e x ≡ side_by Q l e x
  unfolding side_by
  sides_alike zero x s = refl
  sides_alike (suc l) x s =
      ap (◌||◌ (eqb e x))
      (and_same (ltb e x) (λ t.
      ap (side_by P l e) (same x s)
      ∙ sides_alike l (Q x) (up x s (omega (arith, ltb-true e x t)))))

module _ {K : Type 0} {k : Figures K} {size : ℕ} {state read : ℕ → State K} (r : Reads k size state read) where
  -- the state of a point was read
  pub read_as : (t : ℕ) → Point state t → read t ≡ state t
  read_as t s =
      r.shows t ((tree_of r.lawful).from_one t s) (omega (arith, point_high r.lawful t s, r.lawful.most))

  -- and so was that of any tag from 1 to the size
  pub read_here : (t : ℕ) → 1 ≤ t → t ≤ size → read t ≡ state t
  read_here t low high = r.shows t low (omega (arith, r.lawful.most))

  -- a tag stands where it has a parent
  stands_as : (t : ℕ) → 2 ≤ t → t ≤ size → stands (state t) ≡ not (eqb (parent_of (read t)) 0)
  stands_as t low high =
      let same = r.shows t (omega arith) (omega (arith, r.lawful.most)) in
      elim (cases_Bool (stands (state t))) [
        | inl y ↦ rw (y, same, ne_eqb (parent_of (state t)) 0 (λ e. omega (arith, (tied_as r.lawful t y (λ p. omega arith)).above)))
        | inr n ↦ rw (n, same, parent_none (state t) n)
      ]

  -- the way up that was read is the one of the tree
  met_as : (a : ℕ) → Point state a → (t : ℕ) → 1 ≤ t → side_by (λ x. parent_of (read x)) a t a ≡ side (tree_of r.lawful) t a
  unfolding side
  met_as a s t low =
      sides_alike (λ x. parent_of (read x)) (tree_of r.lawful).parent (Point state) (tree_of r.lawful).up_stands
      (λ x h. ap parent_of (read_as x h)) t low a a s

  pub given_of : (a b : ℕ) (sides : Sides) → Point state a → Point state b → Climbed read a sides.first → Climbed read b sides.last
      → Given (tree_of r.lawful) a b size read sides
  given_of a b sides s t first last = record {
    high = refl;
    first_stands = s;
    last_stands = t;
    stands = stands_as;
    parent = λ x j. sym (ap parent_of (read_as x (joined_stands (tree_of r.lawful) j)));
    run = λ x j. sym (ap (run_of k) (read_as x (joined_stands (tree_of r.lawful) j)));
    first_met = λ x low high. first x low (omega (arith, r.lawful.most)) ∙ met_as a s x low;
    last_met = λ x low high. last x low (omega (arith, r.lawful.most)) ∙ met_as b t x low;
  }
