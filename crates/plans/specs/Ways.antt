-- Ways between the points of a loom, and their lengths. The states are those of a book.
use Rattle.std.specs.Prelude.{◌≡◌, ℕ, true, List, [], ◌∷◌, ◌≢◌}
use Rattle.lengths.specs.Figures.{Figures}
use Rattle.books.specs.declared.states.Spur.{Spur}
use Rattle.books.specs.declared.states.State.{State}
use Rattle.books.specs.declared.states.State.TheVariants.{Standing}
use Rattle.books.specs.States.{stands}
use Rattle.books.specs.Edits.{Among}

-- t is a point: it stands
abbrev pub Point : {K : Type 0} → (ℕ → State K) → ℕ → Type 0
Point state t = stands (state t) ≡ true

-- a run of this length joins a and b: one of them is the parent of the other
pub data Joined {K : Type 0} (state : ℕ → State K) (a b : ℕ) (run : K) : Type 0 where
  upward : {s : Spur K} → (a ≢ 1) → state a ≡ Standing s → b ≡ s.parent → run ≡ s.run → Joined state a b run
  downward : {s : Spur K} → (b ≢ 1) → state b ≡ Standing s → a ≡ s.parent → run ≡ s.run → Joined state a b run

-- `Way k state b a ps l`: ps are the points of the way from a to b, one after another, both included; none comes twice,
-- neighbours are joined by a run, and l is the sum of these runs. One point alone is a way of length zero
pub data Way {K : Type 0} (k : Figures K) (state : ℕ → State K) (b : ℕ) : ℕ → List ℕ → K → Type 0 where
  alone : Point state b → Way k state b b (b ∷ []) k.zero
  onward : {a c : ℕ} {ps : List ℕ} {run length : K} → Joined state a c run → (Among a ps → ⊥) → Way k state b c ps length
      → Way k state b a (a ∷ ps) (k.sum run length)
