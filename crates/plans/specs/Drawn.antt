-- A tree that was read out of a book. No promise to a user stands here.
use Rattle.std.specs.Prelude.{◌≡◌, ℕ, ◌-◌, ◌<◌, ◌≤◌, Bool, false, List, Some, None, Option, slice_index_or}
use Rattle.trees.proofs.Trees.{side_by}
use Rattle.lengths.specs.Figures.{Figures}
use Rattle.books.specs.declared.states.Spur.{Spur}
use Rattle.books.specs.declared.states.State.{State}
use Rattle.books.specs.declared.states.State.TheVariants.{Blank, Struck, Standing}
use Rattle.books.specs.States.{Lawful}
use Rattle.cells.specs.declared.columns.Column.{Column}
use Rattle.cells.specs.Columns.{held}

module _ {K : Type 0} where
  -- the spur that a state gives, where it stands
  abbrev pub spur_of : State K → Option (Spur K)
  spur_of Blank = None
  spur_of Struck = None
  spur_of (Standing s) = Some s

  -- the parent that a state gives; 0 where it does not stand
  abbrev pub parent_of : State K → ℕ
  parent_of Blank = 0
  parent_of Struck = 0
  parent_of (Standing s) = s.parent

  -- the run that a state gives; zero where it does not stand
  abbrev pub run_of : Figures K → State K → K
  run_of k Blank = k.zero
  run_of k Struck = k.zero
  run_of k (Standing s) = s.run

  -- the drop that a state gives; zero where it does not stand
  abbrev pub drop_of : Figures K → State K → K
  drop_of k Blank = k.zero
  drop_of k Struck = k.zero
  drop_of k (Standing s) = s.drop

  -- the drop of a tag
  abbrev pub drop_at : Figures K → (ℕ → State K) → ℕ → K
  drop_at k state t = drop_of k (state t)

  -- the state that was read of the tag t: tag 1 has the first place
  abbrev pub drawn : Column (State K) → ℕ → State K
  drawn states t = held states (t - 1)

  -- every tag was read as it is in the book
  abbrev pub Shows : (ℕ → State K) → (ℕ → State K) → Type 0
  Shows state read = (t : ℕ) → 1 ≤ t → t ≤ 256 → read t ≡ state t

  -- the states that were read are those of a lawful book of this size
  pub record Reads (k : Figures K) (size : ℕ) (state read : ℕ → State K) : Type 0 where
    pub lawful : Lawful k size state
    pub shows : Shows state read

  -- every parent is smaller than its tag
  abbrev pub Falling : (ℕ → State K) → Type 0
  Falling read = (t : ℕ) → 1 ≤ t → t ≤ 256 → parent_of (read t) < t

  -- what is met on going up from a tag: the tag itself, and all that it hangs from
  abbrev pub Climbed : (ℕ → State K) → ℕ → List Bool → Type 0
  Climbed read from met = (t : ℕ) → 1 ≤ t → t ≤ 256 → slice_index_or met t false ≡ side_by (λ x. parent_of (read x)) from t from
