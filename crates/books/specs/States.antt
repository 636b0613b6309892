-- What a book means: a size, and for each tag a state.
use Rattle.std.specs.Prelude.{◌≡◌, ℕ, zero, suc, ◌+◌, ◌<◌, ◌≤◌, Bool, true, false, ◌≢◌}
use Rattle.lengths.specs.Figures.{Figures, Less}
use Rattle.books.specs.declared.states.Spur.{Spur}
use Rattle.books.specs.declared.states.State.{State}
use Rattle.books.specs.declared.states.State.TheVariants.{Blank, Struck, Standing}

-- whether a state is blank; whether it is struck; whether the tag stands
abbrev pub is_blank : {K : Type 0} → State K → Bool
is_blank Blank = true
is_blank Struck = false
is_blank (Standing s) = false

abbrev pub is_struck : {K : Type 0} → State K → Bool
is_struck Blank = false
is_struck Struck = true
is_struck (Standing s) = false

abbrev pub stands : {K : Type 0} → State K → Bool
stands Blank = false
stands Struck = false
stands (Standing s) = true

-- the spur of the root: no parent, no run and no drop
abbrev pub root_spur : {K : Type 0} → Figures K → Spur K
root_spur k = record { parent = 0; run = k.zero; drop = k.zero }

-- what a standing tag other than the root has: a smaller, standing parent, an entry above zero as run, and an entry as drop
pub record Tied {K : Type 0} (k : Figures K) (state : ℕ → State K) (t : ℕ) (s : Spur K) : Type 0 where
  pub above : 1 ≤ s.parent
  pub smaller : s.parent < t
  pub parent : stands (state s.parent) ≡ true
  pub run_entry : k.entry s.run ≡ true
  pub run_some : Less k k.zero s.run
  pub drop_entry : k.entry s.drop ≡ true

-- what is so of every book: a size from 1 to 256, the root, and every other standing tag tied; outside its size every tag is
-- blank
pub record Lawful {K : Type 0} (k : Figures K) (size : ℕ) (state : ℕ → State K) : Type 0 where
  pub least : 1 ≤ size
  pub most : size ≤ 256
  pub root : state 1 ≡ Standing (root_spur k)
  pub tied : (t : ℕ) (s : Spur K) → (t ≢ 1) → state t ≡ Standing s → Tied k state t s
  pub none : state 0 ≡ Blank
  pub beyond : (t : ℕ) → size < t → state t ≡ Blank

-- a new book: the root stands, and every other tag is blank
pub record New {K : Type 0} (k : Figures K) (state : ℕ → State K) : Type 0 where
  pub root : state 1 ≡ Standing (root_spur k)
  pub blank : (t : ℕ) → (t ≢ 1) → state t ≡ Blank

-- `Hangs state q t`: the standing tag t hangs from q: q is its parent, or its parent hangs from q
pub data Hangs {K : Type 0} (state : ℕ → State K) (q : ℕ) : ℕ → Type 0 where
  child : {t : ℕ} {s : Spur K} → state t ≡ Standing s → s.parent ≡ q → Hangs state q t
  under : {t : ℕ} {s : Spur K} → state t ≡ Standing s → Hangs state q s.parent → Hangs state q t

-- an accepted growth: its tag stands as given, every other tag keeps its state
pub record Grown {K : Type 0} (before after : ℕ → State K) (tag : ℕ) (new : State K) : Type 0 where
  pub stood : after tag ≡ new
  pub kept : (t : ℕ) → (t ≢ tag) → after t ≡ before t

-- an accepted strike: its tag is struck, with every tag that hangs from it; the rest keep their states
pub record StruckOut {K : Type 0} (before after : ℕ → State K) (tag : ℕ) : Type 0 where
  pub named : after tag ≡ Struck
  pub with_it : (t : ℕ) → Hangs before tag t → after t ≡ Struck
  pub kept : (t : ℕ) → (t ≢ tag) → (Hangs before tag t → ⊥) → after t ≡ before t

-- nothing changed
abbrev pub Same : {K : Type 0} → (ℕ → State K) → (ℕ → State K) → Type 0
Same before after = (t : ℕ) → after t ≡ before t

-- how many edits may still be accepted of a tag: of a blank one a growth and a strike, of a standing one a strike
abbrev pub left : {K : Type 0} → State K → ℕ
left Blank = 2
left Struck = 0
left (Standing s) = 1

-- how many edits may still be accepted of the n tags from 2 on
unfoldable pub lefts : {K : Type 0} → (ℕ → State K) → ℕ → ℕ
lefts state zero = 0
lefts state (suc n) = left (state (n + 2)) + lefts state n
