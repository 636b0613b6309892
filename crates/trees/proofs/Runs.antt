-- Points that are joined to their parents, and their runs; and one figure that is taken or left.
use Rattle.std.proofs.Common.{◌≡◌, ℕ, ◌<◌, Bool, true, false, cond, ◌&&◌, ◌||◌, ltb, sym, refl, arith}
use Rattle.std.proofs.lemmas.Bool.{both_ways, and_parts, ltb-true, lt-ltb, and_from}
use Rattle.lengths.specs.Figures.{Figures, Laws, Sum, none, one, Less, AtMost}
use Rattle.lengths.specs.Order.{irrefl, neutral_left}
use Rattle.trees.proofs.Trees.{Tree, Stands, joined, Joined}

module _ {F : Type 0} {k : Figures F} (T : Tree k) where
  -- a standing tag other than the root is joined to its parent
  pub is_joined : {e : ℕ} → Stands T e → 1 < e → Joined T e
  unfolding joined
  is_joined {e} s h = and_from (ltb 1 e) (T.stands e) (lt-ltb 1 e h) s

  -- the greater of two points is joined to its parent
  pub later_joined : (a b : ℕ) → Stands T a → Stands T b → a < b → Joined T b
  later_joined a b s t h = is_joined t (omega (arith, T.from_one a s))

  module _ {e : ℕ} (h : Joined T e) where
    -- a joined point stands
    pub joined_stands : Stands T e
    unfolding joined
    joined_stands = (and_parts (ltb 1 e) (T.stands e) h).1

    -- it is not the root
    pub joined_above : 1 < e
    unfolding joined
    joined_above = ltb-true 1 e (and_parts (ltb 1 e) (T.stands e) h).0

    -- it is within the tree
    pub joined_low : e < T.high
    joined_low = T.to_high e joined_stands

    -- its parent stands
    pub up_stands : Stands T (T.parent e)
    up_stands = T.up_stands e joined_stands joined_above

    -- its parent is smaller
    pub up_lower : T.parent e < e
    up_lower = T.up_lower e joined_stands joined_above

    -- its run is one entry
    pub run_one : Sum k 1 (T.run e)
    run_one = one (omega arith) (T.run_entry e joined_stands joined_above)

    -- its run is above zero
    pub run_above_zero : Less k k.zero (T.run e)
    run_above_zero = T.run_some e joined_stands joined_above

module _ {F : Type 0} (k : Figures F) where
  -- a figure where b holds, else zero
  abbrev pub pick : Bool → F → F
  pick b x = cond b x k.zero

  -- an entry that is taken or left is a sum of at most one entry
  pub pick_sum : (b p : Bool) (x : F) → (b ≡ true → Sum k 1 x) → Sum k 1 (pick (b && p) x)
  pick_sum true true x h = h refl
  pick_sum true false x h = none
  pick_sum false p x h = none

  -- what is never taken is zero
  pub pick_none : (b p : Bool) (x : F) → (b ≡ true → p ≡ false) → pick (b && p) x ≡ k.zero
  pick_none b p x h = grind arith

module _ {F : Type 0} {k : Figures F} (laws : Laws k) where
  -- what is taken more often is at least as great
  pub pick_le : (b p q : Bool) (x : F) → (b ≡ true → p ≡ true → q ≡ true) → AtMost k (pick k (b && p) x) (pick k (b && q) x)
  pick_le true true true x h = irrefl laws x
  pick_le true true false x h = absurd (both_ways false refl (h refl refl))
  pick_le true false true x h = laws.least x
  pick_le true false false x h = irrefl laws k.zero
  pick_le false p q x h = irrefl laws k.zero

  -- taken for one of two reasons that never hold both
  pub pick_or :
      (b p q : Bool) (x : F) → (b ≡ true → Sum k 1 x) → (b ≡ true → (p && q) ≡ false) →
      pick k (b && (p || q)) x ≡ k.sum (pick k (b && p) x) (pick k (b && q) x)
  pick_or true true true x f h = absurd (both_ways true (h refl) refl)
  pick_or true true false x f h = sym (laws.neutral 1 (omega arith) (f refl))
  pick_or true false true x f h = sym (neutral_left laws 1 (omega arith) (f refl))
  pick_or true false false x f h = sym (laws.neutral 1 (omega arith) none)
  pick_or false p q x f h = sym (laws.neutral 1 (omega arith) none)
