-- What the tables of causes say where no cause holds.
use Rattle.std.proofs.Common.{◌≡◌, ℕ, ◌<◌, ◌≤◌, Bool, true, false, cond, not, eqb, ltb, leb, Some, None, Ok, Option, Result, refl, arith}
use Rattle.std.proofs.lemmas.Bool.{ltb-false, leb-false, eqb-false, not-false, or_parts}
use Rattle.lengths.specs.Figures.{Figures, Less}
use Rattle.books.specs.declared.causes.Refusal.{Refusal}
use Rattle.books.specs.declared.causes.Refused.{Refused}
use Rattle.books.specs.declared.edits.Edit.TheVariants.{Growth, Strike}
use Rattle.books.specs.declared.states.Spur.{Spur}
use Rattle.books.specs.declared.states.State.{State}
use Rattle.books.specs.declared.states.State.TheVariants.{Blank, Struck, Standing}
use Rattle.books.specs.Causes.{answered}
use Rattle.books.specs.Edits.{verdict}
use Rattle.books.specs.States.{is_blank, is_struck, stands}

-- no cause holds: not the first, and none after it
pub none_first : {R : Type 0} (b : Bool) (r : R) (o : Option R) → cond b (Some r) o ≡ None → (b ≡ false) × (o ≡ None)
none_first true r o e = let z : ◌≡◌ {A = ℕ} 0 1 = cc in absurd (omega arith)
none_first false r o e = (refl, e)

-- what was accepted had no cause against it
no_cause : (tag : ℕ) (o : Option Refusal) → ◌≡◌ {A = Result (Unit {0}) Refused} (Ok tt) (answered tag tt o) → o ≡ None
no_cause tag None e = refl
no_cause tag (Some r) e = let z : ◌≡◌ {A = ℕ} 0 1 = cc in absurd (omega arith)

-- what an accepted growth had
pub record MayGrow {K : Type 0} (k : Figures K) (size : ℕ) (state : ℕ → State K) (tag : ℕ) (s : Spur K) : Type 0 where
  pub low : 2 ≤ tag
  pub high : tag ≤ size
  pub above : 1 ≤ s.parent
  pub smaller : s.parent < tag
  pub run_some : Less k k.zero s.run
  pub run_entry : k.entry s.run ≡ true
  pub drop_entry : k.entry s.drop ≡ true
  pub empty : state tag ≡ Blank
  pub up : stands (state s.parent) ≡ true

blank_from : {K : Type 0} (s : State K) → stands s ≡ false → is_struck s ≡ false → s ≡ Blank
blank_from Blank a b = refl
blank_from Struck a b = let z : ◌≡◌ {A = ℕ} 0 1 = cc in absurd (omega arith)
blank_from (Standing s) a b = let z : ◌≡◌ {A = ℕ} 0 1 = cc in absurd (omega arith)

pub stands_from : {K : Type 0} (s : State K) → is_blank s ≡ false → is_struck s ≡ false → stands s ≡ true
stands_from Blank a b = let z : ◌≡◌ {A = ℕ} 0 1 = cc in absurd (omega arith)
stands_from Struck a b = let z : ◌≡◌ {A = ℕ} 0 1 = cc in absurd (omega arith)
stands_from (Standing s) a b = refl

pub may_grow : {K : Type 0} (k : Figures K) (size : ℕ) (state : ℕ → State K) (tag : ℕ) (s : Spur K) → Ok tt ≡ verdict k size state (Growth tag s) → MayGrow k size state tag s
may_grow k size state tag s e =
    let c1 = none_first _ _ _ (no_cause tag _ e) in
    let c2 = none_first _ _ _ c1.1 in
    let c3 = none_first _ _ _ c2.1 in
    let c4 = none_first _ _ _ c3.1 in
    let c5 = none_first _ _ _ c4.1 in
    let c6 = none_first _ _ _ c5.1 in
    let c7 = none_first _ _ _ c6.1 in
    let c8 = none_first _ _ _ c7.1 in
    let t = or_parts (ltb tag 2) (ltb size tag) c1.0 in
    let p = or_parts (eqb s.parent 0) (leb tag s.parent) c2.0 in
    let r = or_parts (not (k.less k.zero s.run)) (not (k.entry s.run)) c3.0 in
    record {
      low = ltb-false tag 2 t.0;
      high = ltb-false size tag t.1;
      above = omega (arith, eqb-false s.parent 0 p.0);
      smaller = leb-false tag s.parent p.1;
      run_some = not-false (k.less k.zero s.run) r.0;
      run_entry = not-false (k.entry s.run) r.1;
      drop_entry = not-false (k.entry s.drop) c4.0;
      empty = blank_from (state tag) c5.0 c6.0;
      up = stands_from (state s.parent) c7.0 c8.0;
    }

-- what an accepted strike had
pub record MayStrike {K : Type 0} (size : ℕ) (state : ℕ → State K) (tag : ℕ) : Type 0 where
  pub low : 2 ≤ tag
  pub high : tag ≤ size
  pub up : stands (state tag) ≡ true

pub may_strike : {K : Type 0} (k : Figures K) (size : ℕ) (state : ℕ → State K) (tag : ℕ) → Ok tt ≡ verdict k size state (Strike tag) → MayStrike size state tag
may_strike k size state tag e =
    let c1 = none_first _ _ _ (no_cause tag _ e) in
    let c2 = none_first _ _ _ c1.1 in
    let c3 = none_first _ _ _ c2.1 in
    let t = or_parts (ltb tag 2) (ltb size tag) c1.0 in
    record { low = ltb-false tag 2 t.0; high = ltb-false size tag t.1; up = stands_from (state tag) c2.0 c3.0 }
