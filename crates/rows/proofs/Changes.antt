-- What a row that is written changes: a growth, a strike; and that every table is lawful.
use Rattle.std.proofs.Common.{◌≡◌, ℕ, zero, suc, ◌+◌, ◌-◌, ◌<◌, ◌≤◌, min, Bool, true, false, cond, not, ◌&&◌, ◌||◌, ltb, leb, List, length, set, Ok, sym, refl, ap, ◌∙◌, subst, inl, inr, arith}
use Rattle.std.proofs.lemmas.List.{length-set, get_or-set_same, get_or-set_other}
use Rattle.std.proofs.lemmas.Bool.{cases_Bool, cases_eq, cases_lt, and_parts, and_left, cond-true, cond-false, both_ways, or_cases, ltb-true, le-leb, lt-ltb, and_from, or_left, or_right}
use Rattle.lengths.specs.Figures.{Figures}
use Rattle.books.specs.declared.states.Spur.{Spur}
use Rattle.books.specs.declared.states.State.{State}
use Rattle.books.specs.declared.states.State.TheVariants.{Blank, Struck, Standing}
use Rattle.books.specs.States as states
use Rattle.books.specs.States.{is_blank, stands, root_spur, Tied, Lawful, Hangs, Grown, StruckOut}
use Rattle.books.specs.declared.edits.Edit.TheVariants.{Growth, Strike}
use Rattle.books.specs.Edits.{verdict}
use Rattle.books.proofs.Tables.{MayGrow, MayStrike, may_grow, may_strike}
use Rattle.rows.specs.declared.row.Row.{Row}
use Rattle.rows.specs.Rows.{row_of, row_at, extent_of, fit, read, state_of, sound, Kept}
use Rattle.rows.proofs.Meaning.{fit_parts, state_root, state_none, state_beyond, state_row, read_stands, read_struck, read_fallen}
use Rattle.books.proofs.Steps.{standing_as}

-- a row is read alike where the parent that it names stands, or does not, in both
read_at : {K : Type 0} (k : Figures K) (t : ℕ) (f g : ℕ → State K) (x : State K)
    → ((s : Spur K) → x ≡ Standing s → fit k t s ≡ true → stands (f s.parent) ≡ stands (g s.parent)) → read k t f x ≡ read k t g x
unfolding read
read_at k t f g Blank h = refl
read_at k t f g Struck h = refl
read_at {K} k t f g (Standing s) h =
    elim (cases_Bool (fit k t s)) [
      | inl y ↦ ap (λ (b : Bool). cond (fit k t s && b) (Standing s) Struck) (h s refl y)
      | inr n ↦ cond-false _ _ _ (and_left (fit k t s) (stands (f s.parent)) n) ∙ sym (cond-false _ _ _ (and_left (fit k t s) (stands (g s.parent)) n))
    ]

-- a row that reads as standing says so, fits, and its parent stands
read_inv : {K : Type 0} (k : Figures K) (t : ℕ) (f : ℕ → State K) (x : State K) (s : Spur K) → read k t f x ≡ Standing s
    → (x ≡ Standing s) × (fit k t s ≡ true) × (stands (f s.parent) ≡ true)
unfolding read
read_inv k t f Blank s e = let z : ◌≡◌ {A = ℕ} 0 1 = cc in absurd (omega arith)
read_inv k t f Struck s e = let z : ◌≡◌ {A = ℕ} 0 1 = cc in absurd (omega arith)
read_inv {K} k t f (Standing u) s e =
    elim (cases_Bool (fit k t u && stands (f u.parent))) [
      | inl y ↦
          let said : Standing u ≡ Standing s = sym (cond-true _ _ _ y) ∙ e in
          let same : u ≡ s = cc in
          let h = subst (λ (v : Spur K). (fit k t v ≡ true) × (stands (f v.parent) ≡ true)) same (and_parts (fit k t u) (stands (f u.parent)) y) in
          (said, h.0, h.1)
      | inr n ↦ let said : Struck ≡ Standing s = sym (cond-false _ _ _ n) ∙ e in let z : ◌≡◌ {A = ℕ} 0 1 = cc in absurd (omega arith)
    ]

read_blank_inv : {K : Type 0} (k : Figures K) (t : ℕ) (f : ℕ → State K) (s : State K) → read k t f s ≡ Blank → s ≡ Blank
unfolding read
read_blank_inv k t f Blank e = refl
read_blank_inv k t f Struck e = e
read_blank_inv k t f (Standing u) e =
    elim (cases_Bool (fit k t u && stands (f u.parent))) [
      | inl y ↦ sym (cond-true _ _ _ y) ∙ e
      | inr n ↦ let s : Struck ≡ Blank = sym (cond-false _ _ _ n) ∙ e in let z : ◌≡◌ {A = ℕ} 0 1 = cc in absurd (omega arith)
    ]

blank_stands : {K : Type 0} {s : Spur K} → Blank ≡ Standing s → ⊥
blank_stands e = let z : ◌≡◌ {A = ℕ} 0 1 = cc in omega arith

module _ {K : Type 0} (k : Figures K) (rows : List (Row K)) where
  -- what is so of a standing tag but the root
  pub record Stood (t : ℕ) (s : Spur K) : Type 0 where
    pub low : 2 ≤ t
    pub high : t ≤ extent_of rows
    pub row : row_at rows (t - 2) ≡ Standing s
    pub fits : fit k t s ≡ true
    pub up : stands (state_of k rows s.parent) ≡ true

  pub stood : (t : ℕ) (s : Spur K) → (t ≡ 1 → ⊥) → state_of k rows t ≡ Standing s → Stood t s
  stood t s n e =
      elim (cases_lt t 2) [
        | inl a ↦ absurd (blank_stands (sym (ap (state_of k rows) (omega arith) ∙ state_none k rows) ∙ e))
        | inr a ↦ elim (cases_lt (extent_of rows) t) [
          | inl b ↦ absurd (blank_stands (sym (state_beyond k rows t b) ∙ e))
          | inr b ↦ let h = read_inv k t (state_of k rows) (row_at rows (t - 2)) s (sym (state_row k rows t a b) ∙ e) in
              record { low = a; high = b; row = h.0; fits = h.1; up = h.2 }
        ]
      ]

  pub lawful_rows : Lawful k (extent_of rows) (state_of k rows)
  lawful_rows = record {
    least = omega arith;
    most = omega arith;
    root = state_root k rows;
    tied = λ t s n e.
        let h = stood t s n e in
        let f = fit_parts k t s h.fits in
        record { above = f.above; smaller = f.smaller; parent = h.up; run_entry = f.run_entry; run_some = f.run_some; drop_entry = f.drop_entry };
    none = state_none k rows;
    beyond = state_beyond k rows;
  }

-- rows with one row written
module _ {K : Type 0} (rows : List (Row K)) (i : ℕ) (s : State K) (within : i < length rows) where
  row_same : row_at (set rows i (row_of s)) i ≡ s
  row_same = ap (λ (r : Row K). r.state) (get_or-set_same rows i (row_of s) (row_of Blank) within)

  row_other : (j : ℕ) → (j ≡ i → ⊥) → row_at (set rows i (row_of s)) j ≡ row_at rows j
  row_other j n = ap (λ (r : Row K). r.state) (get_or-set_other rows i j (row_of s) (row_of Blank) n)

  pub extent_same : extent_of (set rows i (row_of s)) ≡ extent_of rows
  extent_same = ap (λ (n : ℕ). 1 + min 255 n) (length-set rows i (row_of s))

not_blank_sound : {K : Type 0} (rows : List (Row K)) (x : State K) (s : Spur K) → x ≡ Standing s → sound rows x ≡ true → 2 ≤ s.parent → row_at rows (s.parent - 2) ≡ Blank → ⊥
not_blank_sound {K} rows x s e h low b =
    let a : (ltb s.parent 2 || not (is_blank (row_at rows (s.parent - 2)))) ≡ true = subst (λ (y : State K). sound rows y ≡ true) e h in
    elim (or_cases (ltb s.parent 2) (not (is_blank (row_at rows (s.parent - 2)))) a) [
      | inl y ↦ omega (arith, ltb-true s.parent 2 y)
      | inr y ↦ let z : not (is_blank (row_at rows (s.parent - 2))) ≡ false = ap (λ (x : State K). not (is_blank x)) b in both_ways _ z y
    ]

-- a growth
module _ {K : Type 0} (k : Figures K) (rows : List (Row K)) (tag : ℕ) (spur : Spur K) (kept : Kept rows) (ok : Ok tt ≡ verdict k (extent_of rows) (state_of k rows) (Growth tag spur)) where
  may : MayGrow k (extent_of rows) (state_of k rows) tag spur
  may = may_grow k (extent_of rows) (state_of k rows) tag spur ok

  within : tag - 2 < length rows
  within = omega (arith, may.low, may.high)

  -- the row written is one that is used
  pub written_used : tag - 2 < 255
  written_used = omega (arith, may.low, may.high)

  grown : List (Row K)
  grown = set rows (tag - 2) (row_of (Standing spur))

  pub tag_blank : row_at rows (tag - 2) ≡ Blank
  tag_blank = read_blank_inv k tag (state_of k rows) (row_at rows (tag - 2)) (sym (state_row k rows tag may.low may.high) ∙ may.empty)

  unnamed : (u : ℕ) (s : Spur K) → 2 ≤ u → u ≤ extent_of rows → row_at rows (u - 2) ≡ Standing s → s.parent ≡ tag → ⊥
  unnamed u s a b e q =
      not_blank_sound rows (row_at rows (u - 2)) s e (kept (u - 2) (omega arith)) (omega (arith, may.low)) (ap (λ (t : ℕ). row_at rows (t - 2)) q ∙ tag_blank)

  grown_kept : (n u : ℕ) → u ≤ n → (u ≡ tag → ⊥) → state_of k grown u ≡ state_of k rows u
  unfolding grown
  grown_kept n zero h ne = state_none k grown ∙ sym (state_none k rows)
  grown_kept n (suc zero) h ne = state_root k grown ∙ sym (state_root k rows)
  grown_kept zero (suc (suc u)) h ne = absurd (omega arith)
  grown_kept (suc n) (suc (suc u)) h ne =
      let t = suc (suc u) in
      let e = extent_same rows (tag - 2) (Standing spur) within in
      elim (cases_lt (extent_of rows) t) [
        | inl out ↦ state_beyond k grown t (omega arith) ∙ sym (state_beyond k rows t out)
        | inr in' ↦
            state_row k grown t (omega arith) (omega arith)
            ∙ ap (read k t (state_of k grown)) (row_other rows (tag - 2) (Standing spur) within (t - 2) (λ q. ne (omega (arith, may.low))))
            ∙ read_at k t (state_of k grown) (state_of k rows) (row_at rows (t - 2))
            (λ s e f. ap stands (grown_kept n s.parent (omega (arith, (fit_parts k t s f).smaller)) (unnamed t s (omega arith) in' e)))
            ∙ sym (state_row k rows t (omega arith) in')
      ]

  may_fit : fit k tag spur ≡ true
  may_fit = and_from (leb 1 spur.parent) _ (le-leb 1 spur.parent may.above) (and_from (ltb spur.parent tag) _ (lt-ltb spur.parent tag may.smaller) (and_from (k.less k.zero spur.run) _ may.run_some (and_from (k.entry spur.run) (k.entry spur.drop) may.run_entry may.drop_entry)))

  pub grown_rows : Grown (state_of k rows) (state_of k (set rows (tag - 2) (row_of (Standing spur)))) tag (Standing spur)
  unfolding grown
  grown_rows = record {
    stood = state_row k grown tag may.low (omega (arith, may.high, extent_same rows (tag - 2) (Standing spur) within))
        ∙ ap (read k tag (state_of k grown)) (row_same rows (tag - 2) (Standing spur) within)
        ∙ sym (read_stands k tag (state_of k grown) spur may_fit (ap stands (grown_kept spur.parent spur.parent (omega arith) (λ e. omega (arith, may.smaller))) ∙ may.up));
    kept = λ t n. grown_kept t t (omega arith) n;
  }

  -- the new row names a parent whose row is not blank, and no other row was made blank
  pub grown_sound : Kept (set rows (tag - 2) (row_of (Standing spur)))
  unfolding grown
  grown_sound i h = elim (cases_eq i (tag - 2)) [
    | inl e ↦ subst (λ (x : State K). sound grown x ≡ true) (sym (ap (row_at grown) e ∙ row_same rows (tag - 2) (Standing spur) within)) parent_row
    | inr n ↦ subst (λ (x : State K). sound grown x ≡ true) (sym (row_other rows (tag - 2) (Standing spur) within i n)) (more (row_at rows i) (kept i h))
  ]
    where
      parent_row : (ltb spur.parent 2 || not (is_blank (row_at grown (spur.parent - 2)))) ≡ true
      parent_row = elim (cases_lt spur.parent 2) [
        | inl low ↦ or_left _ _ (lt-ltb spur.parent 2 low)
        | inr low ↦
            let a = standing_as (state_of k rows spur.parent) may.up in
            let h = stood k rows spur.parent a.0 (λ e. omega arith) a.1 in
            or_right (ltb spur.parent 2) _ (ap (λ (x : State K). not (is_blank x)) (row_other rows (tag - 2) (Standing spur) within (spur.parent - 2) (λ e. omega (arith, may.smaller)) ∙ h.row))
      ]

      more : (s : State K) → sound rows s ≡ true → sound grown s ≡ true
      more Blank h = refl
      more Struck h = refl
      more (Standing s) h = elim (or_cases (ltb s.parent 2) (not (is_blank (row_at rows (s.parent - 2)))) h) [
        | inl y ↦ or_left _ _ y
        | inr y ↦ or_right (ltb s.parent 2) _ (elim (cases_eq (s.parent - 2) (tag - 2)) [
          | inl e ↦ ap (λ (x : State K). not (is_blank x)) (ap (row_at grown) e ∙ row_same rows (tag - 2) (Standing spur) within)
          | inr n ↦ ap (λ (x : State K). not (is_blank x)) (row_other rows (tag - 2) (Standing spur) within (s.parent - 2) n) ∙ y
        ])
      ]

-- a strike
module _ {K : Type 0} (k : Figures K) (rows : List (Row K)) (tag : ℕ) (kept : Kept rows) (ok : Ok tt ≡ verdict k (extent_of rows) (state_of k rows) (Strike tag)) where
  may_out : MayStrike (extent_of rows) (state_of k rows) tag
  may_out = may_strike k (extent_of rows) (state_of k rows) tag ok

  struck_within : tag - 2 < length rows
  struck_within = omega (arith, may_out.low, may_out.high)

  pub struck_used : tag - 2 < 255
  struck_used = omega (arith, may_out.low, may_out.high)

  struck : List (Row K)
  struck = set rows (tag - 2) (row_of Struck)

  struck_tag : state_of k struck tag ≡ Struck
  unfolding struck
  struck_tag =
      state_row k struck tag may_out.low (omega (arith, may_out.high, extent_same rows (tag - 2) Struck struck_within))
      ∙ ap (read k tag (state_of k struck)) (row_same rows (tag - 2) Struck struck_within) ∙ sym (read_struck k tag (state_of k struck))

  -- the row of another tag is as it was
  struck_row : (t : ℕ) → (t ≡ tag → ⊥) → 2 ≤ t → t ≤ extent_of rows → state_of k struck t ≡ read k t (state_of k struck) (row_at rows (t - 2))
  unfolding struck
  struck_row t n a b =
      state_row k struck t a (omega (arith, extent_same rows (tag - 2) Struck struck_within))
      ∙ ap (read k t (state_of k struck)) (row_other rows (tag - 2) Struck struck_within (t - 2) (λ q. n (omega (arith, may_out.low))))

  hangs_some : {q t : ℕ} → Hangs (state_of k rows) q t → stands (state_of k rows t) ≡ true
  hangs_some (states.child e p) = ap stands e
  hangs_some (states.under e c) = ap stands e

  not_zero : {q : ℕ} → Hangs (state_of k rows) q 0 → ⊥
  not_zero c = both_ways (stands (state_of k rows 0)) (ap stands (state_none k rows)) (hangs_some c)

  root_parent : {s : Spur K} → Standing s ≡ state_of k rows 1 → s.parent ≡ 0
  root_parent {s} e = let o : Standing s ≡ Standing (root_spur k) = e ∙ state_root k rows in let z : s ≡ root_spur k = cc in ap (λ (x : Spur K). x.parent) z

  not_root : {t : ℕ} → Hangs (state_of k rows) tag t → t ≡ 1 → ⊥
  not_root (states.child {s = s} e p) q =
      let z : s.parent ≡ 0 = root_parent (sym e ∙ ap (state_of k rows) q) in omega (arith, may_out.low)
  not_root (states.under {s = s} e c) q =
      let z : s.parent ≡ 0 = root_parent (sym e ∙ ap (state_of k rows) q) in not_zero (subst (Hangs (state_of k rows) tag) z c)

  hangs_above : {t : ℕ} → Hangs (state_of k rows) tag t → tag < t
  hangs_above (states.child {t = t} {s = s} e p) = omega (arith, p, (fit_parts k t s (stood k rows t s (not_root (states.child e p)) e).fits).smaller)
  hangs_above (states.under {t = t} {s = s} e c) =
      omega (arith, hangs_above c, (fit_parts k t s (stood k rows t s (not_root (states.under e c)) e).fits).smaller)

  falls : {t : ℕ} → Hangs (state_of k rows) tag t → state_of k struck t ≡ Struck
  falls (states.child {t = t} {s = s} e p) =
      let c = states.child e p in
      let h = stood k rows t s (not_root c) e in
      struck_row t (λ q. omega (arith, hangs_above c)) h.low h.high ∙ ap (read k t (state_of k struck)) h.row
      ∙ sym (read_fallen k t (state_of k struck) s (ap stands (ap (state_of k struck) p ∙ struck_tag)))
  falls (states.under {t = t} {s = s} e c) =
      let u = states.under e c in
      let h = stood k rows t s (not_root u) e in
      struck_row t (λ q. omega (arith, hangs_above u)) h.low h.high ∙ ap (read k t (state_of k struck)) h.row
      ∙ sym (read_fallen k t (state_of k struck) s (ap stands (falls c)))

  struck_extent : extent_of struck ≡ extent_of rows
  unfolding struck
  struck_extent = extent_same rows (tag - 2) Struck struck_within

  struck_kept : (n u : ℕ) → u ≤ n → (u ≡ tag → ⊥) → (Hangs (state_of k rows) tag u → ⊥) → state_of k struck u ≡ state_of k rows u
  struck_kept n zero h ne apart = state_none k struck ∙ sym (state_none k rows)
  struck_kept n (suc zero) h ne apart = state_root k struck ∙ sym (state_root k rows)
  struck_kept zero (suc (suc u)) h ne apart = absurd (omega arith)
  struck_kept (suc n) (suc (suc u)) h ne apart =
      let t = suc (suc u) in
      elim (cases_lt (extent_of rows) t) [
        | inl out ↦ state_beyond k struck t (omega (arith, struck_extent)) ∙ sym (state_beyond k rows t out)
        | inr in' ↦
            struck_row t ne (omega arith) in'
            ∙ read_at k t (state_of k struck) (state_of k rows) (row_at rows (t - 2))
            (λ s q f.
            let low : s.parent ≤ n = omega (arith, (fit_parts k t s f).smaller) in
            elim (cases_Bool (stands (state_of k rows s.parent))) [
              | inl y ↦
                  let e : state_of k rows t ≡ Standing s = state_row k rows t (omega arith) in' ∙ ap (read k t (state_of k rows)) q ∙ sym (read_stands k t (state_of k rows) s f y) in
                  ap stands (struck_kept n s.parent low (λ p. apart (states.child e p)) (λ c. apart (states.under e c)))
              | inr y ↦ ap stands (struck_kept n s.parent low (λ p. both_ways _ (ap (λ (x : ℕ). stands (state_of k rows x)) (sym p) ∙ y) may_out.up) (λ c. both_ways _ y (hangs_some c)))
            ])
            ∙ sym (state_row k rows t (omega arith) in')
      ]

  pub struck_rows : StruckOut (state_of k rows) (state_of k (set rows (tag - 2) (row_of Struck))) tag
  unfolding struck
  struck_rows = record { named = struck_tag; with_it = λ t c. falls c; kept = λ t n apart. struck_kept t t (omega arith) n apart }

  pub struck_sound : Kept (set rows (tag - 2) (row_of Struck))
  unfolding struck
  struck_sound i h = elim (cases_eq i (tag - 2)) [
    | inl e ↦ subst (λ (x : State K). sound struck x ≡ true) (sym (ap (row_at struck) e ∙ row_same rows (tag - 2) Struck struck_within)) refl
    | inr n ↦ subst (λ (x : State K). sound struck x ≡ true) (sym (row_other rows (tag - 2) Struck struck_within i n)) (more (row_at rows i) (kept i h))
  ]
    where
      more : (s : State K) → sound rows s ≡ true → sound struck s ≡ true
      more Blank h = refl
      more Struck h = refl
      more (Standing s) h = elim (or_cases (ltb s.parent 2) (not (is_blank (row_at rows (s.parent - 2)))) h) [
        | inl y ↦ or_left _ _ y
        | inr y ↦ or_right (ltb s.parent 2) _ (elim (cases_eq (s.parent - 2) (tag - 2)) [
          | inl e ↦ ap (λ (x : State K). not (is_blank x)) (ap (row_at struck) e ∙ row_same rows (tag - 2) Struck struck_within)
          | inr n ↦ ap (λ (x : State K). not (is_blank x)) (row_other rows (tag - 2) Struck struck_within (s.parent - 2) n) ∙ y
        ])
      ]
