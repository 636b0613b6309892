-- The search for the best path: what it has found, one pair of ends after another.
use Rattle.std.proofs.Common.{◌≡◌, ℕ, ◌+◌, ◌-◌, ◌<◌, ◌≤◌, ◌⊎◌, true, false, not, ◌&&◌, cond, eqb, Option, Some, None, List, [], ◌∷◌, get_or, sym, refl, ap, ◌∙◌, inl, inr, arith}
use Rattle.std.proofs.lemmas.Bool.{both_ways, cases_eq, and_parts, or_parts, or_cases, not-true}
use Rattle.std.proofs.lemmas.Bool.Decides.{nat_tests}
use Rattle.lengths.specs.Figures.{Figures, Laws, AtMost, below, equal, above}
use Rattle.lengths.specs.Order.{irrefl, asym, same, le_trans, lt_le_trans}
use Rattle.books.specs.declared.states.State.{State}
use Rattle.books.specs.States.{Lawful}
use Rattle.plans.specs.declared.searching.Found.{Found}
use Rattle.plans.specs.Ways.{Point, alone}
use Rattle.plans.specs.Measures.{Distance}
use Rattle.plans.specs.Plans.{Before, by_length, by_first, by_last}
use Rattle.plans.specs.Searching.{Within, beats, Earlier, Fits, Foremost}
use Rattle.plans.proofs.Loom.{tree_of, point_low, point_high}
use Rattle.plans.proofs.MeasuresAre.{distance_is}

-- a column is filled from a memory, one place after another
module _ {K : Type 0} (memory : List K) (zero : K) where
  abbrev pub Filled : (ℕ → K) → ℕ → Type 0
  Filled far n = (t : ℕ) → 1 ≤ t → t < n → far (t - 1) ≡ get_or memory (t - 1) zero

  pub filled_more : (before after : ℕ → K) (n : ℕ) (x : K) → 1 ≤ n → n ≤ 256 → x ≡ get_or memory (n - 1) zero
      → ((i : ℕ) → i < 256 → n - 1 < 256 → after i ≡ cond (eqb (n - 1) i) x (before i)) → Filled before n → Filled after (n + 1)
  filled_more before after n x low high is put was t a b =
      let p = put (t - 1) (omega arith) (omega arith) in
      let r = was t a in
      grind (arith, nat_tests)

module _ {K : Type 0} {k : Figures K} (laws : Laws k) where
  -- of two paths with the same ends and lengths, neither comes later
  before_self : (l : K) (a b : ℕ) → Before k l a b l a b
  before_self l a b = by_last refl refl (omega arith)

  -- what comes before by the ties is no longer
  pub before_length : {l m : K} {a b c d : ℕ} → Before k l a b m c d → AtMost k l m
  before_length (by_length h) = asym laws h
  before_length {l} {m} (by_first e h) = rw e (irrefl laws m)
  before_length {l} {m} (by_last e f h) = rw e (irrefl laws m)

module _ {K : Type 0} {k : Figures K} (laws : Laws k) {size : ℕ} {state : ℕ → State K} (lawful : Lawful k size state)
    (W : ℕ → ℕ → K → Type 0) (limit : Option K) (p q : ℕ) (best : Found K) (was : Foremost k state W limit p q best)
  where
    -- a pair before the next one is an earlier one, or the one that is looked at
    next_pair : (a b : ℕ) → Earlier p (q + 1) a b → Earlier p q a b ⊎ ((a ≡ p) × (b ≡ q))
    next_pair a b (inl h) = inl (inl h)
    next_pair a b (inr h) = elim (cases_eq b q) [ inl e ↦ inr (h.0, e) | inr n ↦ inl (inr (h.0, omega arith)) ]

    -- the path found so far is not after the next pair
    placed_more : (best.first < p) ⊎ ((best.first ≡ p) × (best.last ≤ q)) → (best.first < p) ⊎ ((best.first ≡ p) × (best.last ≤ q + 1))
    placed_more (inl h) = inl h
    placed_more (inr h) = inr (h.0, omega arith)

    -- it stays the best where the path that is looked at is not better
    pub stays : ((w l : K) → Point state q → W p q w → Distance k state p q l → Within k limit l
        → AtMost k best.weight w × (w ≡ best.weight → Before k best.length best.first best.last l p q)) → Foremost k state W limit p (q + 1) best
    stays here = record {
      fits = was.fits;
      placed = placed_more was.placed;
      least = λ a b w l e sa sb ab hw hl hin. elim (next_pair a b e) [
        | inl old ↦ was.least a b w l old sa sb ab hw hl hin
        | inr at ↦ rw (at.0, at.1) (here w l (rw at.1 at sb) (rw (at.0, at.1) at hw) (rw (at.0, at.1) at hl) hin)
      ];
    }

    -- what was found of the path that is looked at
    module _ (x : Found K) (is_first : x.first ≡ p) (is_last : x.last ≡ q) (fits : Fits k state W limit x) (only : (w : K) → W p q w → w ≡ x.weight) where
      length_only : (l : K) → Distance k state p q l → l ≡ x.length
      length_only l h =
          distance_is laws lawful p q l h
          ∙ sym (distance_is laws lawful p q x.length (rw (is_first, is_last) at fits.long))

      -- it is not better
      pub not_beaten : beats k x best ≡ false → Foremost k state W limit p (q + 1) best
      not_beaten h =
          let (lighter, shorter) = or_parts (k.less x.weight best.weight) (not (k.less best.weight x.weight) && k.less x.length best.length) h in
          stays (λ w l s hw hl hin.
          let ew = only w hw in
          let el = length_only l hl in (
            rw ew lighter,
            λ level.
                let even : k.less best.weight x.weight ≡ false = ap (λ (y : K). k.less y x.weight) (sym level ∙ ew) ∙ irrefl laws x.weight in
                let longer : k.less l best.length ≡ false = rw el (rw even at shorter) in
                elim (laws.compares best.length l) [
                  | below m n o ↦ by_length m
                  | equal m n o ↦ elim was.placed [ inl u ↦ by_first n u | inr u ↦ by_last n u.0 u.1 ]
                  | above m n o ↦ absurd (both_ways (k.less l best.length) longer o)
                ],
          ))

      -- it is better
      pub beaten : beats k x best ≡ true → Foremost k state W limit p (q + 1) x
      beaten h = record {
        fits = fits;
        placed = inr (is_first, omega (arith, is_last));
        least = λ a b w l e sa sb ab hw hl hin. elim (next_pair a b e) [
          | inl old ↦
              let (heavier, ties) = was.least a b w l old sa sb ab hw hl hin in (
                le_trans laws no_heavier heavier,
                λ level. elim (or_cases (k.less x.weight best.weight) (not (k.less best.weight x.weight) && k.less x.length best.length) h) [
                  | inl u ↦ absurd (both_ways (k.less x.weight best.weight) (rw level at heavier) u)
                  | inr u ↦
                      let v = and_parts (not (k.less best.weight x.weight)) (k.less x.length best.length) u in
                      let even : w ≡ best.weight = same laws heavier (rw level no_heavier) in
                      by_length (lt_le_trans laws v.1 (before_length laws (ties even)))
                ],
              )
          | inr at ↦ (
            rw (only w (rw (at.0, at.1) at hw)) (irrefl laws x.weight),
            λ level. by_last (sym (length_only l (rw (at.0, at.1) at hl))) (is_first ∙ sym at.0) (omega (arith, is_last, at.1)),
          )
        ];
      }
        where
          no_heavier : AtMost k x.weight best.weight
          no_heavier = elim (or_cases (k.less x.weight best.weight) (not (k.less best.weight x.weight) && k.less x.length best.length) h) [
            | inl u ↦ asym laws u
            | inr u ↦ not-true (k.less best.weight x.weight) (and_parts (not (k.less best.weight x.weight)) (k.less x.length best.length) u).0
          ]

module _ {K : Type 0} {k : Figures K} (laws : Laws k) {size : ℕ} {state : ℕ → State K} (lawful : Lawful k size state)
    (W : ℕ → ℕ → K → Type 0) (limit : Option K)
  where
    -- the path of the root alone is before all others
    pub foremost_start : (w : K) → W 1 1 w → Foremost k state W limit 1 1 (record { first = 1; last = 1; weight = w; length = k.zero })
    foremost_start w is =
        let root : Point state 1 = (tree_of lawful).root in
        record {
          fits = record {
            first_point = root;
            last_point = root;
            ordered = omega arith;
            weighs = is;
            long = (1 ∷ [], alone root);
            within = no_length limit;
          };
          placed = inr (refl, omega arith);
          least = λ a b v l e sa sb ab hw hl hin. absurd (none a b e sa ab);
        }
      where
        no_length : (o : Option K) → Within k o k.zero
        no_length None = refl
        no_length (Some m) = laws.least m

        none : (a b : ℕ) → Earlier 1 1 a b → Point state a → a ≤ b → ⊥
        none a b (inl h) s ab = omega (arith, point_low lawful a s)
        none a b (inr h) s ab = omega arith

    -- where the first tag is no point, there is no path from it
    pub foremost_past : (p : ℕ) (best : Found K) → (Point state p → ⊥) → Foremost k state W limit p p best → Foremost k state W limit (p + 1) (p + 1) best
    foremost_past p best off was = record {
      fits = was.fits;
      placed = inl (elim was.placed [ inl u ↦ omega arith | inr u ↦ omega (arith, u.0) ]);
      least = λ a b w l e sa sb ab hw hl hin. was.least a b w l (before a b e sa ab) sa sb ab hw hl hin;
    }
      where
        before : (a b : ℕ) → Earlier (p + 1) (p + 1) a b → Point state a → a ≤ b → Earlier p p a b
        before a b (inl h) s ab = elim (cases_eq a p) [ inl e ↦ absurd (off (rw e at s)) | inr n ↦ inl (omega arith) ]
        before a b (inr h) s ab = absurd (omega (arith, h.0, h.1))

    -- past the last tag all paths from the first one were looked at
    pub foremost_next : (p n : ℕ) (best : Found K) → size < n → Foremost k state W limit p n best → Foremost k state W limit (p + 1) (p + 1) best
    foremost_next p n best past was = record {
      fits = was.fits;
      placed = inl (elim was.placed [ inl u ↦ omega arith | inr u ↦ omega (arith, u.0) ]);
      least = λ a b w l e sa sb ab hw hl hin. was.least a b w l (before a b e sb ab) sa sb ab hw hl hin;
    }
      where
        before : (a b : ℕ) → Earlier (p + 1) (p + 1) a b → Point state b → a ≤ b → Earlier p n a b
        before a b (inl h) s ab = elim (cases_eq a p) [ inl e ↦ inr (e, omega (arith, point_high lawful b s)) | inr m ↦ inl (omega arith) ]
        before a b (inr h) s ab = absurd (omega (arith, h.0, h.1))
