-- How a list of edits goes on: an accepted growth, an accepted strike, a refusal.
use Rattle.std.proofs.Common.{◌≡◌, ℕ, ◌<◌, ◌≤◌, true, ◌⊎◌, List, [], ◌∷◌, ◌++◌, Option, Some, Ok, Err, Result, sym, refl, ap, ◌∙◌, subst, inl, inr, arith}
use Rattle.lengths.specs.Figures.{Figures}
use Rattle.std.proofs.lemmas.Bool.{cases_eq}
use Rattle.books.specs.declared.edits.Edit.{Edit}
use Rattle.books.specs.declared.edits.Edit.TheVariants.{Growth, Strike}
use Rattle.books.specs.declared.causes.Refused.{Refused}
use Rattle.books.specs.declared.edits.Entry.{Entry}
use Rattle.books.specs.declared.states.Spur.{Spur}
use Rattle.books.specs.declared.states.State.{State}
use Rattle.books.specs.declared.states.State.TheVariants.{Blank, Struck, Standing}
use Rattle.books.specs.Edits as edits
use Rattle.books.specs.Edits.{Among, accepted, Grew, Named, HangsBy, StandsBy, Explains, Orderly, Led, Done, verdict}
use Rattle.books.specs.States as states
use Rattle.books.specs.States.{stands, Lawful, Hangs, Grown, StruckOut, Same}
use Rattle.books.proofs.Members.{among_more, among_end, among_cases}
use Rattle.books.proofs.Tables.{MayGrow, MayStrike, may_grow, may_strike}

-- a state that stands says how
pub standing_as : {K : Type 0} (x : State K) → stands x ≡ true → (s : Spur K) × (x ≡ Standing s)
standing_as Blank h = let z : ◌≡◌ {A = ℕ} 0 1 = cc in absurd (omega arith)
standing_as Struck h = let z : ◌≡◌ {A = ℕ} 0 1 = cc in absurd (omega arith)
standing_as (Standing s) h = (s, refl)

-- what a list says of growths alone decides what hangs from what
hangs_map : {K : Type 0} {h g : List (Entry K)} {q t : ℕ} → ((t : ℕ) (s : Spur K) → Grew h t s → Grew g t s) → HangsBy h q t → HangsBy g q t
hangs_map f (edits.child m e) = edits.child (f _ _ m) e
hangs_map f (edits.under m c) = edits.under (f _ _ m) (hangs_map f c)

-- two accepted edits
module _ {K : Type 0} where
  same_growth : {t u : ℕ} {s v : Spur K} → accepted (Growth t s) ≡ accepted (Growth u v) → (t ≡ u) × (s ≡ v)
  same_growth {t} {u} {s} {v} e =
      let f : Growth t s ≡ Growth u v = ap (λ (x : Entry K). x.edit) e in
      let f1 : t ≡ u = cc in
      let f2 : s ≡ v = cc in
      (f1, f2)

  as_growth : {t u : ℕ} {s v : Spur K} → t ≡ u → s ≡ v → accepted (Growth t s) ≡ accepted (Growth u v)
  as_growth {t} {u} {s} {v} e f = let x : Growth t s ≡ Growth u v = cc in ap accepted x

  same_strike : {s t : ℕ} → accepted {K = K} (Strike s) ≡ accepted (Strike t) → s ≡ t
  same_strike {s} {t} e = let f : Strike s ≡ Strike t = ap (λ (x : Entry K). x.edit) e in cc

  no_strike : {t u : ℕ} {s : Spur K} → accepted (Growth t s) ≡ accepted (Strike u) → ⊥
  no_strike {t} {u} {s} e =
      let f : Growth t s ≡ Strike u = ap (λ (x : Entry K). x.edit) e in
      let z : ◌≡◌ {A = ℕ} 0 1 = cc in omega arith

  stand_once : {s u : Spur K} → Standing s ≡ Standing u → s ≡ u
  stand_once e = cc

  pub not_blank : {s : Spur K} → Standing s ≡ Blank → ⊥
  not_blank e = let z : ◌≡◌ {A = ℕ} 0 1 = cc in omega arith

  not_struck : {s : Spur K} → Struck ≡ Standing s → ⊥
  not_struck e = let z : ◌≡◌ {A = ℕ} 0 1 = cc in omega arith

  struck_blank : ◌≡◌ {A = State K} Struck Blank → ⊥
  struck_blank e = let z : ◌≡◌ {A = ℕ} 0 1 = cc in omega arith

-- what a list that led to these states says of the root, and of standing tags
module _ {K : Type 0} {k : Figures K} {h : List (Entry K)} {state : ℕ → State K} (led : Led k h state) where
  root_ungrown : (s : Spur K) → Grew h 1 s → ⊥
  root_ungrown s m = let a = led.orderly.above 1 s m in omega arith

  root_unnamed : Named h 1 → ⊥
  root_unnamed m = let g = led.orderly.named 1 m in root_ungrown g.0 g.1

  root_hangs : {q : ℕ} → HangsBy h q 1 → ⊥
  root_hangs (edits.child m e) = root_ungrown _ m
  root_hangs (edits.under m c) = root_ungrown _ m

  grown_not_root : (t : ℕ) (s : Spur K) → Grew h t s → t ≡ 1 → ⊥
  grown_not_root t s m e = let a = led.orderly.above t s m in omega arith

  -- a standing tag, the root too, is named by no strike, nor is what it hangs from
  up_unnamed : (t : ℕ) → stands (state t) ≡ true → Named h t → ⊥
  up_unnamed t up m = elim (cases_eq t 1) [
    | inl e ↦ root_unnamed (subst (Named h) e m)
    | inr n ↦ let a = standing_as (state t) up in (led.explains.standing t a.0 n a.1).unnamed m
  ]

  up_free : (t q : ℕ) → stands (state t) ≡ true → HangsBy h q t → Named h q → ⊥
  up_free t q up c m = elim (cases_eq t 1) [
    | inl e ↦ root_hangs (subst (HangsBy h q) e c)
    | inr n ↦ let a = standing_as (state t) up in (led.explains.standing t a.0 n a.1).free q c m
  ]

  -- the parent of a standing tag stands
  parent_stands : (t : ℕ) (s : Spur K) → StandsBy h t s → (s.parent ≡ 1) ⊎ ((u : Spur K) × (state s.parent ≡ Standing u))
  parent_stands t s sb = elim (led.orderly.grounded t s sb.grew) [
    | inl e ↦ inl e
    | inr g ↦ inr (
      g.0,
      led.explains.stood s.parent g.0 (record {
        grew = g.1;
        unnamed = λ m. sb.free s.parent (edits.child sb.grew refl) m;
        free = λ q c m. sb.free q (edits.under sb.grew c) m;
      }),
    )
  ]

-- lists with the same accepted edits lead to the same states
module _ {K : Type 0} {k : Figures K} {h g : List (Entry K)} {a b : ℕ → State K} (to : (x : Edit K) → Among (accepted x) h → Among (accepted x) g) (from : (x : Edit K) → Among (accepted x) g → Among (accepted x) h) (same : Same a b) where
  alike : Led k h a → Led k g b
  alike led = record {
    orderly = record {
      above = λ t s m. led.orderly.above t s (from _ m);
      grounded = λ t s m. elim (led.orderly.grounded t s (from _ m)) [ inl e ↦ inl e | inr x ↦ inr (x.0, to _ x.1) ];
      once = λ t s u m n. led.orderly.once t s u (from _ m) (from _ n);
      named = λ t m. let x = led.orderly.named t (from _ m) in (x.0, to _ x.1);
    };
    explains = record {
      root = same 1 ∙ led.explains.root;
      standing = λ t s n e. let sb = led.explains.standing t s n (sym (same t) ∙ e) in
          record { grew = to _ sb.grew; unnamed = λ m. sb.unnamed (from _ m); free = λ q c m. sb.free q (hangs_map (λ u v x. from _ x) c) (from _ m) };
      stood = λ t s sb. same t ∙ led.explains.stood t s (record { grew = from _ sb.grew; unnamed = λ m. sb.unnamed (to _ m); free = λ q c m. sb.free q (hangs_map (λ u v x. to _ x) c) (to _ m) });
      blank = λ t s e m. led.explains.blank t s (sym (same t) ∙ e) (from _ m);
      never = λ t n f. same t ∙ led.explains.never t n (λ s m. f s (to _ m));
    };
  }

-- an edit that was not accepted adds nothing
unaccepted_step : {K : Type 0} {k : Figures K} (h : List (Entry K)) (a b : ℕ → State K) (n : Entry K) → ((x : Edit K) → accepted x ≡ n → ⊥) → Same a b → Led k h a → Led k (h ++ n ∷ []) b
unaccepted_step h a b n apart same led = alike (λ x m. among_more _ m) (λ x m. elim (among_cases h _ m) [ inl y ↦ y | inr q ↦ absurd (apart x q) ]) same led

refused_apart : {K : Type 0} (e : Edit K) (f : Refused) (x : Edit K) → accepted x ≡ record { edit = e; answer = Some (Err f) } → ⊥
refused_apart {K} e f x q =
    let p : ◌≡◌ {A = Option (Result (Unit {0}) Refused)} (Some (Ok tt)) (Some (Err f)) = ap (λ (y : Entry K). y.answer) q in
    let z : ◌≡◌ {A = ℕ} 0 1 = cc in omega arith

-- an accepted growth
module _ {K : Type 0} {k : Figures K} {size : ℕ} {h : List (Entry K)} {a b : ℕ → State K} {tag : ℕ} {spur : Spur K} (led : Led k h a) (may : MayGrow k size a tag spur) (grown : Grown a b tag (Standing spur)) where
  grew_cases : {t : ℕ} {s : Spur K} → Grew (h ++ accepted (Growth tag spur) ∷ []) t s → Grew h t s ⊎ ((t ≡ tag) × (s ≡ spur))
  grew_cases m = elim (among_cases h _ m) [ inl x ↦ inl x | inr e ↦ inr (same_growth e) ]

  named_back : {q : ℕ} → Named (h ++ accepted (Growth tag spur) ∷ []) q → Named h q
  named_back m = elim (among_cases h _ m) [ inl x ↦ x | inr e ↦ absurd (no_strike (sym e)) ]

  ungrown : (t : ℕ) (s : Spur K) → t ≡ tag → Grew h t s → ⊥
  ungrown t s e m = led.explains.blank t s (ap a e ∙ may.empty) m

  tag_unnamed : (t : ℕ) → t ≡ tag → Named h t → ⊥
  tag_unnamed t e m = let g = led.orderly.named t m in ungrown t g.0 e g.1

  other : (t : ℕ) (s : Spur K) → Grew h t s → s.parent ≡ tag → ⊥
  other t s m e = elim (led.orderly.grounded t s m) [ inl one ↦ omega (arith, may.low) | inr g ↦ ungrown s.parent g.0 e g.1 ]

  -- what hung from what before hangs so still, and nothing else but the new tag
  hangs_back : {q t : ℕ} → (t ≡ tag → ⊥) → HangsBy (h ++ accepted (Growth tag spur) ∷ []) q t → HangsBy h q t
  hangs_back n (edits.child m p) = elim (grew_cases m) [ inl x ↦ edits.child x p | inr e ↦ absurd (n e.0) ]
  hangs_back n (edits.under {t = t} {s = s} m c) = elim (grew_cases m) [ inl x ↦ edits.under x (hangs_back (other t s x) c) | inr e ↦ absurd (n e.0) ]

  not_parent : (p : ℕ) → p ≡ spur.parent → p ≡ tag → ⊥
  not_parent p e f = omega (arith, may.smaller)

  new_free : (t q : ℕ) → t ≡ tag → HangsBy (h ++ accepted (Growth tag spur) ∷ []) q t → Named h q → ⊥
  new_free t q e (edits.child {s = s} m p) n = elim (grew_cases m) [
    | inl x ↦ ungrown t s e x
    | inr f ↦ up_unnamed led spur.parent may.up (subst (Named h) (sym p ∙ ap (λ (v : Spur K). v.parent) f.1) n)
  ]
  new_free t q e (edits.under {s = s} m c) n = elim (grew_cases m) [
    | inl x ↦ ungrown t s e x
    | inr f ↦
        let p : s.parent ≡ spur.parent = ap (λ (v : Spur K). v.parent) f.1 in
        up_free led spur.parent q may.up (subst (HangsBy h q) p (hangs_back (not_parent s.parent p) c)) n
  ]

  grown_standing : (t : ℕ) (s : Spur K) → (t ≡ 1 → ⊥) → b t ≡ Standing s → StandsBy (h ++ accepted (Growth tag spur) ∷ []) t s
  grown_standing t s n e = elim (cases_eq t tag) [
    | inl f ↦
        record { grew = among_end h (as_growth f (stand_once (sym e ∙ ap b f ∙ grown.stood))); unnamed = λ m. tag_unnamed t f (named_back m); free = λ q c m. new_free t q f c (named_back m) }
    | inr f ↦
        let sb = led.explains.standing t s n (sym (grown.kept t f) ∙ e) in
        record { grew = among_more _ sb.grew; unnamed = λ m. sb.unnamed (named_back m); free = λ q c m. sb.free q (hangs_back f c) (named_back m) }
  ]

  grown_stood : (t : ℕ) (s : Spur K) → StandsBy (h ++ accepted (Growth tag spur) ∷ []) t s → b t ≡ Standing s
  grown_stood t s sb = elim (grew_cases sb.grew) [
    | inl m ↦ grown.kept t (λ e. ungrown t s e m) ∙ led.explains.stood t s (record {
      grew = m;
      unnamed = λ x. sb.unnamed (among_more _ x);
      free = λ q c x. sb.free q (hangs_map (λ u v y. among_more _ y) c) (among_more _ x);
    })
    | inr e ↦ ap b e.0 ∙ grown.stood ∙ ap (λ (v : Spur K). Standing v) (sym e.1)
  ]

  grown_blank : (t : ℕ) (s : Spur K) → b t ≡ Blank → Grew (h ++ accepted (Growth tag spur) ∷ []) t s → ⊥
  grown_blank t s e m = elim (grew_cases m) [
    | inl x ↦ led.explains.blank t s (sym (grown.kept t (λ f. ungrown t s f x)) ∙ e) x
    | inr f ↦ not_blank (sym grown.stood ∙ ap b (sym f.0) ∙ e)
  ]

  grown_grounded : (t : ℕ) (s : Spur K) → Grew (h ++ accepted (Growth tag spur) ∷ []) t s → (s.parent ≡ 1) ⊎ ((u : Spur K) × Grew (h ++ accepted (Growth tag spur) ∷ []) s.parent u)
  grown_grounded t s m = elim (grew_cases m) [
    | inl x ↦ elim (led.orderly.grounded t s x) [ inl e ↦ inl e | inr g ↦ inr (g.0, among_more _ g.1) ]
    | inr f ↦ elim (cases_eq s.parent 1) [
      | inl e ↦ inl e
      | inr n ↦
          let x = standing_as (a s.parent) (ap (λ (v : Spur K). stands (a v.parent)) f.1 ∙ may.up) in
          inr (x.0, among_more _ (led.explains.standing s.parent x.0 n x.1).grew)
    ]
  ]

  grown_once : (t : ℕ) (s u : Spur K) → Grew (h ++ accepted (Growth tag spur) ∷ []) t s → Grew (h ++ accepted (Growth tag spur) ∷ []) t u → s ≡ u
  grown_once t s u m n = elim (grew_cases m) [
    | inl x ↦ elim (grew_cases n) [ inl y ↦ led.orderly.once t s u x y | inr f ↦ absurd (ungrown t s f.0 x) ]
    | inr e ↦ elim (grew_cases n) [ inl y ↦ absurd (ungrown t u e.0 y) | inr f ↦ e.1 ∙ sym f.1 ]
  ]

  grown_above : (t : ℕ) (s : Spur K) → Grew (h ++ accepted (Growth tag spur) ∷ []) t s → (1 ≤ s.parent) × (s.parent < t)
  grown_above t s m = elim (grew_cases m) [
    | inl x ↦ led.orderly.above t s x
    | inr e ↦ let p : s.parent ≡ spur.parent = ap (λ (v : Spur K). v.parent) e.1 in (omega (arith, may.above), omega (arith, e.0, may.smaller))
  ]

  pub growth_step : Led k (h ++ accepted (Growth tag spur) ∷ []) b
  growth_step = record {
    orderly = record {
      above = grown_above;
      grounded = grown_grounded;
      once = grown_once;
      named = λ q m. let g = led.orderly.named q (named_back m) in (g.0, among_more _ g.1);
    };
    explains = record {
      root = grown.kept 1 (λ e. omega (arith, may.low)) ∙ led.explains.root;
      standing = grown_standing;
      stood = grown_stood;
      blank = grown_blank;
      never = λ t n f. grown.kept t (λ e. f spur (among_end h (as_growth e refl))) ∙ led.explains.never t n (λ s m. f s (among_more _ m));
    };
  }

-- an accepted strike
module _ {K : Type 0} {k : Figures K} {size : ℕ} {h : List (Entry K)} {a b : ℕ → State K} {tag : ℕ} (led : Led k h a) (may : MayStrike size a tag) (out : StruckOut a b tag) where
  grew_back : {t : ℕ} {s : Spur K} → Grew (h ++ accepted (Strike tag) ∷ []) t s → Grew h t s
  grew_back m = elim (among_cases h _ m) [ inl x ↦ x | inr e ↦ absurd (no_strike e) ]

  named_cases : {q : ℕ} → Named (h ++ accepted (Strike tag) ∷ []) q → Named h q ⊎ (q ≡ tag)
  named_cases m = elim (among_cases h _ m) [ inl x ↦ inl x | inr e ↦ inr (same_strike e) ]

  named_tag : Named (h ++ accepted (Strike tag) ∷ []) tag
  named_tag = among_end h refl

  hung_back : {q t : ℕ} → HangsBy (h ++ accepted (Strike tag) ∷ []) q t → HangsBy h q t
  hung_back c = hangs_map (λ t s m. grew_back m) c

  hung_more : {q t : ℕ} → HangsBy h q t → HangsBy (h ++ accepted (Strike tag) ∷ []) q t
  hung_more c = hangs_map (λ t s m. among_more _ m) c

  -- of a standing tag the list and the states say alike from what it hangs
  to_state : {q t : ℕ} (s : Spur K) → (t ≡ 1 → ⊥) → a t ≡ Standing s → HangsBy h q t → Hangs a q t
  to_state {q} {t} s n e (edits.child {s = v} m p) =
      states.child e (ap (λ (x : Spur K). x.parent) (led.orderly.once t s v (led.explains.standing t s n e).grew m) ∙ p)
  to_state {q} {t} s n e (edits.under {s = v} m c) =
      let sb = led.explains.standing t s n e in
      let o : v.parent ≡ s.parent = ap (λ (x : Spur K). x.parent) (sym (led.orderly.once t s v sb.grew m)) in
      elim (parent_stands led t s sb) [
        | inl one ↦ absurd (root_hangs led (subst (HangsBy h q) (o ∙ one) c))
        | inr g ↦ states.under e (subst (Hangs a q) o (to_state g.0 (λ f. root_hangs led (subst (HangsBy h q) f c)) (ap a o ∙ g.1) c))
      ]

  no_tag_zero : {q : ℕ} → Hangs a q 0 → ⊥
  no_tag_zero c = zero c (led.explains.never 0 (λ e. omega arith) (λ s m. let x = led.orderly.above 0 s m in omega arith))
    where
      zero : {q : ℕ} → Hangs a q 0 → a 0 ≡ Blank → ⊥
      zero (states.child e p) z = not_blank (sym e ∙ z)
      zero (states.under e c) z = not_blank (sym e ∙ z)

  root_apart : {q : ℕ} → 2 ≤ q → Hangs a q 1 → ⊥
  root_apart {q} low (states.child {s = s} e p) =
      let o : s.parent ≡ 0 = ap (λ (x : Spur K). x.parent) (stand_once (sym e ∙ led.explains.root)) in omega arith
  root_apart {q} low (states.under {s = s} e c) =
      let o : s.parent ≡ 0 = ap (λ (x : Spur K). x.parent) (stand_once (sym e ∙ led.explains.root)) in no_tag_zero (subst (Hangs a q) o c)

  to_list : {q t : ℕ} → 2 ≤ q → (t ≡ 1 → ⊥) → Hangs a q t → HangsBy h q t
  to_list {q} {t} low n (states.child {s = s} e p) = edits.child (led.explains.standing t s n e).grew p
  to_list {q} {t} low n (states.under {s = s} e c) =
      edits.under (led.explains.standing t s n e).grew (to_list low (λ f. root_apart low (subst (Hangs a q) f c)) c)

  stands_apart : (t : ℕ) (s : Spur K) → b t ≡ Standing s → (t ≡ tag → ⊥) × (Hangs a tag t → ⊥)
  stands_apart t s e = (λ f. not_struck (sym out.named ∙ ap b (sym f) ∙ e), λ c. not_struck (sym (out.with_it t c) ∙ e))

  blank_apart : (t : ℕ) → b t ≡ Blank → (t ≡ tag → ⊥) × (Hangs a tag t → ⊥)
  blank_apart t e = (λ f. struck_blank (sym out.named ∙ ap b (sym f) ∙ e), λ c. struck_blank (sym (out.with_it t c) ∙ e))

  struck_standing : (t : ℕ) (s : Spur K) → (t ≡ 1 → ⊥) → b t ≡ Standing s → StandsBy (h ++ accepted (Strike tag) ∷ []) t s
  struck_standing t s n e =
      let x = stands_apart t s e in
      let was : a t ≡ Standing s = sym (out.kept t x.0 x.1) ∙ e in
      let sb = led.explains.standing t s n was in
      record {
        grew = among_more _ sb.grew;
        unnamed = λ m. elim (named_cases m) [ inl y ↦ sb.unnamed y | inr f ↦ x.0 f ];
        free = λ q c m. elim (named_cases m) [
          | inl y ↦ sb.free q (hung_back c) y
          | inr f ↦ x.1 (to_state s n was (subst (λ (u : ℕ). HangsBy h u t) f (hung_back c)))
        ];
      }

  struck_stood : (t : ℕ) (s : Spur K) → StandsBy (h ++ accepted (Strike tag) ∷ []) t s → b t ≡ Standing s
  struck_stood t s sb =
      let g = grew_back sb.grew in
      let n = grown_not_root led t s g in
      out.kept t (λ e. sb.unnamed (subst (Named (h ++ accepted (Strike tag) ∷ [])) (sym e) named_tag))
      (λ c. sb.free tag (hung_more (to_list may.low n c)) named_tag)
      ∙ led.explains.stood t s (record { grew = g; unnamed = λ m. sb.unnamed (among_more _ m); free = λ q c m. sb.free q (hung_more c) (among_more _ m) })

  blank_hangs : (t : ℕ) → a t ≡ Blank → Hangs a tag t → ⊥
  blank_hangs t z (states.child e p) = not_blank (sym e ∙ z)
  blank_hangs t z (states.under e c) = not_blank (sym e ∙ z)

  pub strike_step : Led k (h ++ accepted (Strike tag) ∷ []) b
  strike_step = record {
    orderly = record {
      above = λ t s m. led.orderly.above t s (grew_back m);
      grounded = λ t s m. elim (led.orderly.grounded t s (grew_back m)) [ inl e ↦ inl e | inr g ↦ inr (g.0, among_more _ g.1) ];
      once = λ t s u m n. led.orderly.once t s u (grew_back m) (grew_back n);
      named = λ q m. elim (named_cases m) [
        | inl y ↦ let g = led.orderly.named q y in (g.0, among_more _ g.1)
        | inr f ↦
            let x = standing_as (a q) (ap (λ (u : ℕ). stands (a u)) f ∙ may.up) in
            (x.0, among_more _ (led.explains.standing q x.0 (λ e. omega (arith, may.low)) x.1).grew)
      ];
    };
    explains = record {
      root = out.kept 1 (λ e. omega (arith, may.low)) (root_apart may.low) ∙ led.explains.root;
      standing = struck_standing;
      stood = struck_stood;
      blank = λ t s e m. let x = blank_apart t e in led.explains.blank t s (sym (out.kept t x.0 x.1) ∙ e) (grew_back m);
      never = λ t n f.
          let z = led.explains.never t n (λ s m. f s (among_more _ m)) in
          out.kept t (λ e. let x = standing_as (a tag) may.up in not_blank (sym x.1 ∙ ap a (sym e) ∙ z)) (blank_hangs t z) ∙ z;
    };
  }

-- the list that led to the states goes on with an edit and its answer
pub step_led : {K : Type 0} {k : Figures K} {h : List (Entry K)} {a b : ℕ → State K} (size : ℕ) (e : Edit K) (r : Result (Unit {0}) Refused)
    → r ≡ verdict k size a e → Done e r a b → Led k h a → Led k (h ++ record { edit = e; answer = Some r } ∷ []) b
step_led {K} {k} {h} {a} {b} size (Growth tag s) (Ok u) v d led = growth_step led (may_grow k size a tag s v) d
step_led {K} {k} {h} {a} {b} size (Strike tag) (Ok u) v d led = strike_step led (may_strike k size a tag v) d
step_led {K} {k} {h} {a} {b} size (Growth tag s) (Err f) v d led = unaccepted_step h a b _ (refused_apart _ f) d led
step_led {K} {k} {h} {a} {b} size (Strike tag) (Err f) v d led = unaccepted_step h a b _ (refused_apart _ f) d led
