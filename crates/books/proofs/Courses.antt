-- Edits that are done one after another: what one edit does, and what a list of them comes to.
use Rattle.std.proofs.Common.{◌≡◌, ℕ, true, false, List, [], ◌∷◌, ◌++◌, map, Option, Some, Ok, Err, Result, sym, refl, ap, ◌∙◌, subst, inl, inr, arith, OnOk, OnErr}
use mathlib.Core.Path.{fun_ext}
use Rattle.std.proofs.lemmas.List.{append-nil, append_assoc}
use Rattle.std.proofs.lemmas.Bool.{cases_Bool, cases_eq, both_ways}
use Rattle.lengths.specs.Figures.{Figures}
use Rattle.books.specs.declared.causes.Refused.{Refused}
use Rattle.books.specs.declared.edits.Edit.{Edit}
use Rattle.books.specs.declared.edits.Edit.TheVariants.{Growth, Strike}
use Rattle.books.specs.declared.edits.Entry.{Entry}
use Rattle.books.specs.declared.states.State.{State}
use Rattle.books.specs.declared.states.State.TheVariants.{Blank, Struck, Standing}
use Rattle.books.specs.Edits.{Explains, Led, CalledFor, Done, Course, Tried, nothing, then, verdict, Wrote, end, wrote, idle}
use Rattle.books.specs.States.{is_struck, New, Hangs, Grown, StruckOut, Same}
use Rattle.books.proofs.Runs.{entry_as}
use Rattle.books.proofs.Steps.{step_led}

-- the list that led to the states goes on with an entry that was answered and done so
step : {K : Type 0} {k : Figures K} {h : List (Entry K)} {s t : ℕ → State K} (size : ℕ) (n : Entry K)
    → n.answer ≡ Some (verdict k size s n.edit) → Done n.edit (verdict k size s n.edit) s t → Led k h s → Led k (h ++ n ∷ []) t
step {K} {k} {h} {s} {t} size n v d led =
    let e : record { edit = n.edit; answer = Some (verdict k size s n.edit) } ≡ n = entry_as refl (sym v) in
    subst (λ (x : Entry K). Led k (h ++ x ∷ []) t) e (step_led size n.edit _ refl d led)

-- a course goes on at its end
pub course_more : {K : Type 0} {k : Figures K} {size : ℕ} {ns : List (Entry K)} {s t u : ℕ → State K} (n : Entry K)
    → Course k size ns s t → n.answer ≡ Some (verdict k size t n.edit) → Done n.edit (verdict k size t n.edit) t u → Course k size (ns ++ n ∷ []) s u
course_more {K} {k} {size} {ns} {s} {t} {u} n (nothing same) v d =
    subst (λ (x : ℕ → State K). Course k size (n ∷ []) x u) (fun_ext same) (then v d (nothing (λ x. refl)))
course_more n (then w e c) v d = then w e (course_more n c v d)

-- the list that led to the states before a course leads on with it
pub course_led : {K : Type 0} {k : Figures K} {size : ℕ} {ns : List (Entry K)} {s t : ℕ → State K} (h : List (Entry K)) → Course k size ns s t → Led k h s → Led k (h ++ ns) t
course_led {K} {k} {size} {ns} {s} {t} h (nothing same) led =
    subst (λ (x : ℕ → State K). Led k (h ++ []) x) (sym (fun_ext same)) (subst (λ (x : List (Entry K)). Led k x s) (sym (append-nil h)) led)
course_led {K} {k} {size} {ns} {s} {t} h (then {n = n} {ns = rest} v d c) led =
    subst (λ (x : List (Entry K)). Led k x t) (append_assoc h (n ∷ []) rest) (course_led (h ++ n ∷ []) c (step size n v d led))

-- every answer of a course is what the edits before it call for
pub course_answered : {K : Type 0} {k : Figures K} {size : ℕ} {ns : List (Entry K)} {s t : ℕ → State K} (h : List (Entry K)) → Course k size ns s t → Led k h s → CalledFor k size h ns
course_answered h (nothing same) led [] n after p = let z : ◌≡◌ {A = ℕ} 0 1 = cc in absurd (omega arith)
course_answered h (nothing same) led (b ∷ before) n after p = let z : ◌≡◌ {A = ℕ} 0 1 = cc in absurd (omega arith)
course_answered {K} {k} {size} {ns} {s} {t} h (then {n = m} {ns = rest} v d c) led [] n after p =
    let q : m ≡ n = cc in
    (s, (subst (λ (x : List (Entry K)). Explains k x s) (sym (append-nil h)) led.explains, subst (λ (x : Entry K). x.answer ≡ Some (verdict k size s x.edit)) q v))
course_answered {K} {k} {size} {ns} {s} {t} h (then {n = m} {ns = rest} v d c) led (b ∷ before) n after p =
    let q : m ≡ b = cc in
    let r : rest ≡ before ++ n ∷ after = cc in
    let a = course_answered (h ++ m ∷ []) c (step size m v d led) before n after r in
    let e : (h ++ m ∷ []) ++ before ≡ h ++ b ∷ before = append_assoc h (m ∷ []) before ∙ ap (λ (x : Entry K). h ++ x ∷ before) q in
    (a.0, (subst (λ (x : List (Entry K)). Explains k x a.0) e a.1.0, a.1.1))

-- what an edit leaves is told by the states before it and its answer
pub struck_as : {K : Type 0} (x : State K) → is_struck x ≡ true → x ≡ Struck
struck_as Blank e = let z : ◌≡◌ {A = ℕ} 0 1 = cc in absurd (omega arith)
struck_as Struck e = refl
struck_as (Standing v) e = let z : ◌≡◌ {A = ℕ} 0 1 = cc in absurd (omega arith)

pub out_apart : {K : Type 0} {s t : ℕ → State K} {tag : ℕ} → StruckOut s t tag → (x : ℕ) → is_struck (t x) ≡ false → (x ≡ tag → ⊥) × (Hangs s tag x → ⊥)
out_apart {K} {s} {t} out x n =
    (λ e. both_ways (is_struck (t x)) n (ap is_struck (ap t e ∙ out.named)), λ c. both_ways (is_struck (t x)) n (ap is_struck (out.with_it x c)))

out_once : {K : Type 0} {s t u : ℕ → State K} {tag : ℕ} → StruckOut s t tag → StruckOut s u tag → Same t u
out_once {K} {s} {t} {u} {tag} a b x = elim (cases_Bool (is_struck (t x))) [
  | inl y ↦ elim (cases_Bool (is_struck (u x))) [ inl z ↦ struck_as (u x) z ∙ sym (struck_as (t x) y) | inr n ↦ both (out_apart b x n) ]
  | inr n ↦ both (out_apart a x n)
]
  where
    both : (x ≡ tag → ⊥) × (Hangs s tag x → ⊥) → u x ≡ t x
    both m = b.kept x m.0 m.1 ∙ sym (a.kept x m.0 m.1)

grown_once : {K : Type 0} {s t u : ℕ → State K} {tag : ℕ} {new : State K} → Grown s t tag new → Grown s u tag new → Same t u
grown_once {K} {s} {t} {u} {tag} a b x = elim (cases_eq x tag) [ inl e ↦ ap u e ∙ b.stood ∙ sym (ap t e ∙ a.stood) | inr n ↦ b.kept x n ∙ sym (a.kept x n) ]

same_once : {K : Type 0} {s t u : ℕ → State K} → Same s t → Same s u → Same t u
same_once a b x = b x ∙ sym (a x)

done_once : {K : Type 0} (s t u : ℕ → State K) (e : Edit K) (r : Result (Unit {0}) Refused) → Done e r s t → Done e r s u → Same t u
done_once s t u (Growth tag x) (Ok v) a b = grown_once a b
done_once s t u (Strike tag) (Ok v) a b = out_once a b
done_once s t u (Growth tag x) (Err f) a b = same_once a b
done_once s t u (Strike tag) (Err f) a b = same_once a b

-- the same edits from the same states are answered alike and leave the same states
pub course_once : {K : Type 0} {k : Figures K} {size : ℕ} {ns ms : List (Entry K)} {s t s' t' : ℕ → State K} → Course k size ns s t → Course k size ms s' t'
    → map (λ (n : Entry K). n.edit) ms ≡ map (λ (n : Entry K). n.edit) ns → Same s s' → (ms ≡ ns) × Same t t'
course_once (nothing a) (nothing b) p same = (refl, λ x. b x ∙ same x ∙ sym (a x))
course_once (nothing a) (then w e d) p same = let z : ◌≡◌ {A = ℕ} 0 1 = cc in absurd (omega arith)
course_once (then w e d) (nothing b) p same = let z : ◌≡◌ {A = ℕ} 0 1 = cc in absurd (omega arith)
course_once {K} {k} {size} {ns} {ms} {s} {t} {s'} {t'} (then {n = n} {ns = xs} {t = u} v d c) (then {n = m} {ns = ys} {t = u'} w e b) p same =
    let q : m.edit ≡ n.edit = cc in
    let r : map (λ (x : Entry K). x.edit) ys ≡ map (λ (x : Entry K). x.edit) xs = cc in
    let alike : s' ≡ s = fun_ext same in
    let told' : m.answer ≡ n.answer = w ∙ ap (λ (x : ℕ → State K). Some (verdict k size x m.edit)) alike ∙ ap (λ (x : Edit K). Some (verdict k size s x)) q ∙ sym v in
    let e' : Done n.edit (verdict k size s n.edit) s u' = subst (λ (x : Edit K). Done x (verdict k size s x) s u') q (subst (λ (x : ℕ → State K). Done m.edit (verdict k size x m.edit) x u') alike e) in
    let rest = course_once c b r (done_once s u u' n.edit _ d e') in
    let one : m ≡ n = entry_as q told' in
    (ap (λ (x : Entry K). x ∷ ys) one ∙ ap (λ (zs : List (Entry K)). n ∷ zs) rest.0, rest.1)

-- one book is new
new_same : {K : Type 0} {k : Figures K} {s t : ℕ → State K} → New k s → New k t → Same s t
new_same {K} {k} {s} {t} a b x = elim (cases_eq x 1) [ inl e ↦ ap t e ∙ b.root ∙ sym (ap s e ∙ a.root) | inr n ↦ b.blank x n ∙ sym (a.blank x n) ]

-- the answers of a new book are told by the edits
pub tried_once : {K : Type 0} {k : Figures K} {size : ℕ} {edits : List (Edit K)} {ns ms : List (Entry K)} → Tried k size edits ns → Tried k size edits ms → ms ≡ ns
tried_once a b = (course_once a.course b.course (b.same ∙ sym a.same) (new_same a.new b.new)).0

-- an edit more that was written, or was not, as it was answered
pub wrote_more : {B K : Type 0} {w : B → Edit K → B → Type 0} {ns : List (Entry K)} {a b c : B} (e : Edit K) (r : Result (Unit {0}) Refused)
    → Wrote w a ns b → OnOk r (w b e c) → OnErr r (c ≡ b) → Wrote w a (ns ++ record { edit = e; answer = Some r } ∷ []) c
wrote_more {B} {K} {w} {ns} {a} {b} {c} e (Ok u) (end q) f g = wrote refl (subst (λ (x : B). w x e c) q f) (end refl)
wrote_more e (Err r) (end q) f g = idle (λ (p : ◌≡◌ {A = Option (Result (Unit {0}) Refused)} (Some (Err r)) (Some (Ok tt))). let z : ◌≡◌ {A = ℕ} 0 1 = cc in omega arith) (end (g ∙ q))
wrote_more e r (wrote y h w) f g = wrote y h (wrote_more e r w f g)
wrote_more e r (idle y w) f g = idle y (wrote_more e r w f g)
