-- How reading a whole slip goes on, row by row.
use Rattle.std.proofs.Common.{◌≡◌, ℕ, ◌+◌, ◌<◌, ◌≤◌, List, [], ◌∷◌, ◌++◌, length, drop, Some, None, sym, refl, ap, ◌∙◌, subst, arith}
use Rattle.std.specs.List.{flat_map, AllByRecursion}
use Rattle.std.proofs.ByRecursion.{All-push}
use Rattle.std.proofs.lemmas.List.Prefix.{front_rest}
use Rattle.std.proofs.lemmas.List.{append_assoc, append-nil, length-append, length_push, flat_map_more}
use Rattle.slips.specs.declared.faults.Fault.{Fault}
use Rattle.slips.specs.declared.rows.Values.{Values}
use Rattle.slips.specs.Format.{Proper, row_line, row_text, names_line, slip_text, most_bytes}
use Rattle.slips.specs.Rules as rules
use Rattle.slips.specs.Rules.{Holds, Read, RowsFault}
use Rattle.slips.specs.Seen as seen
use Rattle.slips.specs.Writing.{RowOf, ReadBack}
use Rattle.slips.specs.Seen.{Found, found, found_from, Answer, a_row, a_fault, the_end, RowsAnswer, Answers, Place, place, moved}

-- an answer there: a fault of the whole slip or its names, or what the rows left answer
data Onward (slip : List ℕ) (vs : List Values) (a : Answer) : Type 0 where
  stopped : (f : Fault) → a ≡ a_fault f → Holds slip vs (Some f) → Onward slip vs a
  onward : (rest : List ℕ) → length slip ≤ most_bytes → AllByRecursion Proper vs → slip ≡ slip_text vs ++ rest → RowsAnswer rest (length (slip_text vs)) (2 + length vs) a → Onward slip vs a

no_rows : slip_text [] ≡ names_line
no_rows = append-nil names_line

goes : (slip : List ℕ) (vs : List Values) (b l : ℕ) (a : Answer) → Read slip vs b l → Answers slip b l a → Onward slip vs a
goes slip vs b l a (rules.nothing n z o) (seen.too_long h d) = stopped _ d (rules.too_long h n refl)
goes slip vs b l a (rules.nothing n z o) (seen.no_names c h o' k d) = stopped _ d (rules.no_names c h k n refl)
goes slip vs b l a (rules.nothing n z o) (seen.first rest h o' e k) =
    let P : List Values → Type 0 = λ us. Onward slip us a in
    subst P (sym n)
    (onward rest h tt (e ∙ ap (λ (t : List ℕ). t ++ rest) (sym no_rows)) (subst (λ (i : ℕ). RowsAnswer rest i 2 a) (ap length (sym no_rows)) k))
goes slip vs b l a (rules.nothing n z o) (seen.later h o' k) = absurd (o' o)
goes slip vs b l a (rules.up_to h p e f o) (seen.too_long h' d) = absurd (omega arith)
goes slip vs b l a (rules.up_to h p e f o) (seen.no_names c h' o' k d) = absurd (omega arith)
goes slip vs b l a (rules.up_to h p e f o) (seen.first rest h' o' e' k) = absurd (omega arith)
goes slip vs b l a (rules.up_to h p e f o) (seen.later h' o' k) =
    onward (drop b slip) h p e (subst (λ (i : ℕ). RowsAnswer (drop b slip) i (2 + length vs) a) f (subst (λ (i : ℕ). RowsAnswer (drop b slip) b i a) o k))

-- the end, a fault
ended : (slip : List ℕ) (vs : List Values) → Onward slip vs the_end → Holds slip vs None
ended slip vs (stopped f d h) = let z : ◌≡◌ {A = ℕ} 0 1 = cc in absurd (omega arith)
ended slip vs (onward rest h p e (seen.ends n d)) = rules.whole h p (e ∙ ap (λ (t : List ℕ). slip_text vs ++ t) n ∙ append-nil (slip_text vs)) refl
ended slip vs (onward rest h p e (seen.faulty f k d)) = let z : ◌≡◌ {A = ℕ} 0 1 = cc in absurd (omega arith)
ended slip vs (onward rest h p e (seen.row v a q c d)) = let z : ◌≡◌ {A = ℕ} 0 1 = cc in absurd (omega arith)

pub at_end : (slip : List ℕ) (vs : List Values) (b l : ℕ) → Read slip vs b l → Answers slip b l the_end → Holds slip vs None
at_end slip vs b l p a = ended slip vs (goes slip vs b l the_end p a)

failed : (slip : List ℕ) (vs : List Values) (f : Fault) → Onward slip vs (a_fault f) → Holds slip vs (Some f)
failed slip vs f (stopped g d h) = let s : g ≡ f = cc in subst (λ (x : Fault). Holds slip vs (Some x)) s h
failed slip vs f (onward rest h p e (seen.ends n d)) = let z : ◌≡◌ {A = ℕ} 0 1 = cc in absurd (omega arith)
failed slip vs f (onward rest h p e (seen.faulty g k d)) = let s : g ≡ f = cc in rules.at_row rest f h p e (subst (RowsFault rest (length (slip_text vs)) (2 + length vs)) s k) refl
failed slip vs f (onward rest h p e (seen.row v a q c d)) = let z : ◌≡◌ {A = ℕ} 0 1 = cc in absurd (omega arith)

pub at_fault : (slip : List ℕ) (vs : List Values) (b l : ℕ) (f : Fault) → Read slip vs b l → Answers slip b l (a_fault f) → Holds slip vs (Some f)
at_fault slip vs b l f p a = failed slip vs f (goes slip vs b l (a_fault f) p a)

-- a row
text_push : (vs : List Values) (v : Values) → slip_text (vs ++ v ∷ []) ≡ slip_text vs ++ row_line v
text_push vs v = sym (flat_map_more row_line names_line vs v)

-- what a row leaves: the reader past its line, further on within the slip
pub record Stepped (slip : List ℕ) (vs : List Values) (b l : ℕ) (w : Found) : Type 0 where
  pub here : w ≡ found (length (slip_text vs)) (2 + length vs) w.values
  pub next : Read slip (vs ++ w.values ∷ []) (w.byte + length (row_line w.values)) (w.line + 1)
  pub further : b < w.byte + length (row_line w.values)
  pub within : w.byte + length (row_line w.values) ≤ length slip

stepped : (slip : List ℕ) (vs : List Values) (b l : ℕ) (w : Found) → b ≤ length (slip_text vs) → Onward slip vs (a_row w) → Stepped slip vs b l w
stepped slip vs b l w low (stopped f d h) = let z : ◌≡◌ {A = ℕ} 0 1 = cc in absurd (omega arith)
stepped slip vs b l w low (onward rest h p e (seen.ends n d)) = let z : ◌≡◌ {A = ℕ} 0 1 = cc in absurd (omega arith)
stepped slip vs b l w low (onward rest h p e (seen.faulty f k d)) = let z : ◌≡◌ {A = ℕ} 0 1 = cc in absurd (omega arith)
stepped slip vs b l w low (onward rest h p e (seen.row v a q c d)) =
    let s : w ≡ found (length (slip_text vs)) (2 + length vs) v = cc in
    subst (Stepped slip vs b l) (sym s) (
    let whole : slip ≡ slip_text (vs ++ v ∷ []) ++ a = e ∙ ap (λ (t : List ℕ). slip_text vs ++ t) c ∙ sym (append_assoc (slip_text vs) (row_line v) a) ∙ ap (λ (t : List ℕ). t ++ a) (sym (text_push vs v)) in
    let far : length (slip_text vs) + length (row_line v) ≡ length (slip_text (vs ++ v ∷ [])) = sym (ap length (text_push vs v) ∙ length-append (slip_text vs) (row_line v)) in
    let left : drop (length (slip_text vs) + length (row_line v)) slip ≡ a = ap (λ (k : ℕ). drop k slip) far ∙ front_rest slip (slip_text (vs ++ v ∷ [])) a whole in
    record {
      here = refl;
      next = rules.up_to h (All-push Proper vs v p q) (whole ∙ ap (λ (t : List ℕ). slip_text (vs ++ v ∷ []) ++ t) (sym left)) far (omega (arith, length_push vs v));
      further = omega (arith, length-append (row_text v) (10 ∷ []));
      within = omega (arith, ap length whole, length-append (slip_text (vs ++ v ∷ [])) a);
    })

low : (slip : List ℕ) (vs : List Values) (b l : ℕ) → Read slip vs b l → b ≤ length (slip_text vs)
low slip vs b l (rules.nothing n z o) = omega arith
low slip vs b l (rules.up_to h p e f o) = omega arith

pub at_row : (slip : List ℕ) (vs : List Values) (b l : ℕ) (w : Found) → Read slip vs b l → Answers slip b l (a_row w) → Stepped slip vs b l w
at_row slip vs b l w p a = stepped slip vs b l w (low slip vs b l p) (goes slip vs b l (a_row w) p a)

-- rows found one after another, and one more
pub found_push : (b l : ℕ) (vs : List Values) (v : Values) → found_from b l (vs ++ v ∷ []) ≡ found_from b l vs ++ (found (b + length (flat_map row_line vs)) (l + length vs) v ∷ [])
found_push b l [] v = ap (λ (i : ℕ). found i l v ∷ []) (omega arith) ∙ ap (λ (i : ℕ). found (b + 0) i v ∷ []) (omega arith)
found_push b l (u ∷ vs) v =
    ap (λ (fs : List Found). found b l u ∷ fs) (found_push (b + length (row_line u)) (l + 1) vs v
    ∙ ap (λ (i : ℕ). found_from (b + length (row_line u)) (l + 1) vs ++ (found i (l + 1 + length vs) v ∷ [])) (simp length-append (omega arith))
    ∙ ap (λ (i : ℕ). found_from (b + length (row_line u)) (l + 1) vs ++ (found (b + length (row_line u ++ flat_map row_line vs)) i v ∷ [])) (omega arith))

-- the rows found so far, and the one that was found next
pub rows_more : (fs : List Found) (vs : List Values) (w : Found) → fs ≡ found_from (length names_line) 2 vs → w ≡ found (length (slip_text vs)) (2 + length vs) w.values
    → fs ++ w ∷ [] ≡ found_from (length names_line) 2 (vs ++ w.values ∷ [])
rows_more fs vs w e h =
    ap (λ (gs : List Found). gs ++ w ∷ []) e
    ∙ ap (λ (x : Found). found_from (length names_line) 2 vs ++ x ∷ []) (h ∙ ap (λ (i : ℕ). found i (2 + length vs) w.values) (length-append names_line (flat_map row_line vs)))
    ∙ sym (found_push (length names_line) 2 vs w.values)

-- a turn of reading: from the answer of a row, and where the reader stands then
pub turn : {slip at : List ℕ} {vs : List Values} {b l : ℕ} {w : Found} {p : Place} → at ≡ slip → Read slip vs b l → Answers at b l (a_row w) → p ≡ moved (a_row w) (place b l)
    → (w ≡ found (length (slip_text vs)) (2 + length vs) w.values) × Read slip (vs ++ w.values ∷ []) p.byte p.line × (b < p.byte) × (p.byte ≤ length slip)
turn {slip} {at} {vs} {b} {l} {w} {p} e h a m =
    let s = at_row slip vs b l w h (subst (λ (x : List ℕ). Answers x b l (a_row w)) e a) in
    (s.here, subst (λ (q : Place). Read slip (vs ++ w.values ∷ []) q.byte q.line) (sym m) s.next, omega (arith, ap (λ (q : Place). q.byte) m, s.further), omega (arith, ap (λ (q : Place). q.byte) m, s.within))

-- a row that is written after any rows is read back
pub row_back : (c : ℕ) (ns : List ℕ) (v : Values) → RowOf c ns v → Proper v → ReadBack c ns (row_line v)
row_back c ns v g p vs all h = (v, g, rules.whole h (All-push Proper vs v all p) (sym (text_push vs v)) refl)
