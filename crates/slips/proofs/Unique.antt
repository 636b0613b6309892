-- The rules allow one answer, and no other: at each place of a slip, and for a whole slip.
use Rattle.std.proofs.Common.{◌≡◌, ℕ, ◌+◌, ◌≤◌, List, [], ◌∷◌, ◌++◌, map, length, drop, Some, decimal, Option, sym, refl, ap, ◌∙◌, subst, arith}
use Rattle.std.specs.List.{flat_map, AllByRecursion}
use Rattle.std.proofs.lemmas.Fmt.{decimal_injective}
use Rattle.std.proofs.lemmas.List.{append_assoc, append_cancel_left, append-nil}
use Rattle.slips.specs.declared.faults.Cause.{Cause}
use Rattle.slips.specs.declared.faults.Fault.{Fault}
use Rattle.slips.specs.declared.faults.RowFault.{RowFault}
use Rattle.slips.specs.declared.rows.Letter.{Letter}
use Rattle.slips.specs.declared.rows.Values.{Values}
use Rattle.slips.specs.Causes.{slip_fault, placed}
use Rattle.slips.specs.Format.{most, letter_byte, numbers, Proper, row_text, row_line, names, names_line, slip_text}
use Rattle.slips.specs.Rules as rules
use Rattle.slips.specs.Rules.{Free, NamesFault, RowsFault, Holds}
use Rattle.slips.specs.Seen as seen
use Rattle.slips.specs.Seen.{Answer, a_row, a_fault, the_end, found, RowsAnswer, Answers}
use Rattle.slips.proofs.Marks.{free_from_count}
use Rattle.slips.proofs.Puts.{values_of}
use Rattle.slips.proofs.Single.{nil_append, cut_once, no_cut, six_once, letters_once, text_fields, line_fault_once, text_free, text_sound}

-- rows

numbers_once : (ns ms : List ℕ) → AllByRecursion (λ n. n ≤ most) ns → AllByRecursion (λ n. n ≤ most) ms → map decimal ns ≡ map decimal ms → ns ≡ ms
numbers_once [] [] h k e = refl
numbers_once [] (m ∷ ms) h k e = let z : ◌≡◌ {A = ℕ} 0 1 = cc in absurd (omega arith)
numbers_once (n ∷ ns) [] h k e = let z : ◌≡◌ {A = ℕ} 0 1 = cc in absurd (omega arith)
numbers_once (n ∷ ns) (m ∷ ms) h k e =
    let f : decimal n ≡ decimal m = cc in
    let g : map decimal ns ≡ map decimal ms = cc in
    let p = decimal_injective n m (omega arith) (omega arith) f in
    let q = numbers_once ns ms h.1 k.1 g in
    cc

pub text_once : (v w : Values) → Proper v → Proper w → row_text v ≡ row_text w → v ≡ w
unfolding values_of
text_once v w h k e =
    let t = six_once (text_fields v h) (subst (λ (x : List ℕ). rules.SixFields x (letter_byte w.letter ∷ []) (map decimal (numbers w))) (sym e) (text_fields w k)) in
    let same : values_of v.letter (numbers v) ≡ values_of w.letter (numbers w) =
    ap (λ (l : Letter). values_of l (numbers v)) (letters_once v.letter w.letter t.0) ∙ ap (values_of w.letter) (numbers_once (numbers v) (numbers w) h.0 k.0 t.1) in
    same

line_cut : (v : Values) (a : List ℕ) → row_line v ++ a ≡ row_text v ++ 10 ∷ a
line_cut v a = append_assoc (row_text v) (10 ∷ []) a

-- a row in front is the only one there
pub line_once : (v w : Values) (a b : List ℕ) → Proper v → Proper w → row_line v ++ a ≡ row_line w ++ b → (v ≡ w) × (a ≡ b)
line_once v w a b h k e =
    let t = cut_once 10 (row_text v) (row_text w) a b (text_free v h) (text_free w k) (sym (line_cut v a) ∙ e ∙ line_cut w b) in
    (text_once v w h k t.0, t.1)

-- what is left of a slip

pub no_row_left : (v : Values) (a : List ℕ) → [] ≡ row_line v ++ a → ⊥
no_row_left v a e = nil_append 10 (row_text v) a (e ∙ line_cut v a)

pub rows_fault_some : (b l : ℕ) (f : Fault) → RowsFault [] b l f → ⊥
rows_fault_some b l f (rules.unended n h d) = n refl
rows_fault_some b l f (rules.in_line line after g e h k d) = nil_append 10 line after e

pub rows_fault_no_row : (rest : List ℕ) (b l : ℕ) (f : Fault) → RowsFault rest b l f → (v : Values) (a : List ℕ) → Proper v → rest ≡ row_line v ++ a → ⊥
rows_fault_no_row rest b l f (rules.unended n h d) v a p e = no_cut 10 rest (row_text v) a h (e ∙ line_cut v a)
rows_fault_no_row rest b l f (rules.in_line line after g c h k d) v a p e =
    let t = cut_once 10 line (row_text v) after a h (text_free v p) (sym c ∙ e ∙ line_cut v a) in
    text_sound v p g (subst (λ (x : List ℕ). rules.LineFault x g) t.0 k)

pub rows_fault_once : (rest : List ℕ) (b l : ℕ) (f g : Fault) → RowsFault rest b l f → RowsFault rest b l g → f ≡ g
rows_fault_once rest b l f g (rules.unended n h d) (rules.unended n' h' d') = d ∙ sym d'
rows_fault_once rest b l f g (rules.unended n h d) (rules.in_line line after r e h' k d') = absurd (no_cut 10 rest line after h e)
rows_fault_once rest b l f g (rules.in_line line after r e h k d) (rules.unended n h' d') = absurd (no_cut 10 rest line after h' e)
rows_fault_once rest b l f g (rules.in_line line after r e h k d) (rules.in_line line' after' r' e' h' k' d') =
    let t = cut_once 10 line line' after after' h h' (sym e ∙ e') in
    let same : r ≡ r' = line_fault_once line r r' k (subst (λ (x : List ℕ). rules.LineFault x r') (sym t.0) k') in
    d ∙ ap (λ (x : RowFault). placed x l b) same ∙ sym d'

rows_once : (rest : List ℕ) (b l : ℕ) (x y : Answer) → RowsAnswer rest b l x → RowsAnswer rest b l y → x ≡ y
rows_once rest b l x y (seen.ends e d) (seen.ends e' d') = d ∙ sym d'
rows_once rest b l x y (seen.ends e d) (seen.faulty f k d') = absurd (rows_fault_some b l f (subst (λ (r : List ℕ). RowsFault r b l f) e k))
rows_once rest b l x y (seen.ends e d) (seen.row v a p c d') = absurd (no_row_left v a (sym e ∙ c))
rows_once rest b l x y (seen.faulty f k d) (seen.ends e d') = absurd (rows_fault_some b l f (subst (λ (r : List ℕ). RowsFault r b l f) e k))
rows_once rest b l x y (seen.faulty f k d) (seen.faulty g k' d') = d ∙ ap a_fault (rows_fault_once rest b l f g k k') ∙ sym d'
rows_once rest b l x y (seen.faulty f k d) (seen.row v a p c d') = absurd (rows_fault_no_row rest b l f k v a p c)
rows_once rest b l x y (seen.row v a p c d) (seen.ends e d') = absurd (no_row_left v a (sym e ∙ c))
rows_once rest b l x y (seen.row v a p c d) (seen.faulty f k d') = absurd (rows_fault_no_row rest b l f k v a p c)
rows_once rest b l x y (seen.row v a p c d) (seen.row w a' p' c' d') =
    d ∙ ap (λ (u : Values). a_row (found b l u)) (line_once v w a a' p p' (sym c ∙ c')).0 ∙ sym d'

-- the names line

names_free : Free 10 names
unfolding names
names_free = free_from_count 10 names refl

names_cut : (slip rest : List ℕ) → slip ≡ names_line ++ rest → slip ≡ names ++ 10 ∷ rest
names_cut slip rest e = e ∙ append_assoc names (10 ∷ []) rest

names_sound : (slip rest : List ℕ) (c : Cause) → NamesFault slip c → slip ≡ names_line ++ rest → ⊥
names_sound slip rest c (rules.no_byte e d) h = nil_append 10 names rest (sym e ∙ names_cut slip rest h)
names_sound slip rest c (rules.unended n f d) h = no_cut 10 slip names rest f (names_cut slip rest h)
names_sound slip rest c (rules.not_names line after e f n d) h = n (cut_once 10 line names after rest f names_free (sym e ∙ names_cut slip rest h)).0

names_fault_once : (slip : List ℕ) (c d : Cause) → NamesFault slip c → NamesFault slip d → c ≡ d
names_fault_once slip c d (rules.no_byte e h) (rules.no_byte e' h') = h ∙ sym h'
names_fault_once slip c d (rules.no_byte e h) (rules.unended n f h') = absurd (n e)
names_fault_once slip c d (rules.no_byte e h) (rules.not_names line after e' f n h') = h ∙ sym h'
names_fault_once slip c d (rules.unended n f h) (rules.no_byte e h') = absurd (n e)
names_fault_once slip c d (rules.unended n f h) (rules.unended n' f' h') = h ∙ sym h'
names_fault_once slip c d (rules.unended n f h) (rules.not_names line after e f' n' h') = absurd (no_cut 10 slip line after f e)
names_fault_once slip c d (rules.not_names line after e f n h) (rules.no_byte e' h') = h ∙ sym h'
names_fault_once slip c d (rules.not_names line after e f n h) (rules.unended n' f' h') = absurd (no_cut 10 slip line after f' e)
names_fault_once slip c d (rules.not_names line after e f n h) (rules.not_names line' after' e' f' n' h') = h ∙ sym h'

-- a reader has one answer
pub answers_once : (slip : List ℕ) (b l : ℕ) (x y : Answer) → Answers slip b l x → Answers slip b l y → x ≡ y
answers_once slip b l x y (seen.too_long h d) (seen.too_long h' d') = d ∙ sym d'
answers_once slip b l x y (seen.too_long h d) (seen.no_names c h' o n d') = absurd (omega arith)
answers_once slip b l x y (seen.too_long h d) (seen.first r h' o e k) = absurd (omega arith)
answers_once slip b l x y (seen.too_long h d) (seen.later h' o k) = absurd (omega arith)
answers_once slip b l x y (seen.no_names c h o n d) (seen.too_long h' d') = absurd (omega arith)
answers_once slip b l x y (seen.no_names c h o n d) (seen.no_names c' h' o' n' d') =
    d ∙ ap (λ (z : Cause). a_fault (slip_fault z 1 0 0)) (names_fault_once slip c c' n n') ∙ sym d'
answers_once slip b l x y (seen.no_names c h o n d) (seen.first r h' o' e k) = absurd (names_sound slip r c n e)
answers_once slip b l x y (seen.no_names c h o n d) (seen.later h' o' k) = absurd (o' o)
answers_once slip b l x y (seen.first r h o e k) (seen.too_long h' d') = absurd (omega arith)
answers_once slip b l x y (seen.first r h o e k) (seen.no_names c h' o' n d) = absurd (names_sound slip r c n e)
answers_once slip b l x y (seen.first r h o e k) (seen.first s h' o' e' k') =
    let same : s ≡ r = append_cancel_left names_line s r (sym e' ∙ e) in
    rows_once r (length names_line) 2 x y k (subst (λ (t : List ℕ). RowsAnswer t (length names_line) 2 y) same k')
answers_once slip b l x y (seen.first r h o e k) (seen.later h' o' k') = absurd (o' o)
answers_once slip b l x y (seen.later h o k) (seen.too_long h' d') = absurd (omega arith)
answers_once slip b l x y (seen.later h o k) (seen.no_names c h' o' n d) = absurd (o o')
answers_once slip b l x y (seen.later h o k) (seen.first r h' o' e k') = absurd (o o')
answers_once slip b l x y (seen.later h o k) (seen.later h' o' k') = rows_once (drop b slip) b l x y k k'

-- a whole slip

-- nothing that begins with a row
abbrev Stuck : List ℕ → Type 0
Stuck rest = (v : Values) (a : List ℕ) → Proper v → rest ≡ row_line v ++ a → ⊥

rows_apart : (vs ws : List Values) (r s : List ℕ) → AllByRecursion Proper vs → AllByRecursion Proper ws → Stuck r → Stuck s
    → flat_map row_line vs ++ r ≡ flat_map row_line ws ++ s → (vs ≡ ws) × (r ≡ s)
rows_apart [] [] r s h k p q e = (refl, e)
rows_apart [] (w ∷ ws) r s h k p q e = absurd (p w (flat_map row_line ws ++ s) k.0 (e ∙ append_assoc (row_line w) (flat_map row_line ws) s))
rows_apart (v ∷ vs) [] r s h k p q e = absurd (q v (flat_map row_line vs ++ r) h.0 (sym e ∙ append_assoc (row_line v) (flat_map row_line vs) r))
rows_apart (v ∷ vs) (w ∷ ws) r s h k p q e =
    let t = line_once v w (flat_map row_line vs ++ r) (flat_map row_line ws ++ s) h.0 k.0
    (sym (append_assoc (row_line v) (flat_map row_line vs) r) ∙ e ∙ append_assoc (row_line w) (flat_map row_line ws) s) in
    let u = rows_apart vs ws r s h.1 k.1 p q t.1 in
    (ap (λ (x : Values). x ∷ vs) t.0 ∙ ap (λ (xs : List Values). w ∷ xs) u.0, u.1)

slips_apart : (vs ws : List Values) (r s : List ℕ) → AllByRecursion Proper vs → AllByRecursion Proper ws → Stuck r → Stuck s
    → slip_text vs ++ r ≡ slip_text ws ++ s → (vs ≡ ws) × (r ≡ s)
slips_apart vs ws r s h k p q e =
    rows_apart vs ws r s h k p q
    (append_cancel_left names_line (flat_map row_line vs ++ r) (flat_map row_line ws ++ s)
    (sym (append_assoc names_line (flat_map row_line vs) r) ∙ e ∙ append_assoc names_line (flat_map row_line ws) s))

whole_text : (slip : List ℕ) (vs : List Values) → slip ≡ slip_text vs → slip ≡ slip_text vs ++ []
whole_text slip vs e = e ∙ sym (append-nil (slip_text vs))

text_names : (slip : List ℕ) (vs : List Values) (r : List ℕ) → slip ≡ slip_text vs ++ r → slip ≡ names_line ++ (flat_map row_line vs ++ r)
text_names slip vs r e = e ∙ append_assoc names_line (flat_map row_line vs) r

stuck_nil : Stuck []
stuck_nil v a p e = no_row_left v a e

-- what a slip holds is one list of rows, and one end or one fault
pub holds_once : (slip : List ℕ) (vs ws : List Values) (o p : Option Fault) → Holds slip vs o → Holds slip ws p → (vs ≡ ws) × (o ≡ p)
holds_once slip vs ws o p (rules.whole h a e d) (rules.whole h' a' e' d') =
    ((slips_apart vs ws [] [] a a' stuck_nil stuck_nil (sym (whole_text slip vs e) ∙ whole_text slip ws e')).0, d ∙ sym d')
holds_once slip vs ws o p (rules.whole h a e d) (rules.too_long h' n d') = absurd (omega arith)
holds_once slip vs ws o p (rules.whole h a e d) (rules.no_names c h' n m d') = absurd (names_sound slip _ c n (text_names slip vs [] (whole_text slip vs e)))
holds_once slip vs ws o p (rules.whole h a e d) (rules.at_row r f h' a' e' k d') =
    let t = slips_apart vs ws [] r a a' stuck_nil (rows_fault_no_row r _ _ f k) (sym (whole_text slip vs e) ∙ e') in
    absurd (rows_fault_some _ _ f (subst (λ (x : List ℕ). RowsFault x (length (slip_text ws)) (2 + length ws) f) (sym t.1) k))
holds_once slip vs ws o p (rules.too_long h n d) (rules.whole h' a e d') = absurd (omega arith)
holds_once slip vs ws o p (rules.too_long h n d) (rules.too_long h' n' d') = (n ∙ sym n', d ∙ sym d')
holds_once slip vs ws o p (rules.too_long h n d) (rules.no_names c h' n' m d') = absurd (omega arith)
holds_once slip vs ws o p (rules.too_long h n d) (rules.at_row r f h' a e k d') = absurd (omega arith)
holds_once slip vs ws o p (rules.no_names c h n m d) (rules.whole h' a e d') = absurd (names_sound slip _ c n (text_names slip ws [] (whole_text slip ws e)))
holds_once slip vs ws o p (rules.no_names c h n m d) (rules.too_long h' n' d') = absurd (omega arith)
holds_once slip vs ws o p (rules.no_names c h n m d) (rules.no_names c' h' n' m' d') =
    (m ∙ sym m', d ∙ ap (λ (z : Cause). Some (slip_fault z 1 0 0)) (names_fault_once slip c c' n n') ∙ sym d')
holds_once slip vs ws o p (rules.no_names c h n m d) (rules.at_row r f h' a e k d') = absurd (names_sound slip _ c n (text_names slip ws r e))
holds_once slip vs ws o p (rules.at_row r f h a e k d) (rules.whole h' a' e' d') =
    let t = slips_apart vs ws r [] a a' (rows_fault_no_row r _ _ f k) stuck_nil (sym e ∙ whole_text slip ws e') in
    absurd (rows_fault_some _ _ f (subst (λ (x : List ℕ). RowsFault x (length (slip_text vs)) (2 + length vs) f) t.1 k))
holds_once slip vs ws o p (rules.at_row r f h a e k d) (rules.too_long h' n d') = absurd (omega arith)
holds_once slip vs ws o p (rules.at_row r f h a e k d) (rules.no_names c h' n m d') = absurd (names_sound slip _ c n (text_names slip vs r e))
holds_once slip vs ws o p (rules.at_row r f h a e k d) (rules.at_row s g h' a' e' k' d') =
    let t = slips_apart vs ws r s a a' (rows_fault_no_row r _ _ f k) (rows_fault_no_row s _ _ g k') (sym e ∙ e') in
    let k'' : RowsFault r (length (slip_text vs)) (2 + length vs) g =
    subst (λ (x : List ℕ). RowsFault x (length (slip_text vs)) (2 + length vs) g) (sym t.1) (subst (λ (us : List Values). RowsFault s (length (slip_text us)) (2 + length us) g) (sym t.0) k') in
    (t.0, d ∙ ap (λ (z : Fault). Some z) (rows_fault_once r (length (slip_text vs)) (2 + length vs) f g k k'') ∙ sym d')
