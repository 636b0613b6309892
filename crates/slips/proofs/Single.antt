-- The rules allow one answer, and no other: first for a line, then for what is left of a slip.
use Rattle.std.proofs.Common.{◌≡◌, ℕ, zero, suc, ◌<◌, ◌≤◌, List, [], ◌∷◌, ◌++◌, map, length, get_or, drop, decimal, sym, refl, ap, ◌∙◌, subst, inl, inr, arith}
use Rattle.std.specs.List.{AllByRecursion}
use Rattle.std.proofs.lemmas.Fmt.{digits_decimal}
use Rattle.std.proofs.ByRecursion.{All-get_or, All-from_get_or, All-append}
use Rattle.std.proofs.lemmas.List.{get_or-map}
use Rattle.std.proofs.lemmas.Str.Parse.{not_in_digits}
use Rattle.std.proofs.lemmas.Bool.{cases_eq, cases_order}
use Rattle.slips.specs.declared.faults.Cause.TheVariants.{BadNumber, NotZero}
use Rattle.slips.specs.declared.faults.RowFault.{RowFault}
use Rattle.slips.specs.declared.rows.Letter.{Letter}
use Rattle.slips.specs.declared.rows.Letter.TheVariants.{Growth, Strike}
use Rattle.slips.specs.declared.rows.Values.{Values}
use Rattle.slips.specs.Format.{most, letter_byte, numbers, Proper, commaed, row_text}
use Rattle.slips.specs.Inner.{count}
use Rattle.slips.specs.Rules.{Free, IsNumber, SixFields, field_fault, NumberFault, badly_written, not_zero, LineFault, not_six_fields, bad_letter, at_number}
use Rattle.slips.proofs.Decimal.{own}
use Rattle.slips.proofs.Marks.{count_append, count_free, count_here, count_other}
use Rattle.slips.proofs.Faulty.{numbers_all}

-- lists

heads : {A : Type 0} {x y : A} {xs ys : List A} → x ∷ xs ≡ y ∷ ys → x ≡ y
heads e = cc

tails : {A : Type 0} {x y : A} {xs ys : List A} → x ∷ xs ≡ y ∷ ys → xs ≡ ys
tails e = cc

cons : {A : Type 0} {x y : A} {xs ys : List A} → x ≡ y → xs ≡ ys → x ∷ xs ≡ y ∷ ys
cons e f = cc

pub nil_cons : {A : Type 0} {x : A} {xs : List A} → [] ≡ x ∷ xs → ⊥
nil_cons e = let z : ◌≡◌ {A = ℕ} 0 1 = cc in omega arith

pub nil_append : (m : ℕ) (p q : List ℕ) → [] ≡ p ++ m ∷ q → ⊥
nil_append m [] q e = nil_cons e
nil_append m (x ∷ p) q e = nil_cons e

-- bytes are cut at their first mark in one way, and not at all where there is none
pub cut_once : (m : ℕ) (p r q s : List ℕ) → Free m p → Free m r → p ++ m ∷ q ≡ r ++ m ∷ s → (p ≡ r) × (q ≡ s)
cut_once m [] [] q s h k e = (refl, tails e)
cut_once m [] (y ∷ r) q s h k e = absurd (k.0 (sym (heads e)))
cut_once m (x ∷ p) [] q s h k e = absurd (h.0 (heads e))
cut_once m (x ∷ p) (y ∷ r) q s h k e =
    let t = cut_once m p r q s h.1 k.1 (tails e) in (cons (heads e) t.0, t.1)

pub no_cut : (m : ℕ) (xs p q : List ℕ) → Free m xs → xs ≡ p ++ m ∷ q → ⊥
no_cut m [] p q h e = nil_append m p q e
no_cut m (x ∷ xs) [] q h e = h.0 (heads e)
no_cut m (x ∷ xs) (y ∷ p) q h e = no_cut m xs p q h.1 (tails e)

-- fields

field_once : (f g : List ℕ) (fs gs : List (List ℕ)) → Free 44 f → Free 44 g → f ++ commaed fs ≡ g ++ commaed gs → (f ≡ g) × (commaed fs ≡ commaed gs)
field_once [] [] fs gs h k e = (refl, e)
field_once [] (y ∷ g) [] gs h k e = absurd (nil_cons e)
field_once [] (y ∷ g) (f ∷ fs) gs h k e = absurd (k.0 (sym (heads e)))
field_once (x ∷ f) [] fs [] h k e = absurd (nil_cons (sym e))
field_once (x ∷ f) [] fs (g ∷ gs) h k e = absurd (h.0 (heads e))
field_once (x ∷ f) (y ∷ g) fs gs h k e =
    let t = field_once f g fs gs h.1 k.1 (tails e) in (cons (heads e) t.0, t.1)

commaed_once : (fs gs : List (List ℕ)) → AllByRecursion (Free 44) fs → AllByRecursion (Free 44) gs → commaed fs ≡ commaed gs → fs ≡ gs
commaed_once [] [] h k e = refl
commaed_once [] (g ∷ gs) h k e = absurd (nil_cons e)
commaed_once (f ∷ fs) [] h k e = absurd (nil_cons (sym e))
commaed_once (f ∷ fs) (g ∷ gs) h k e =
    let t = field_once f g fs gs h.0 k.0 (tails e) in cons t.0 (commaed_once fs gs h.1 k.1 t.1)

pub letter_once : (l m : Letter) → letter_byte l ≡ letter_byte m → l ≡ m
letter_once Growth Growth e = refl
letter_once Growth Strike e = absurd (omega (arith, e))
letter_once Strike Growth e = absurd (omega (arith, e))
letter_once Strike Strike e = refl

pub letter_apart : (l : Letter) (m : ℕ) → m < 50 → letter_byte l ≡ m → ⊥
letter_apart Growth m h e = omega (arith, e)
letter_apart Strike m h e = omega (arith, e)

-- a line is parted into six fields in one way
pub six_once : {line e g : List ℕ} {fs gs : List (List ℕ)} → SixFields line e fs → SixFields line g gs → (e ≡ g) × (fs ≡ gs)
six_once {line} {e} {g} {fs} {gs} h k =
    let t = field_once e g fs gs h.first_free k.first_free (sym h.text ∙ k.text) in
    (t.0, commaed_once fs gs h.free k.free t.1)

-- and it has five commas then
commaed_count : (fs : List (List ℕ)) → AllByRecursion (Free 44) fs → count 44 (commaed fs) ≡ length fs
commaed_count [] h = refl
commaed_count (f ∷ fs) h =
    omega (arith, count_here 44 44 (f ++ commaed fs) refl, count_append 44 f (commaed fs), count_free 44 f h.0, commaed_count fs h.1)

pub six_count : {line e : List ℕ} {fs : List (List ℕ)} → SixFields line e fs → count 44 line ≡ 5
six_count {line} {e} {fs} h =
    ap (count 44) h.text ∙ count_append 44 e (commaed fs) ∙ omega (arith, count_free 44 e h.first_free, commaed_count fs h.free, h.five)

-- every line is parted into fields, one more than it has commas
record Parting (line : List ℕ) : Type 0 where
  first : List ℕ
  others : List (List ℕ)
  text : line ≡ first ++ commaed others
  first_free : Free 44 first
  free : AllByRecursion (Free 44) others
  many : length others ≡ count 44 line

parting : (line : List ℕ) → Parting line
parting [] = record { first = []; others = []; text = refl; first_free = tt; free = tt; many = refl }
parting (c ∷ cs) =
    let p = parting cs in
    elim (cases_eq c 44) [
      | inl e ↦ record {
        first = [];
        others = p.first ∷ p.others;
        text = ap (λ (x : ℕ). x ∷ cs) e ∙ ap (λ (t : List ℕ). 44 ∷ t) p.text;
        first_free = tt;
        free = (p.first_free, p.free);
        many = omega (arith, count_here 44 c cs e, p.many);
      }
      | inr n ↦ record {
        first = c ∷ p.first;
        others = p.others;
        text = ap (λ (t : List ℕ). c ∷ t) p.text;
        first_free = (n, p.first_free);
        free = p.free;
        many = p.many ∙ sym (count_other 44 c cs n);
      }
    ]

pub six_from_count : (line : List ℕ) → count 44 line ≡ 5 → (e : List ℕ) × ((fs : List (List ℕ)) × SixFields line e fs)
six_from_count line h =
    let p = parting line in
    (p.first, (p.others, record { text = p.text; five = p.many ∙ h; first_free = p.first_free; free = p.free }))

-- the first of six fields is a letter only where the line begins with it and a comma
pub six_letter : {line e : List ℕ} (fs : List (List ℕ)) (l : Letter) → SixFields line e fs → e ≡ letter_byte l ∷ [] → (rest : List ℕ) × (line ≡ letter_byte l ∷ (44 ∷ rest))
six_letter [] l h s = absurd (omega (arith, h.five))
six_letter (f ∷ fs) l h s = (f ++ commaed fs, h.text ∙ ap (λ (x : List ℕ). x ++ commaed (f ∷ fs)) s)

-- a line has one first fault

module _ (l : Letter) (fs : List (List ℕ)) (five : length fs ≡ 5) where
  number_fault_once : (f g : RowFault) → NumberFault l fs f → NumberFault l fs g → f ≡ g
  number_fault_once f g (badly_written j a b n d) (badly_written k a' b' n' d') =
      elim (cases_order j k) [
        | inl e ↦ d ∙ ap (field_fault BadNumber fs) e ∙ sym d'
        | inr s ↦ elim s [ inl low ↦ absurd (n (b' j low)) | inr low ↦ absurd (n' (b k low)) ]
      ]
  number_fault_once f g (badly_written j a b n d) (not_zero k s a' st all z n' d') = absurd (n (All-get_or IsNumber fs j [] (omega arith) all))
  number_fault_once f g (not_zero k s a' st all z n' d') (badly_written j a b n d) = absurd (n (All-get_or IsNumber fs j [] (omega arith) all))
  number_fault_once f g (not_zero j s a st all z n d) (not_zero k s' a' st' all' z' n' d') =
      elim (cases_order j k) [
        | inl e ↦ d ∙ ap (field_fault NotZero fs) e ∙ sym d'
        | inr t ↦ elim t [ inl low ↦ absurd (n (z' j s low)) | inr low ↦ absurd (n' (z k s' low)) ]
      ]

pub letters_once : (l m : Letter) → letter_byte l ∷ [] ≡ letter_byte m ∷ [] → l ≡ m
letters_once l m e = letter_once l m (heads e)

pub line_fault_once : (line : List ℕ) (f g : RowFault) → LineFault line f → LineFault line g → f ≡ g
line_fault_once line f g (not_six_fields n d) (not_six_fields n' d') = d ∙ sym d'
line_fault_once line f g (not_six_fields n d) (bad_letter e fs h n' d') = absurd (n e fs h)
line_fault_once line f g (not_six_fields n d) (at_number l fs h k) = absurd (n _ fs h)
line_fault_once line f g (bad_letter e fs h n d) (not_six_fields n' d') = absurd (n' e fs h)
line_fault_once line f g (bad_letter e fs h n d) (bad_letter e' fs' h' n' d') = d ∙ sym d'
line_fault_once line f g (bad_letter e fs h n d) (at_number l gs k q) = absurd (n l (six_once h k).0)
line_fault_once line f g (at_number l fs h k) (not_six_fields n d) = absurd (n _ fs h)
line_fault_once line f g (at_number l fs h k) (bad_letter e gs q n d) = absurd (n l (six_once q h).0)
line_fault_once line f g (at_number l fs h k) (at_number m gs h' k') =
    let t = six_once h h' in
    let k'' : NumberFault l fs g = subst (λ (m : Letter). NumberFault m fs g) (sym (letters_once l m t.0)) (subst (λ (gs : List (List ℕ)). NumberFault m gs g) (sym t.1) k') in
    number_fault_once l fs h.five f g k k''

-- the text of a row

pub decimal_free : (m n : ℕ) → m < 48 → n ≤ most → Free m (decimal n)
decimal_free m n low h =
    let P : ℕ → Type 0 = λ c. c ≡ m → ⊥ in
    All-from_get_or P (decimal n) 0 (λ i in' e. not_in_digits own (decimal n) m (digits_decimal own n (omega arith)) (λ d. omega (arith, d)) i in' e)

decimals_free : (m : ℕ) (ns : List ℕ) → m < 48 → AllByRecursion (λ n. n ≤ most) ns → AllByRecursion (Free m) (map decimal ns)
decimals_free m [] low h = tt
decimals_free m (n ∷ ns) low h = (decimal_free m n low h.0, decimals_free m ns low h.1)

commaed_free : (m : ℕ) (fs : List (List ℕ)) → (44 ≡ m → ⊥) → AllByRecursion (Free m) fs → Free m (commaed fs)
commaed_free m [] n h = tt
commaed_free m (f ∷ fs) n h = (n, All-append (λ c. c ≡ m → ⊥) f (commaed fs) h.0 (commaed_free m fs n h.1))

pub text_free : (v : Values) → Proper v → Free 10 (row_text v)
text_free v h = (letter_apart v.letter 10 (omega arith), commaed_free 10 (map decimal (numbers v)) (λ e. omega (arith, e)) (decimals_free 10 (numbers v) (omega arith) h.0))

pub text_fields : (v : Values) → Proper v → SixFields (row_text v) (letter_byte v.letter ∷ []) (map decimal (numbers v))
text_fields v h = record { text = refl; five = refl; first_free = (letter_apart v.letter 44 (omega arith), tt); free = decimals_free 44 (numbers v) (omega arith) h.0 }

-- a number after the tag, where all of them are 0
pub zero_at : (ns : List ℕ) (k : ℕ) → 1 ≤ k → k < length ns → AllByRecursion (λ n. n ≡ 0) (drop 1 ns) → get_or ns k 0 ≡ 0
zero_at [] k some low all = refl
zero_at (n ∷ ns) zero some low all = absurd (omega arith)
zero_at (n ∷ ns) (suc k) some low all = All-get_or (λ n. n ≡ 0) ns k 0 (omega arith) all

-- a proper row has no fault
number_sound : (v : Values) → Proper v → (f : RowFault) → NumberFault v.letter (map decimal (numbers v)) f → ⊥
number_sound v h f (badly_written k low b n d) = n (All-get_or IsNumber (map decimal (numbers v)) k [] low (numbers_all (numbers v) h.0))
number_sound v h f (not_zero k some low s all z n d) =
    let ns = numbers v in
    n (get_or-map decimal ns k 0 [] low ∙ ap decimal (zero_at ns k some low (h.1 s)))

pub text_sound : (v : Values) → Proper v → (f : RowFault) → LineFault (row_text v) f → ⊥
text_sound v h f (not_six_fields n d) = n _ _ (text_fields v h)
text_sound v h f (bad_letter e fs q n d) = n v.letter (six_once q (text_fields v h)).0
text_sound v h f (at_number l fs k nf) =
    let t = six_once k (text_fields v h) in
    number_sound v h f (subst (λ (m : Letter). NumberFault m (map decimal (numbers v)) f) (letters_once l v.letter t.0) (subst (λ (gs : List (List ℕ)). NumberFault l gs f) t.1 nf))
