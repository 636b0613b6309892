-- From what the code found to the fault that the rules name.
use Rattle.std.proofs.Common.{◌≡◌, ℕ, zero, suc, ◌+◌, ◌<◌, ◌≤◌, List, [], ◌∷◌, map, length, get_or, take, decimal, sym, refl, ap, ◌∙◌, subst, arith}
use Rattle.std.specs.List.{AllByRecursion}
use Rattle.std.proofs.lemmas.List.{length-append, length-map, get_or-map}
use Rattle.std.proofs.ByRecursion.{All-get_or}
use Rattle.std.proofs.lemmas.Fmt.{decimal_injective}
use Rattle.slips.specs.declared.faults.Cause.TheVariants.{BadNumber, NotZero}
use Rattle.slips.specs.declared.faults.RowFault.{RowFault}
use Rattle.slips.specs.declared.fields.Parts.{Parts}
use Rattle.slips.specs.declared.rows.Field.{Field}
use Rattle.slips.specs.declared.rows.Letter.{Letter}
use Rattle.slips.specs.declared.rows.Letter.TheVariants.{Strike}
use Rattle.slips.specs.Causes.{row_fault}
use Rattle.slips.specs.Format.{most, letter_byte, commaed}
use Rattle.slips.specs.Layout.{Text, text, field_seen, laid}
use Rattle.slips.specs.Inner.{bytes_of}
use Rattle.slips.specs.Rules.{IsNumber, SixFields, FirstNonzero, NumberFault, badly_written, not_zero}
use Rattle.slips.proofs.Layouts.{commaed_front}

-- where a field stands, by what stands before it
pub laid_place : (i : ℕ) (fs : List (List ℕ)) (k : ℕ) (d : Text) → k < length fs → (get_or (laid i fs) k d).place ≡ i + length (commaed (take k fs))
laid_place i [] k d h = absurd (omega arith)
laid_place i (f ∷ fs) zero d h = omega arith
laid_place i (f ∷ fs) (suc k) d h = laid_place (i + length f + 1) fs k d (omega arith) ∙ simp length-append (omega arith)

-- numbers in decimal are well written
pub numbers_all : (ns : List ℕ) → AllByRecursion (λ n. n ≤ most) ns → AllByRecursion IsNumber (map decimal ns)
numbers_all [] h = tt
numbers_all (n ∷ ns) h = ((n, (h.0, refl)), numbers_all ns h.1)

module _ (p : Parts) where
  many : length (bytes_of p.fields) ≡ 5
  many = length-map p.fields (λ (f : Field). f.bytes.now) ∙ p.five

  place_at : (k : ℕ) (d : Field) → k < 5 → (get_or p.fields k d).place ≡ 2 + length (commaed (take k (bytes_of p.fields)))
  place_at k d h =
      sym (ap (λ (t : Text). t.place) (get_or-map field_seen p.fields k d (text [] 0) (omega (arith, p.five))))
      ∙ ap (λ (us : List Text). (get_or us k (text [] 0)).place) p.laid ∙ laid_place 2 (bytes_of p.fields) k (text [] 0) (omega (arith, many))

  -- the field k is badly written
  pub bad_at : {f : RowFault} (k : ℕ) (d : Field) → k < 5 → ((j : ℕ) → j < k → IsNumber (get_or (bytes_of p.fields) j [])) → (IsNumber (get_or p.fields k d).bytes.now → ⊥)
      → f ≡ row_fault BadNumber (k + 2) (get_or p.fields k d).place → (l : Letter) → NumberFault l (bytes_of p.fields) f
  bad_at k d h before here e l =
      badly_written k h before
      (λ m. here (subst IsNumber (get_or-map (λ (f : Field). f.bytes.now) p.fields k d [] (omega (arith, p.five))) m))
      (e ∙ ap (λ (n : ℕ). row_fault BadNumber n (get_or p.fields k d).place) (omega arith) ∙ ap (row_fault BadNumber (2 + k)) (place_at k d h))

  -- the field k of a strike is not 0
  pub strike_at : {f : RowFault} {l : Letter} (ns : List ℕ) (k : ℕ) (d : Field) → l ≡ Strike → bytes_of p.fields ≡ map decimal ns → AllByRecursion (λ n. n ≤ most) ns → FirstNonzero ns k
      → f ≡ row_fault NotZero (k + 2) (get_or p.fields k d).place → NumberFault l (bytes_of p.fields) f
  strike_at ns k d s fields small first e =
      let len : length ns ≡ 5 = sym (length-map ns decimal) ∙ sym (ap length fields) ∙ many in
      let read : (j : ℕ) → j < length ns → get_or (bytes_of p.fields) j [] ≡ decimal (get_or ns j 0) = λ j h. ap (λ (gs : List (List ℕ)). get_or gs j []) fields ∙ get_or-map decimal ns j 0 [] h in
      not_zero k first.after_tag (omega (arith, first.within)) s
      (rw fields (numbers_all ns small))
      (λ j low h. read j (omega (arith, first.within)) ∙ ap decimal (first.zero_before j low h))
      (λ z. first.not_zero (decimal_injective (get_or ns k 0) 0 (omega (arith, All-get_or (λ n. n ≤ most) ns k 0 first.within small)) (omega arith) (sym (read k first.within) ∙ z)))
      (e ∙ ap (λ (n : ℕ). row_fault NotZero n (get_or p.fields k d).place) (omega arith) ∙ ap (row_fault NotZero (2 + k)) (place_at k d (omega (arith, first.within))))

-- a fault at a number begins within its line
pub fault_within : {l : Letter} {fs : List (List ℕ)} {f : RowFault} (line : List ℕ) → SixFields line (letter_byte l ∷ []) fs → NumberFault l fs f → f.at ≤ length line
fault_within {l} {fs} {f} line h (badly_written k low before here e) =
    omega (arith, ap (λ (g : RowFault). g.at) e, commaed_front fs k (omega (arith, h.five)), ap length h.text)
fault_within {l} {fs} {f} line h (not_zero k some low s all before here e) =
    omega (arith, ap (λ (g : RowFault). g.at) e, commaed_front fs k (omega (arith, h.five)), ap length h.text)
