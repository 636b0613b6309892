use Rattle.std.proofs.Common.{◌≡◌, ◌+◌, ℕ, List, [], ◌∷◌, length, ap, ◌∙◌, arith, rules}
use Rattle.std.proofs.lemmas.List.{length-map}
use Rattle.std.proofs.lemmas.Result.{err_from_is_err_and}
use Rattle.slips.specs.declared.faults.Cause.{Cause}
use Rattle.slips.specs.declared.rows.Field.{Field}
use Rattle.slips.specs.Causes.{row_fault}
use Rattle.slips.specs.Format.{letter_byte}
use Rattle.slips.specs.Rules.{SixFields, not_six_fields, bad_letter, at_number}
use Rattle.slips.specs.Inner.{count, bytes_of}
use Rattle.slips.proofs.Faulty.{fault_within}
use Rattle.slips.proofs.Finding.{mapped_err}
use Rattle.slips.proofs.Layouts.{laid_within}
use Rattle.slips.proofs.Single.{letter_apart, six_count, six_from_count, six_letter}
use Rattle.slips.proofs.fields.read_row.Goals as goal

pub returns-then-count_of-ne5-clause-value : goal.returns-then-count_of-ne5-clause-value
returns-then-count_of-ne5-clause-value c =
    let ne : count 44 c.args.line.now ≡ 5 → ⊥ = search rules in
    not_six_fields (λ e fs h. ne (six_count h)) c.in_field.ensures

pub returns-in_err-letter-clause-value : goal.returns-in_err-letter-clause-value
returns-in_err-letter-clause-value c =
    let q = err_from_is_err_and c.from_residual.result c.from_residual.ensures.1 in
    let f = c.in_err-letter.field-0.0 in
    let five : count 44 c.args.line.now ≡ 5 = search rules in
    let s = six_from_count c.args.line.now five in
    let told = mapped_err c.letter_of.result c.map_err.result f c.in_err-letter.was _ _ _ c.map_err.ensures.cases c.letter_of.ensures in
    let placed : f ≡ row_fault told.0 1 0 = search rules in
    rw (q.1, q.2) (bad_letter s.0 s.1.0 s.1.1 (λ l e. let t = six_letter s.1.0 l s.1.1 e in told.1.1 l t.0 t.1) (placed ∙ ap (λ (x : Cause). row_fault x 1 0) told.1.0))

pub returns-in_err-values : goal.returns-in_err-values
returns-in_err-values c =
    let q = err_from_is_err_and c.from_residual-in_err-values.result c.from_residual-in_err-values.ensures.1 in
    let l = c.in_ok-letter.letter in
    let head : c.args.line.now ≡ letter_byte l ∷ (44 ∷ c.in_ok-letter.rest.now) = search rules in
    let h : SixFields c.args.line.now (letter_byte l ∷ []) (bytes_of c.split-parts.result.fields) =
    record {
      text = head ∙ ap (λ (t : List ℕ). letter_byte l ∷ t) c.split-parts.ensures.text;
      five = length-map c.split-parts.result.fields (λ (f : Field). f.bytes.now) ∙ c.split-parts.result.five;
      first_free = (letter_apart l 44 (omega arith), tt);
      free = c.split-parts.ensures.free;
    } in
    rw (q.1, q.2) (record {
      value = at_number l (bytes_of c.split-parts.result.fields) h c.in_err-values.ensures;
      within = fault_within c.args.line.now h c.in_err-values.ensures;
    })

pub returns-clause-within : goal.returns-clause-within
returns-clause-within c =
    let parts = c.split-parts.result in
    let head : length c.args.line.now ≡ 2 + length c.in_ok-letter.rest.now = search rules in
    rw parts.laid (laid_within 2 (length c.args.line.now) (bytes_of parts.fields) (omega (arith, head, ap length c.split-parts.ensures.text)))
