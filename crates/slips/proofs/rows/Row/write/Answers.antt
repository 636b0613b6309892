-- (the check does not find these by itself: tried without)
use Rattle.std.proofs.Common.{◌≡◌, ℕ, List, length, subst, rules, MatchResult}
use Rattle.slips.specs.Format.{letter_byte, numbers}
use Rattle.slips.specs.Writing.{Unwritten, Written}
use Rattle.slips.proofs.Again.{written_same}
use Rattle.slips.proofs.rows.Row.write.Goals as goal

pub returns : goal.returns
returns c =
    let row = c.args.self.now in
    let before = c.args.out.now in
    let after = c.write_row.new.out in
    let P : ℕ → List ℕ → Type 0 = λ x ns. MatchResult c.write_row.result (λ n. Written x ns before after n) (λ f. Unwritten x ns (length before) f × (after ≡ before)) in
    let letter : c.from-letter.result ≡ letter_byte row.values.letter = search rules in
    let h : P (letter_byte row.values.letter) (numbers row.values) =
    subst (λ (x : ℕ). P x (numbers row.values)) letter (subst (P c.from-letter.result) c.numbers.ensures c.write_row.ensures.answer) in
    record { answer = h; same = λ slip k. written_same row slip before after c.write_row.result k h }
