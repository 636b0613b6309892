use Rattle.std.proofs.Common.{◌≡◌, ◌∷◌, ◌++◌, length, drop, sym, refl, ap, ◌∙◌, subst, arith}
use Rattle.std.proofs.lemmas.List.{take_rest, length-drop}
use Rattle.std.proofs.lemmas.Result.{err_from_is_err_and}
use Rattle.slips.specs.Rules.{Free, unended, in_line}
use Rattle.slips.specs.Seen.{faulty, row, a_row}
use Rattle.slips.proofs.Answering.{line_of}
use Rattle.slips.proofs.cursor.Reader.next_row.Goals as goal

pub returns-in_default-clause-answer : goal.returns-in_default-clause-answer
returns-in_default-clause-answer c =
    let slip = c.args.self.now.slip.now in
    let b = c.args.self.now.byte in
    let free : Free 10 (drop b slip) = subst (Free 10) (take_rest slip b) c.in_default.ensures in
    faulty _ (unended (λ e. omega (arith, ap length e, length-drop b slip, c.if-self.false)) free c.of_line.ensures) refl

pub returns-in_err-row-clause-answer : goal.returns-in_err-row-clause-answer
returns-in_err-row-clause-answer c =
    let q = err_from_is_err_and c.from_residual.result c.from_residual.ensures.1 in
    let slip = c.args.self.now.slip.now in
    let h = c.in_err-row.ensures in
    let cut : drop c.args.self.now.byte slip ≡ c.in-Some.line.now ++ 10 ∷ c.in-Some.field-0-1.now = sym (take_rest slip c.args.self.now.byte) ∙ c.in-Some.ensures.0 in
    rw (q.1, q.2) (faulty _ (in_line c.in-Some.line.now c.in-Some.field-0-1.now h.0 cut c.in-Some.ensures.1 h.1 h.2) refl)

pub returns-clause-answer : goal.returns-clause-answer
returns-clause-answer c =
    let slip = c.args.self.now.slip.now in
    let b = c.args.self.now.byte in
    let h = c.in_ok-row.ensures in
    let v = c.in_ok-row.row.values in
    let cut : drop b slip ≡ c.in-Some.line.now ++ 10 ∷ c.in-Some.field-0-1.now = sym (take_rest slip b) ∙ c.in-Some.ensures.0 in
    row v c.in-Some.field-0-1.now h.0 (line_of v (drop b slip) c.in-Some.line.now c.in-Some.field-0-1.now cut h.1) (ap a_row h.2)
