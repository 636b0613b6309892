use Rattle.std.proofs.Common.{◌≡◌, drop, length, sym, refl, ap, ◌∙◌, subst, arith, rules}
use Rattle.std.proofs.lemmas.List.{take_at}
use Rattle.std.proofs.lemmas.Result.{err_from_is_err_and}
use Rattle.slips.specs.Format.{row_line}
use Rattle.slips.specs.Writing.{bad_row, short_buffer, ReadBack}
use Rattle.slips.proofs.Progress.{row_back}
use Rattle.slips.proofs.write.write_row.Goals as goal

pub returns-in_err-row-clause-answer : goal.returns-in_err-row-clause-answer
returns-in_err-row-clause-answer c =
    let q = err_from_is_err_and c.from_residual.result c.from_residual.ensures.1 in
    rw (q.1, q.2) (bad_row c.in_err-row.ensures, refl)

pub returns-then-out-len-clause-answer : goal.returns-then-out-len-clause-answer
returns-then-out-len-clause-answer c =
    let h = c.in_ok-row.ensures in
    (short_buffer c.in_ok-row.row h.0 h.1 (omega (arith, ap length c.line_of-line.ensures, c.len-len.ensures.value)) refl, refl)

pub returns-clause-back : goal.returns-clause-back
returns-clause-back c =
    let row = c.in_ok-row.row in
    let h = c.in_ok-row.ensures in
    let copied : c.copy_from_slice.new.self ≡ row_line row = search rules in
    let long : length c.copy_from_slice.new.self ≡ c.len-len.result = search rules in
    let written = take_at c.copy_from_slice.new.self (drop c.len-len.result c.args.out.now) c.len-len.result long ∙ copied in
    subst (ReadBack c.args.letter c.args.numbers) (sym written) (row_back c.args.letter c.args.numbers row h.0 h.1)
