use Rattle.std.proofs.lemmas.Result.{err_from_is_err_and}
use Rattle.slips.proofs.Faulty.{strike_at}
use Rattle.slips.proofs.fields.Parts.values.Goals as goal

pub returns-in_err-numbers : goal.returns-in_err-numbers
returns-in_err-numbers c =
    let q = err_from_is_err_and c.from_residual.result c.from_residual.ensures.1 in
    rw (q.1, q.2) (c.in_err-numbers.ensures c.args.letter)

pub returns : goal.returns
returns c =
    let h = c.in_ok-numbers.ensures in
    strike_at c.args.self.now c.in_ok-numbers.numbers c.in-Some.k _ c.in-Strike.is h.1 h.0 c.in-Some.ensures c.in_field.ensures
