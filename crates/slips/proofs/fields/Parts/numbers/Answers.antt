use Rattle.std.proofs.Common.{arith, rules}
use Rattle.std.proofs.lemmas.List.{length-map}
use Rattle.std.proofs.lemmas.Result.{err_from_is_err_and}
use Rattle.slips.specs.declared.rows.Field.{Field}
use Rattle.slips.specs.Inner.{bytes_of}
use Rattle.slips.proofs.Faulty.{bad_at}
use Rattle.slips.proofs.Numbers.{read_all}
use Rattle.slips.proofs.fields.Parts.numbers.Goals as goal

pub returns-in_err-numbers : goal.returns-in_err-numbers
returns-in_err-numbers c =
    let q = err_from_is_err_and c.from_residual.result c.from_residual.ensures.1 in
    let h = c.in_err-numbers.ensures in
    rw (q.1, q.2) (bad_at c.args.self.now c.loop-k.k _ (search rules) (λ j lt. (_, c.loop-k.invariant.read j lt)) h.1 h.0)

pub returns : goal.returns
returns c =
    let p = c.args.self.now.fields in
    read_all (bytes_of p) c.loop-k.numbers (omega (arith, length-map p (λ (f : Field). f.bytes.now), c.loop-k.invariant.five, c.args.self.now.five))
    (λ j lt. c.loop-k.invariant.read j (omega (arith, c.loop-k-test.false, c.loop-k.invariant.five)))
