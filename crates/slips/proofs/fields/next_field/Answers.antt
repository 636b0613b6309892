use Rattle.std.proofs.Common.{sym, arith}
use Rattle.slips.proofs.Marks.{count_free, count_cut}
use Rattle.slips.proofs.fields.next_field.Goals as goal

pub unreachable-requires : goal.unreachable-requires
unreachable-requires c = omega (arith, count_free 44 c.args.rest.bytes.now c.in_default.ensures, c.requires.comma)

pub returns-clause-counted : goal.returns-clause-counted
returns-clause-counted c =
    sym (count_cut 44 c.args.rest.bytes.now c.in-Some.bytes.now c.in-Some.after.now c.in-Some.ensures.0 c.in-Some.ensures.1)
