use Rattle.std.proofs.Common.{arith}
use Rattle.slips.proofs.Marks.{free_from_count}
use Rattle.slips.proofs.fields.split.Goals as goal

pub returns-clause-free : goal.returns-clause-free
returns-clause-free c =
    let f1 = c.next_field.ensures in
    let f2 = c.next_field-2.ensures in
    let f3 = c.next_field-3.ensures in
    let f4 = c.next_field-4.ensures in
    (f1.free, (f2.free, (f3.free, (f4.free, (free_from_count 44 c.next_field-4.result.1.bytes.now (omega (arith, f1.counted, f2.counted, f3.counted, f4.counted, c.requires.commas)), tt)))))
