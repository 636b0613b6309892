use Rattle.std.proofs.Common.{◌+◌, arith}
use Rattle.cells.specs.Columns.{held}
use Rattle.plans.specs.Drawn.{drawn}
use Rattle.plans.proofs.Draws.{read_more, all_read}
use Rattle.plans.proofs.drawing.states_of.Goals as goal

pub loop-tag-preserved : goal.loop-tag-preserved
loop-tag-preserved g c =
    let size = c.size-size.ensures in
    read_more size.lawful (held c.loop-tag.states) (held c.put.new.self) c.loop-tag.tag c.look.result c.unwrap_or-state.result
    c.loop-tag.auto.tag (omega (arith, c.loop-tag-test.true, size.answer)) c.look.ensures c.unwrap_or-state.ensures c.put.ensures c.loop-tag.invariant

pub returns-2 : goal.returns-2
returns-2 g c =
    let size = c.size-size.ensures in
    let tag = c.loop-tag.tag in
    all_read size.lawful (drawn c.put.new.self) (tag + 1) (omega (arith, size.answer))
    (read_more size.lawful (held c.loop-tag.states) (held c.put.new.self) tag c.look.result c.unwrap_or-state.result
    c.loop-tag.auto.tag (omega (arith, c.loop-tag-test.true, size.answer)) c.look.ensures c.unwrap_or-state.ensures c.put.ensures c.loop-tag.invariant)
