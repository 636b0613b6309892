use Rattle.std.proofs.Common.{◌+◌, ◌-◌, ◌∙◌, arith}
use Rattle.std.proofs.lemmas.List.{get_or_default}
use Rattle.cells.specs.Columns.{held}
use Rattle.plans.proofs.Search.{Filled, filled_more}
use Rattle.plans.proofs.drawing.Drawing.column_of.Goals as goal

pub loop-tag-preserved : goal.loop-tag-preserved
loop-tag-preserved g c =
    let memory = c.args.memory.now in
    let tag = c.loop-tag.tag in
    let x = c.index-memory-tag.result in
    filled_more memory g.K.Length.figures.zero (held c.loop-tag.column) (held c.put.new.self) tag x c.loop-tag.auto.tag
    (omega (arith, c.loop-tag-test.true, c.args.self.now.fits))
    (c.index-memory-tag.is ∙ get_or_default memory (tag - 1) x g.K.Length.figures.zero (omega (arith, c.loop-tag-test.true, c.loop-tag.auto.tag, c.requires)))
    c.put.ensures c.loop-tag.invariant

pub returns-2 : goal.returns-2
returns-2 g c =
    let memory = c.args.memory.now in
    let tag = c.loop-tag.tag in
    let x = c.index-memory-tag.result in
    let all : Filled memory g.K.Length.figures.zero (held c.put.new.self) (tag + 1) =
    filled_more memory g.K.Length.figures.zero (held c.loop-tag.column) (held c.put.new.self) tag x c.loop-tag.auto.tag
    (omega (arith, c.loop-tag-test.true, c.args.self.now.fits))
    (c.index-memory-tag.is ∙ get_or_default memory (tag - 1) x g.K.Length.figures.zero (omega (arith, c.loop-tag-test.true, c.loop-tag.auto.tag, c.requires)))
    c.put.ensures c.loop-tag.invariant in
    λ t low high. all t low (omega arith)
