use Rattle.std.proofs.Common.{ap, ◌∙◌}
use Rattle.logs.specs.Marks.{mark_one, rows_by}
use Rattle.logs.proofs.Marks.{marked_next}
use Rattle.logs.proofs.replaying.mark.Goals as goal

pub loop-index-preserved : goal.loop-index-preserved
loop-index-preserved g c =
    let edits = c.args.edits.now in
    ap (rows_by edits) c.mark_one.ensures ∙ ap (λ e. rows_by edits (mark_one c.loop-index.marks e c.loop-index.index)) c.index-edits-index.is
    ∙ marked_next edits c.loop-index.marks c.args.marks.now c.loop-index.index c.index-edits-index.result c.loop-index-test.true c.loop-index.invariant
