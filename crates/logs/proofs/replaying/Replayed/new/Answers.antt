use Rattle.std.proofs.Common.{ap, ◌∙◌, take, length}
use Rattle.logs.specs.Logs.{replay}
use Rattle.logs.specs.Marks.{rows_by}
use Rattle.logs.proofs.Marks.{marked_refill}
use Rattle.logs.proofs.replaying.Replayed.new.Goals as goal

pub returns : goal.returns
returns g c =
    marked_refill c.args.edits.now c.args.count c.truncate.new.self.items c.mark.new.marks c.requires.count (c.truncate.ensures.items ∙ ap (take c.args.count) (c.from.ensures).0)
    (c.mark.auto.marks ∙ ap length c.as_mut_slice.ensures.value) (c.mark.ensures ∙ ap (λ ms. replay (rows_by c.args.edits.now ms) c.args.edits.now) c.as_mut_slice.ensures.value)
