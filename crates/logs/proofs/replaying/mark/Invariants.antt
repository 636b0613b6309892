use Rattle.std.proofs.Common.{◌≡◌, take}
use Rattle.logs.specs.Logs.{replay}
use Rattle.logs.specs.Marks.{rows_by}
use Rattle.logs.proofs.replaying.mark.Given as goal

abbrev pub invariant-loop-index : goal.invariant-loop-index
invariant-loop-index g l = rows_by l.edits l.marks ≡ replay (rows_by l.edits l.initial.marks) (take l.index l.edits)
