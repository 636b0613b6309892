use Rattle.std.proofs.Common.{refl}
use Rattle.rows.proofs.Blanks.{blank_new, blank_kept}
use Rattle.logs.proofs.Logging.{empty_rows, empty_room}
use Rattle.books.specs.Edits.{nothing}
use Rattle.logs.proofs.lent.LogBook.open.Goals as goal

pub invariant_of-result : goal.invariant_of-result
invariant_of-result g c = record { kept = blank_kept _ (empty_rows c.args.entries.now); room = empty_room c.args.entries.now }

pub returns-clause-new : goal.returns-clause-new
returns-clause-new g c = blank_new _ (empty_rows c.args.entries.now) g.K.Length.figures

pub returns-clause-replays : goal.returns-clause-replays
returns-clause-replays g c = record { fresh = _; new = blank_new _ (empty_rows c.args.entries.now) g.K.Length.figures; course = nothing (λ t. refl) }
