use Rattle.std.proofs.Common.{ℕ, subst}
use Rattle.books.specs.States.{Lawful}
use Rattle.rows.specs.Rows.{state_of}
use Rattle.rows.proofs.Changes.{lawful_rows}
use Rattle.logs.specs.Logs.{rows_of}
use Rattle.logs.proofs.Logging.{rows_extent}
use Rattle.logs.proofs.log.LogBookBook.size.Goals as goal

pub returns-clause-lawful : goal.returns-clause-lawful
returns-clause-lawful g c =
    let k = g.K.Length.figures in
    let b = c.args.self.now in
    let rs = rows_of b.entries.now b.used in
    subst (λ (n : ℕ). Lawful k n (state_of k rs)) (rows_extent b.entries.now b.used) (lawful_rows k rs)
