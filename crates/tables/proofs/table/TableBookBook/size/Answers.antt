use Rattle.rows.proofs.Changes.{lawful_rows}
use Rattle.tables.proofs.table.TableBookBook.size.Goals as goal

pub returns-clause-lawful : goal.returns-clause-lawful
returns-clause-lawful g c = lawful_rows g.K.Length.figures c.args.self.now.rows.now
