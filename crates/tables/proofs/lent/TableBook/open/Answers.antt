use Rattle.rows.proofs.Blanks.{blank_new}
use Rattle.tables.proofs.lent.TableBook.open.Goals as goal

pub returns-clause-new : goal.returns-clause-new
returns-clause-new g c = blank_new c.clear.new.rows c.clear.ensures.used g.K.Length.figures
