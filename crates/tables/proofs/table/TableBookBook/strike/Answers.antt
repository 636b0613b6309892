use Rattle.std.proofs.Common.{◌-◌, ◌∙◌}
use Rattle.std.proofs.lemmas.List.{drop-set-lt}
use Rattle.rows.proofs.Changes.{struck_used, struck_rows}
use Rattle.tables.proofs.table.TableBookBook.strike.Goals as goal

pub returns-clause-states : goal.returns-clause-states
returns-clause-states g c =
    let b = c.args.self.now in
    struck_rows g.K.Length.figures b.rows.now c.args.tag b.kept c.in_ok-judge_strike.ensures

pub returns-clause-leaves : goal.returns-clause-leaves
returns-clause-leaves g c =
    let b = c.args.self.now in
    let used = struck_used g.K.Length.figures b.rows.now c.args.tag b.kept c.in_ok-judge_strike.ensures in
    λ a h. (h.0, drop-set-lt 255 b.rows.now (c.args.tag - 2) _ used ∙ h.1)
