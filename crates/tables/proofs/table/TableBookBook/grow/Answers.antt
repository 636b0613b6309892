use Rattle.std.proofs.Common.{◌-◌, ◌∙◌}
use Rattle.std.proofs.lemmas.List.{drop-set-lt}
use Rattle.rows.proofs.Changes.{written_used, grown_rows, grown_sound}
use Rattle.tables.proofs.table.TableBookBook.grow.Goals as goal

pub invariant_of-self : goal.invariant_of-self
invariant_of-self g c =
    let b = c.args.self.now in
    record { kept = grown_sound g.K.Length.figures b.rows.now c.args.tag c.args.spur.now b.kept c.in_ok-judge_growth.ensures }

pub returns-clause-states : goal.returns-clause-states
returns-clause-states g c =
    let b = c.args.self.now in
    grown_rows g.K.Length.figures b.rows.now c.args.tag c.args.spur.now b.kept c.in_ok-judge_growth.ensures

pub returns-clause-leaves : goal.returns-clause-leaves
returns-clause-leaves g c =
    let b = c.args.self.now in
    let used = written_used g.K.Length.figures b.rows.now c.args.tag c.args.spur.now b.kept c.in_ok-judge_growth.ensures in
    λ a h. (h.0, drop-set-lt 255 b.rows.now (c.args.tag - 2) _ used ∙ h.1)
