use Rattle.std.proofs.Common.{refl, ◌∙◌, rules}
use Rattle.books.specs.declared.edits.Edit.TheVariants.{Growth}
use Rattle.logs.proofs.Keeping.{log_verdict, growth_logged}
use Rattle.logs.proofs.log.LogBookBook.grow.Goals as goal

pub returns-in_err-judge_growth-clause-answer : goal.returns-in_err-judge_growth-clause-answer
returns-in_err-judge_growth-clause-answer g c =
    let answer = c.in_err-judge_growth.ensures ∙ log_verdict g.K.Length.figures c.args.self.now (Growth c.args.tag c.args.spur.now) c.replayed.ensures in
    search rules

pub returns-clause-answer : goal.returns-clause-answer
returns-clause-answer g c = c.in_ok-judge_growth.ensures ∙ log_verdict g.K.Length.figures c.args.self.now (Growth c.args.tag c.args.spur.now) c.replayed.ensures

pub bounds-self-self : goal.bounds-self-self
bounds-self-self g c = (growth_logged g.K.Length.figures c.args.self.now c.args.tag c.args.spur.now c.replayed.ensures c.in_ok-judge_growth.ensures).fits

pub invariant_of-self : goal.invariant_of-self
invariant_of-self g c =
    let logged = growth_logged g.K.Length.figures c.args.self.now c.args.tag c.args.spur.now c.replayed.ensures c.in_ok-judge_growth.ensures in
    record { kept = logged.kept; room = logged.room }

pub returns-clause-states : goal.returns-clause-states
returns-clause-states g c = (growth_logged g.K.Length.figures c.args.self.now c.args.tag c.args.spur.now c.replayed.ensures c.in_ok-judge_growth.ensures).done

pub returns-clause-writes : goal.returns-clause-writes
returns-clause-writes g c =
    let logged = growth_logged g.K.Length.figures c.args.self.now c.args.tag c.args.spur.now c.replayed.ensures c.in_ok-judge_growth.ensures in
    (refl, record { more = refl; entry = refl }, logged.replays)
