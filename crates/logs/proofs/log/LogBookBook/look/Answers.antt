use Rattle.std.proofs.Common.{◌∙◌}
use Rattle.books.specs.Causes.{answered, first_cause, look_causes}
use Rattle.logs.proofs.Keeping.{log_as}
use Rattle.logs.proofs.log.LogBookBook.look.Goals as goal

pub returns : goal.returns
returns g c =
    let b = c.args.self.now in
    c.judge_look.ensures ∙ log_as g.K.Length.figures b.entries.now b.used (λ n s. answered c.args.tag (s c.args.tag) (first_cause (look_causes n c.args.tag))) c.replayed.ensures
