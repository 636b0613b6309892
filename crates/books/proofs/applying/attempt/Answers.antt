use Rattle.std.proofs.Common.{sym, ap, ◌∙◌, subst}
use Rattle.books.specs.declared.edits.Edit.{Edit}
use Rattle.books.specs.Edits.{Done, verdict}
use Rattle.books.proofs.Steps.{step_led}
use Rattle.books.proofs.applying.attempt.Goals as goal

pub returns-in-Growth-clause-led : goal.returns-in-Growth-clause-led
returns-in-Growth-clause-led g c =
    let k = g.B.Kind.Length.figures in
    let n = g.B.Book.extent c.args.book.now in
    let s = g.B.Book.state c.args.book.now in
    let t = g.B.Book.state c.grow.new.self in
    let answer = c.grow.ensures.answer ∙ ap (verdict k n s) (sym c.in-Growth.is) in
    let done = subst (λ (e : Edit g.row.B-Kind.Denot). Done e c.grow.result s t) (sym c.in-Growth.is) c.grow.ensures.states in
    λ h led. step_led n c.args.edit c.grow.result answer done led

pub returns-in-Strike-clause-led : goal.returns-in-Strike-clause-led
returns-in-Strike-clause-led g c =
    let k = g.B.Kind.Length.figures in
    let n = g.B.Book.extent c.args.book.now in
    let s = g.B.Book.state c.args.book.now in
    let t = g.B.Book.state c.strike.new.self in
    let answer = c.strike.ensures.answer ∙ ap (verdict k n s) (sym c.in-Strike.is) in
    let done = subst (λ (e : Edit g.row.B-Kind.Denot). Done e c.strike.result s t) (sym c.in-Strike.is) c.strike.ensures.states in
    λ h led. step_led n c.args.edit c.strike.result answer done led
