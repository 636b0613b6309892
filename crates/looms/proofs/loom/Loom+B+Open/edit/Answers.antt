use Rattle.looms.proofs.Goes.{edited}
use Rattle.looms.proofs.loom.«Loom+B+Open».edit.Goals as goal

pub returns : goal.returns
returns g c =
    edited g.B.Kind.Length.figures g.B.Book.extent g.B.Book.state g.B.Book.writes g.B.Book.leaves c.args.edit c.args.self.now.book c.attempt-answer.new.book
    c.args.self.now.count c.count_with.result c.attempt-answer.result c.attempt-answer.ensures.answer c.attempt-answer.ensures.size c.attempt-answer.ensures.done
    c.attempt-answer.ensures.writes c.attempt-answer.ensures.refused c.attempt-answer.ensures.leaves c.attempt-answer.ensures.led
    c.count_with.ensures.accepted c.count_with.ensures.refused
