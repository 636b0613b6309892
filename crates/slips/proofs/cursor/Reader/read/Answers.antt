use Rattle.std.proofs.Common.{refl, ◌∙◌}
use Rattle.std.proofs.lemmas.Result.{err_from_is_err_and}
use Rattle.slips.specs.Seen.{a_row, the_end, row_seen}
use Rattle.slips.proofs.Finding.{answers_hand}
use Rattle.slips.proofs.Progress.{at_end, at_fault, turn}
use Rattle.slips.proofs.Unique.{answers_once}
use Rattle.slips.proofs.cursor.Reader.read.Goals as goal

pub returns-in_err-start : goal.returns-in_err-start
returns-in_err-start c =
    let q = err_from_is_err_and c.from_residual.result c.from_residual.ensures.1 in
    let s = c.args.self.now in
    let h = c.in_err-start.ensures.start in
    rw (q.1, q.2) (record { answer = h; only = λ a k. answers_once s.slip.now s.byte s.line a _ k h; row = tt; moved = refl; whole = λ vs p. at_fault s.slip.now vs s.byte s.line _ p h; slip = refl })

pub returns-in_err-row : goal.returns-in_err-row
returns-in_err-row c =
    let q = err_from_is_err_and c.from_residual-in_err-row.result c.from_residual-in_err-row.ensures.1 in
    let s = c.args.self.now in
    let h = c.in_ok-start.ensures.start _ c.in_err-row.ensures.answer in
    rw (q.1, q.2) (record { answer = h; only = λ a k. answers_once s.slip.now s.byte s.line a _ k h; row = tt; moved = refl; whole = λ vs p. at_fault s.slip.now vs s.byte s.line _ p h; slip = refl })

pub returns-in_default : goal.returns-in_default
returns-in_default c =
    let s = c.args.self.now in
    let h = c.in_ok-start.ensures.start the_end (rw c.in_default.is at c.in_ok-row.ensures.answer) in
    record { answer = h; only = λ a k. answers_once s.slip.now s.byte s.line a _ k h; row = tt; moved = refl; whole = λ vs p. at_end s.slip.now vs s.byte s.line p h; slip = refl }

pub returns : goal.returns
returns c =
    let s = c.args.self.now in
    let h = c.in_ok-start.ensures.start (a_row (row_seen c.in-Some.row)) (rw c.in-Some.is at c.in_ok-row.ensures.answer) in
    let after = rw c.in-Some.is at c.in_ok-row.ensures.after in
    record {
      answer = h;
      only = λ a k. answers_once s.slip.now s.byte s.line a _ k h;
      row = answers_hand s.slip.now s.byte s.line _ h;
      moved = after.1;
      whole = λ vs p. (turn refl p h after.1).1;
      slip = after.0 ∙ c.in_ok-start.ensures.slip;
    }
