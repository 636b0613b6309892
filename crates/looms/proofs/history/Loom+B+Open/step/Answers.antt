use Rattle.std.proofs.Common.{true, false, refl, ap, inl, inr}
use Rattle.looms.specs.declared.calls.Call.TheVariants as calls
use Rattle.looms.specs.declared.calls.Answer.TheVariants as answers
use Rattle.looms.proofs.Goes.{quiet_step, edit_step}
use Rattle.looms.proofs.history.«Loom+B+Open».step.Goals as goal

pub returns-in-Edit-clause-does : goal.returns-in-Edit-clause-does
returns-in-Edit-clause-does g c = λ room. rw c.in-Edit.is (edit_step g.B.Kind.Length.figures g.B.Book.extent g.B.Book.state g.B.Book.writes g.B.Book.leaves room c.in-Edit.edit
    c.args.self.book c.edit-answer.new.self.book c.args.self.count c.edit-answer.new.self.count c.edit-answer.result c.edit-answer.ensures)

pub returns-in-Release-clause-does : goal.returns-in-Release-clause-does
returns-in-Release-clause-does g c = λ room. rw (c.in-Release.is, c.release.ensures.book, c.release.ensures.count) (quiet_step g.B.Kind.Length.figures g.B.Book.extent g.B.Book.state g.B.Book.writes g.B.Book.leaves room false true c.args.self.book c.args.self.count calls.Release answers.Done refl refl refl)

pub returns-in-Size-clause-does : goal.returns-in-Size-clause-does
returns-in-Size-clause-does g c = λ room. rw c.in-Size.is (quiet_step g.B.Kind.Length.figures g.B.Book.extent g.B.Book.state g.B.Book.writes g.B.Book.leaves room false false c.args.self.book c.args.self.count calls.Size (answers.Number c.size-size.result) (ap answers.Number c.size-size.ensures.answer) refl refl)

pub returns-in-Count-clause-does : goal.returns-in-Count-clause-does
returns-in-Count-clause-does g c = λ room. rw c.in-Count.is (quiet_step g.B.Kind.Length.figures g.B.Book.extent g.B.Book.state g.B.Book.writes g.B.Book.leaves room false false c.args.self.book c.args.self.count calls.Count (answers.Number c.count-count.result) (ap answers.Number c.count-count.ensures.answer) refl refl)

pub returns-in-Look-clause-does : goal.returns-in-Look-clause-does
returns-in-Look-clause-does g c = λ room. rw c.in-Look.is (quiet_step g.B.Kind.Length.figures g.B.Book.extent g.B.Book.state g.B.Book.writes g.B.Book.leaves room false false c.args.self.book c.args.self.count (calls.Look c.in-Look.tag) (answers.Looked c.look-state.result) (ap answers.Looked c.look-state.ensures.answer) refl refl)

pub returns-in-Reopen-clause-does : goal.returns-in-Reopen-clause-does
returns-in-Reopen-clause-does g c = λ room. elim c.in-Reopen.is [
  | inl e ↦ rw e (quiet_step g.B.Kind.Length.figures g.B.Book.extent g.B.Book.state g.B.Book.writes g.B.Book.leaves room false false c.args.self.book c.args.self.count calls.Reopen answers.NotAllowed refl refl refl)
  | inr o ↦ elim o [
    | inl e ↦ rw e.2 (quiet_step g.B.Kind.Length.figures g.B.Book.extent g.B.Book.state g.B.Book.writes g.B.Book.leaves room false false c.args.self.book c.args.self.count (calls.Distance e.0 e.1) answers.NotAllowed refl refl refl)
    | inr o ↦ elim o [
      | inl e ↦ rw e.2 (quiet_step g.B.Kind.Length.figures g.B.Book.extent g.B.Book.state g.B.Book.writes g.B.Book.leaves room false false c.args.self.book c.args.self.count (calls.Length e.0 e.1) answers.NotAllowed refl refl refl)
      | inr o ↦ elim o [
        | inl e ↦ rw e.2 (quiet_step g.B.Kind.Length.figures g.B.Book.extent g.B.Book.state g.B.Book.writes g.B.Book.leaves room false false c.args.self.book c.args.self.count (calls.Reach e.0 e.1) answers.NotAllowed refl refl refl)
        | inr o ↦ elim o [
          | inl e ↦ rw e.2 (quiet_step g.B.Kind.Length.figures g.B.Book.extent g.B.Book.state g.B.Book.writes g.B.Book.leaves room false false c.args.self.book c.args.self.count (calls.Sum e.0 e.1) answers.NotAllowed refl refl refl)
          | inr o ↦ elim o [
            | inl e ↦ rw e (quiet_step g.B.Kind.Length.figures g.B.Book.extent g.B.Book.state g.B.Book.writes g.B.Book.leaves room false false c.args.self.book c.args.self.count calls.Hub answers.NotAllowed refl refl refl)
            | inr o ↦ elim o [
              | inl e ↦ rw e (quiet_step g.B.Kind.Length.figures g.B.Book.extent g.B.Book.state g.B.Book.writes g.B.Book.leaves room false false c.args.self.book c.args.self.count calls.Spine answers.NotAllowed refl refl refl)
              | inr e ↦ rw e.1 (quiet_step g.B.Kind.Length.figures g.B.Book.extent g.B.Book.state g.B.Book.writes g.B.Book.leaves room false false c.args.self.book c.args.self.count (calls.Trunk e.0) answers.NotAllowed refl refl refl)
            ]
          ]
        ]
      ]
    ]
  ]
]
