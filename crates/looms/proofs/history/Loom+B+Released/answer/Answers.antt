use Rattle.std.proofs.Common.{true, false, length, refl, ap, inl, inr}
use Rattle.looms.specs.declared.calls.Call.TheVariants as calls
use Rattle.looms.specs.declared.calls.Answer.TheVariants as answers
use Rattle.looms.proofs.Goes.{quiet_step}
use Rattle.looms.proofs.history.«Loom+B+Released».answer.Goals as goal

pub returns-in-Reopen-clause-does : goal.returns-in-Reopen-clause-does
returns-in-Reopen-clause-does g c = rw c.in-Reopen.is (quiet_step g.B.Kind.Length.figures g.B.Book.extent g.B.Book.state g.B.Book.writes g.B.Book.leaves (length c.args.memory.now) true false c.args.self.now.book c.args.self.now.count calls.Reopen answers.Done refl refl refl)

pub returns-in-Edit-clause-does : goal.returns-in-Edit-clause-does
returns-in-Edit-clause-does g c = elim c.in-Edit.is [
  | inl e ↦ rw e.1 (quiet_step g.B.Kind.Length.figures g.B.Book.extent g.B.Book.state g.B.Book.writes g.B.Book.leaves (length c.args.memory.now) true true c.args.self.now.book c.args.self.now.count (calls.Edit e.0) answers.NotAllowed refl refl refl)
  | inr e ↦ rw e (quiet_step g.B.Kind.Length.figures g.B.Book.extent g.B.Book.state g.B.Book.writes g.B.Book.leaves (length c.args.memory.now) true true c.args.self.now.book c.args.self.now.count calls.Release answers.NotAllowed refl refl refl)
]

pub returns-in-Size-clause-does : goal.returns-in-Size-clause-does
returns-in-Size-clause-does g c = rw c.in-Size.is (quiet_step g.B.Kind.Length.figures g.B.Book.extent g.B.Book.state g.B.Book.writes g.B.Book.leaves (length c.args.memory.now) true true c.args.self.now.book c.args.self.now.count calls.Size (answers.Number c.size.result) (ap answers.Number c.size.ensures.answer) refl refl)

pub returns-in-Count-clause-does : goal.returns-in-Count-clause-does
returns-in-Count-clause-does g c = rw c.in-Count.is (quiet_step g.B.Kind.Length.figures g.B.Book.extent g.B.Book.state g.B.Book.writes g.B.Book.leaves (length c.args.memory.now) true true c.args.self.now.book c.args.self.now.count calls.Count (answers.Number c.count.result) (ap answers.Number c.count.ensures.answer) refl refl)

pub returns-in-Look-clause-does : goal.returns-in-Look-clause-does
returns-in-Look-clause-does g c = rw c.in-Look.is (quiet_step g.B.Kind.Length.figures g.B.Book.extent g.B.Book.state g.B.Book.writes g.B.Book.leaves (length c.args.memory.now) true true c.args.self.now.book c.args.self.now.count (calls.Look c.in-Look.tag) (answers.Looked c.look.result) (ap answers.Looked c.look.ensures.answer) refl refl)

pub returns-in-Distance-clause-does : goal.returns-in-Distance-clause-does
returns-in-Distance-clause-does g c = rw c.in-Distance.is (quiet_step g.B.Kind.Length.figures g.B.Book.extent g.B.Book.state g.B.Book.writes g.B.Book.leaves (length c.args.memory.now) true true c.args.self.now.book c.args.self.now.count (calls.Distance c.in-Distance.first c.in-Distance.last) (answers.Measured c.distance.result) (c.distance.result, (refl, c.distance.ensures.answer)) refl refl)

pub returns-in-Length-clause-does : goal.returns-in-Length-clause-does
returns-in-Length-clause-does g c = rw c.in-Length.is (quiet_step g.B.Kind.Length.figures g.B.Book.extent g.B.Book.state g.B.Book.writes g.B.Book.leaves (length c.args.memory.now) true true c.args.self.now.book c.args.self.now.count (calls.Length c.in-Length.first c.in-Length.last) (answers.Measured c.length.result) (c.length.result, (refl, c.length.ensures.answer)) refl refl)

pub returns-in-Reach-clause-does : goal.returns-in-Reach-clause-does
returns-in-Reach-clause-does g c = rw c.in-Reach.is (quiet_step g.B.Kind.Length.figures g.B.Book.extent g.B.Book.state g.B.Book.writes g.B.Book.leaves (length c.args.memory.now) true true c.args.self.now.book c.args.self.now.count (calls.Reach c.in-Reach.first c.in-Reach.last) (answers.Measured c.reach.result) (c.reach.result, (refl, c.reach.ensures.answer)) refl refl)

pub returns-in-Sum-clause-does : goal.returns-in-Sum-clause-does
returns-in-Sum-clause-does g c = rw c.in-Sum.is (quiet_step g.B.Kind.Length.figures g.B.Book.extent g.B.Book.state g.B.Book.writes g.B.Book.leaves (length c.args.memory.now) true true c.args.self.now.book c.args.self.now.count (calls.Sum c.in-Sum.first c.in-Sum.last) (answers.Measured c.sum.result) (c.sum.result, (refl, c.sum.ensures.answer)) refl refl)

pub returns-in-Hub-clause-does : goal.returns-in-Hub-clause-does
returns-in-Hub-clause-does g c = rw c.in-Hub.is (quiet_step g.B.Kind.Length.figures g.B.Book.extent g.B.Book.state g.B.Book.writes g.B.Book.leaves (length c.args.memory.now) true true c.args.self.now.book c.args.self.now.count calls.Hub (answers.Planned c.hub.result) (c.hub.result, (refl, c.hub.ensures.answer)) refl refl)

pub returns-in-Spine-clause-does : goal.returns-in-Spine-clause-does
returns-in-Spine-clause-does g c = rw c.in-Spine.is (quiet_step g.B.Kind.Length.figures g.B.Book.extent g.B.Book.state g.B.Book.writes g.B.Book.leaves (length c.args.memory.now) true true c.args.self.now.book c.args.self.now.count calls.Spine (answers.Planned c.spine.result) (c.spine.result, (refl, c.spine.ensures.answer)) refl refl)

pub returns-in-Trunk-clause-does : goal.returns-in-Trunk-clause-does
returns-in-Trunk-clause-does g c = rw c.in-Trunk.is (quiet_step g.B.Kind.Length.figures g.B.Book.extent g.B.Book.state g.B.Book.writes g.B.Book.leaves (length c.args.memory.now) true true c.args.self.now.book c.args.self.now.count (calls.Trunk c.in-Trunk.limit) (answers.Planned c.trunk.result) (c.trunk.result, (refl, c.trunk.ensures.answer)) refl refl)
