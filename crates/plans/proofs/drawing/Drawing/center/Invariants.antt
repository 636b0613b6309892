use Rattle.std.proofs.Common.{◌≡◌, ℕ, ◌+◌, ◌≤◌, length, drop}
use Rattle.books.specs.declared.states.State.{State}
use Rattle.plans.specs.Drawn.{Reads, drawn}
use Rattle.plans.specs.Searching.{Central}
use Rattle.plans.proofs.drawing.Drawing.center.Given as goal

abbrev pub invariant-loop-tag : goal.invariant-loop-tag
invariant-loop-tag g l =
    let size = l.self.size in
    record {
      central : (state : ℕ → State g.row.K.Denot) → Reads g.K.Length.figures size state (drawn l.self.states) → Central g.K.Length.figures state l.tag l.best;
      near : l.tag ≤ size + 1;
      long : length l.memory ≡ length l.initial.memory;
      rest : drop size l.memory ≡ drop size l.initial.memory;
    }
