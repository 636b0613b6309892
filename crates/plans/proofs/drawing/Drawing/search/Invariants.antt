use Rattle.std.proofs.Common.{◌≡◌, ℕ, length, drop}
use Rattle.books.specs.declared.states.State.{State}
use Rattle.plans.specs.Drawn.{Reads, drawn}
use Rattle.plans.specs.Searching.{Foremost}
use Rattle.plans.proofs.drawing.Drawing.search.Given as goal

abbrev pub invariant-loop-first : goal.invariant-loop-first
invariant-loop-first g l =
    let size = l.self.size in
    record {
      foremost : (state : ℕ → State g.row.K.Denot) → Reads g.K.Length.figures size state (drawn l.self.states)
          → Foremost g.K.Length.figures state (g.M.Measure.is size state) l.limit l.first l.first l.best;
      long : length l.memory ≡ length l.initial.memory;
      rest : drop size l.memory ≡ drop size l.initial.memory;
    }
