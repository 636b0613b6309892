use Rattle.std.proofs.Common.{◌≡◌, ◌+◌, ◌-◌, ◌≤◌, false, map, take, length}
use Rattle.books.specs.Edits.{Course, Wrote}
use Rattle.books.specs.States.{lefts}
use Rattle.looms.specs.Histories.{edits_of, released_after, count_of}
use Rattle.looms.specs.Lists.{released_in, book_in, count_in, any_figure, MemoryLeft, AllRight}
use Rattle.looms.proofs.history.run.Given as goal

abbrev pub invariant-loop-note : goal.invariant-loop-note
invariant-loop-note g l =
    let k = g.B.Kind.Length.figures in
    let first = l.fn.book in
    let most = g.B.Book.extent first in
    let now = book_in l.loom in
    let done = take l.note-index l.notes in
    record {
      calls : map (λ n. n.call) l.notes ≡ map (λ n. n.call) l.initial.notes;
      size : g.B.Book.extent now ≡ most;
      stage : released_in l.loom ≡ released_after false done;
      course : Course k most (edits_of done) (g.B.Book.state first) (g.B.Book.state now);
      wrote : Wrote g.B.Book.writes first (edits_of done) now;
      left_alone : (a : g.row.B.Denot) → g.B.Book.leaves a first → g.B.Book.leaves a now;
      count : (count_in l.loom ≡ count_of done) × (count_in l.loom + lefts (g.B.Book.state now) (most - 1) ≤ 510);
      right : AllRight k most (length l.initial.memory) (g.B.Book.state first) done;
      memory : MemoryLeft k most (any_figure done) l.initial.memory l.memory;
    }
