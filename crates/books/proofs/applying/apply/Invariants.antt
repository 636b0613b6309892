use Rattle.std.proofs.Common.{◌≡◌, map, take}
use Rattle.books.specs.Edits.{Course, Wrote}
use Rattle.books.proofs.applying.apply.Given as goal

abbrev pub invariant-loop-entry : goal.invariant-loop-entry
invariant-loop-entry g l =
    let k = g.B.Kind.Length.figures in
    let n = g.B.Book.extent l.initial.book in
    record {
      edits : map (λ e. e.edit) l.entries ≡ map (λ e. e.edit) l.initial.entries;
      size : g.B.Book.extent l.book ≡ n;
      course : Course k n (take l.entry-index l.entries) (g.B.Book.state l.initial.book) (g.B.Book.state l.book);
      leaves : (a : g.row.B.Denot) → g.B.Book.leaves a l.initial.book → g.B.Book.leaves a l.book;
      wrote : Wrote g.B.Book.writes l.initial.book (take l.entry-index l.entries) l.book;
    }
