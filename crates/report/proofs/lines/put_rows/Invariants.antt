use Rattle.std.proofs.Common.{◌≡◌, ◌+◌, ◌++◌, string_bytes}
use Rattle.report.specs.Lines.{rows_text}
use Rattle.report.proofs.lines.put_rows.Given as goal

-- the lines so far, and those of the rows that are left
abbrev pub invariant-loop-i : goal.invariant-loop-i
invariant-loop-i l =
    string_bytes l.text ++ rows_text (l.i-iterator.count + 2) l.i-iterator.iter.a.rest.now l.i-iterator.iter.b.rest.now ≡ string_bytes l.initial.text ++ rows_text 2 l.in_m l.in_c
