-- The edits that the rows of a slip ask for, in each kind.
use Rattle.std.specs.Prelude.{ℕ, None}
use Rattle.lengths.specs.declared.pairs.FirstThen.{FirstThen}
use Rattle.lengths.specs.Whole.{Couplings, Millimetres, millimetres}
use Rattle.lengths.specs.Pairs.{figure_c}
use Rattle.books.specs.declared.edits.Edit.{Edit}
use Rattle.books.specs.declared.edits.Edit.TheVariants as edits
use Rattle.books.specs.declared.edits.Entry.{Entry}
use Rattle.books.specs.declared.states.Spur.{Spur}
use Rattle.slips.specs.declared.rows.Letter.{Letter}
use Rattle.slips.specs.declared.rows.Letter.TheVariants as letters
use Rattle.slips.specs.declared.rows.Values.{Values}

-- the edit by its letter
abbrev pub by_letter : {K : Type 0} → Letter → ℕ → Spur K → Edit K
by_letter letters.Growth tag spur = edits.Growth tag spur
by_letter letters.Strike tag spur = edits.Strike tag

-- the edit of a row, with its run and drop in some kind
abbrev pub edit_of : {K : Type 0} → Values → K → K → Edit K
edit_of v run drop = by_letter v.letter v.tag (record { parent = v.parent; run = run; drop = drop })

-- in kind M the couplings are not read
abbrev pub edit_m : Values → Edit Millimetres
edit_m v = edit_of v (millimetres v.run) (millimetres v.drop)

-- in kind C a run is couplings, then millimetres, and a drop has no couplings
abbrev pub edit_c : Values → Edit (FirstThen Couplings Millimetres)
edit_c v = edit_of v (figure_c v.couplings v.run) (figure_c 0 v.drop)

-- an edit without an answer yet
abbrev pub unanswered : {K : Type 0} → Edit K → Entry K
unanswered e = record { edit = e; answer = None }
