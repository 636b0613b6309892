-- What the report of a slip is.
use Rattle.std.specs.Prelude.{◌≡◌, ℕ, List, ◌++◌, map, codes, Option}
use Rattle.lengths.specs.declared.pairs.FirstThen.{FirstThen}
use Rattle.lengths.specs.Whole.{Couplings, Millimetres, mm}
use Rattle.lengths.specs.Pairs.{kind_c_figures}
use Rattle.books.specs.declared.edits.Entry.{Entry}
use Rattle.books.specs.Edits.{Tried}
use Rattle.slips.specs.declared.faults.Fault.{Fault}
use Rattle.slips.specs.declared.rows.Values.{Values}
use Rattle.slips.specs.Rules.{Holds}
use Rattle.report.specs.Asked.{edit_m, edit_c}
use Rattle.report.specs.Lines.{rows_text, fault_text}

-- the text is the report of the slip: a heading; then each row that the slip holds, the first of which is on line 2, with the
-- numbers of what its edit is answered in a new book of 256 tags of kind M and in one of kind C; then the first fault of the slip
pub record Reported (slip text : List ℕ) : Type 0 where
  pub rows : List Values
  pub fault : Option Fault
  pub holds : Holds slip rows fault
  pub in_m : List (Entry Millimetres)
  pub in_c : List (Entry (FirstThen Couplings Millimetres))
  pub tried_m : Tried mm 256 (map edit_m rows) in_m
  pub tried_c : Tried kind_c_figures 256 (map edit_c rows) in_c
  pub lines : text ≡ codes "line,M,C\n" ++ (rows_text 2 in_m in_c ++ fault_text fault)
