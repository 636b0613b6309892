-- The lines of a report: a line of the slip, and a number for each of two kinds.
use Rattle.std.specs.Prelude.{ℕ, ◌+◌, List, [], ◌∷◌, ◌++◌, Some, None, codes, decimal, Option}
use Rattle.books.specs.declared.edits.Entry.{Entry}
use Rattle.books.specs.Edits.{answer_number}
use Rattle.slips.specs.declared.faults.Fault.{Fault}
use Rattle.slips.specs.Causes.{cause_number}

-- one line: a line of the slip, and its numbers in kind M and in kind C
abbrev pub line_text : ℕ → ℕ → ℕ → List ℕ
line_text l m c = decimal l ++ (codes "," ++ (decimal m ++ (codes "," ++ (decimal c ++ codes "\n"))))

-- rows from the line l on, each with the numbers of its answers in two books
abbrev pub rows_text : {M C : Type 0} → ℕ → List (Entry M) → List (Entry C) → List ℕ
rows_text l [] cs = []
rows_text l (m ∷ ms) [] = []
rows_text l (m ∷ ms) (c ∷ cs) = line_text l (answer_number m.answer) (answer_number c.answer) ++ rows_text (l + 1) ms cs

-- a fault, with its number for both kinds
abbrev pub fault_text : Option Fault → List ℕ
fault_text None = []
fault_text (Some f) = line_text f.line (cause_number f.cause) (cause_number f.cause)
