-- Worked cases, and that they come out so.
use Rattle.std.specs.Prelude.{◌≡◌, ℕ, List, [], ◌∷◌, map}
use Rattle.lengths.specs.Whole.{Millimetres, mm}
use Rattle.books.specs.declared.edits.Edit.{Edit}
use Rattle.books.specs.declared.edits.Edit.TheVariants.{Growth, Strike}
use Rattle.books.specs.declared.edits.Entry.{Entry}
use Rattle.books.specs.Edits.{answer_number, Tried}
use Rattle.worked.specs.declared.Case.{Case}

-- the growth of a tag in kind M, without a drop
abbrev pub growth_of : ℕ → ℕ → ℕ → Edit Millimetres
growth_of tag parent run = Growth tag (record { parent = parent; run = record { value = run }; drop = record { value = 0 } })

-- an edit with the number of its answer
abbrev pub case : Edit Millimetres → ℕ → Case
case e n = record { edit = e; number = n }

-- the table
abbrev pub cases : List Case
cases =
    case (growth_of 3 3 0) 2
    ∷ (case (growth_of 2 1 0) 3
    ∷ (case (growth_of 2 1 1000001) 3
    ∷ (case (growth_of 257 1 1) 1
    ∷ (case (growth_of 4 2 1) 7
    ∷ (case (growth_of 2 1 1000000) 0
    ∷ (case (growth_of 2 1 1) 5
    ∷ (case (growth_of 4 2 1) 0
    ∷ (case (Strike 5) 9
    ∷ (case (Strike 2) 0
    ∷ (case (Strike 4) 6
    ∷ (case (growth_of 4 1 1) 6
    ∷ (case (growth_of 5 4 1) 8
    ∷ []))))))))))))

-- the edits of the table can be done one after another on a new book of 256 tags, and are answered with its numbers; no book
-- answers them otherwise
pub record WorkedOut (table : List Case) : Type 0 where
  pub noted : List (Entry Millimetres)
  pub tried : Tried mm 256 (map (λ c. c.edit) table) noted
  pub numbers : map (λ n. answer_number n.answer) noted ≡ map (λ c. c.number) table
  pub only : (ns : List (Entry Millimetres)) → Tried mm 256 (map (λ c. c.edit) table) ns → ns ≡ noted
