-- The lines of the rows.
use Rattle.std.proofs.Common.{◌≡◌, ℕ, List, [], ◌∷◌, length, refl, arith}
use Rattle.books.specs.declared.edits.Entry.{Entry}
use Rattle.report.specs.Lines.{rows_text}

-- no row is left in one of the two lists: no line is left
pub rows_none : {M C : Type 0} (l : ℕ) (ms : List (Entry M)) (cs : List (Entry C)) → length ms ≡ 0 → rows_text l ms cs ≡ []
rows_none l [] cs e = refl
rows_none l (m ∷ ms) cs e = absurd (omega arith)

pub rows_end : {M C : Type 0} (l : ℕ) (ms : List (Entry M)) (cs : List (Entry C)) → length cs ≡ 0 → rows_text l ms cs ≡ []
rows_end l [] cs e = refl
rows_end l (m ∷ ms) [] e = refl
rows_end l (m ∷ ms) (c ∷ cs) e = absurd (omega arith)
