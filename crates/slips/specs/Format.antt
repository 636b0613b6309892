-- The format of a slip: which bytes are the writing of a row, and which are the writing of a slip.
use Rattle.std.specs.Prelude.{◌≡◌, ℕ, ◌≤◌, List, [], ◌∷◌, ◌++◌, map, drop, codes, decimal}
use Rattle.std.specs.List.{flat_map, AllByRecursion}
use Rattle.slips.specs.declared.rows.Letter.{Letter}
use Rattle.slips.specs.declared.rows.Letter.TheVariants.{Growth, Strike}
use Rattle.slips.specs.declared.rows.Values.{Values}

-- the greatest number of a row
abbrev pub most : ℕ
most = 1000000

-- the greatest number of bytes of a slip
abbrev pub most_bytes : ℕ
most_bytes = 65536

-- the byte of a letter: G for a growth, S for a strike
abbrev pub letter_byte : Letter → ℕ
letter_byte Growth = 71
letter_byte Strike = 83

-- the five numbers of a row, in their order
abbrev pub numbers : Values → List ℕ
numbers v = v.tag ∷ (v.parent ∷ (v.couplings ∷ (v.run ∷ (v.drop ∷ []))))

-- a row that a slip may hold: no number above the greatest, and in a strike no number after the tag but 0
abbrev pub Proper : Values → Type 0
Proper v = AllByRecursion (λ n. n ≤ most) (numbers v) × (v.letter ≡ Strike → AllByRecursion (λ n. n ≡ 0) (drop 1 (numbers v)))

-- fields, each with a comma before it
abbrev pub commaed : List (List ℕ) → List ℕ
commaed [] = []
commaed (f ∷ fs) = 44 ∷ (f ++ commaed fs)

-- the text of a row: its letter, then its numbers in decimal without leading zeros, parted by commas
abbrev pub row_text : Values → List ℕ
row_text v = letter_byte v.letter ∷ commaed (map decimal (numbers v))

-- the line of a row: its text, ended by byte 10
abbrev pub row_line : Values → List ℕ
row_line v = row_text v ++ 10 ∷ []

-- the names of the fields, in their order
unfoldable pub names : List ℕ
names = codes "edit,tag,parent,couplings,run,drop"

abbrev pub names_line : List ℕ
names_line = names ++ 10 ∷ []

-- the writing of a slip: the names line, and then the line of each row
abbrev pub slip_text : List Values → List ℕ
slip_text vs = names_line ++ flat_map row_line vs
