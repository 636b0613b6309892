-- What a column holds.
use Rattle.std.specs.Prelude.{ℕ, ◌/◌, ◌%◌}
use Rattle.cells.specs.declared.twos.Two.{Two}
use Rattle.cells.specs.declared.columns.Column.{Column}
use Rattle.cells.specs.Twos.{of_two}

-- the part of two that a number names
abbrev pub part : {C : Type 0} → Two C → ℕ → C
part c i = of_two c.a c.b (i % 2)

-- the part of sixteen that a number names
abbrev pub part16 : {C : Type 0} → Two (Two (Two (Two C))) → ℕ → C
part16 c i = part (part (part (part c i) (i / 2)) (i / 2 / 2)) (i / 2 / 2 / 2)

-- the value of a column at a number
abbrev pub held : {T : Type 0} → Column T → ℕ → T
held c i = (part16 (part16 c.cells i) (i / 2 / 2 / 2 / 2)).item
