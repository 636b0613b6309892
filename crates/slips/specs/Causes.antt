-- The answers of this crate, with the numbers and words of docs/refusals.md and docs/slips.md.
use Rattle.std.specs.Prelude.{ℕ, ◌+◌}
use Rattle.slips.specs.declared.faults.Cause.{Cause}
use Rattle.slips.specs.declared.faults.Cause.TheVariants.{TooLong, NotNames, NotSixFields, BadLetter, BadNumber, NotZero, Unended}
use Rattle.slips.specs.declared.faults.RowFault.{RowFault}
use Rattle.slips.specs.declared.faults.Fault.{Fault}
use Rattle.slips.specs.declared.faults.WriteFault.{WriteFault}
use Rattle.slips.specs.declared.faults.WriteFault.TheVariants.{InField, ShortBuffer}

-- the number of a cause: the slip is over 65,536 bytes; its first line is not the names, or it has no byte; a row is not of
-- six fields; its letter is not G or S; a number is badly written or above 1,000,000; a field after the tag of a strike is
-- not 0; a line has no newline
abbrev pub cause_number : Cause → ℕ
cause_number TooLong = 19
cause_number NotNames = 20
cause_number NotSixFields = 21
cause_number BadLetter = 22
cause_number BadNumber = 23
cause_number NotZero = 24
cause_number Unended = 25

-- the number of a refusal to write: a cause in a field, or a buffer shorter than the line
abbrev pub write_number : WriteFault → ℕ
write_number (InField c f) = cause_number c
write_number ShortBuffer = 12

-- a cause in a row: at a field, which begins at a byte of the line
abbrev pub row_fault : Cause → ℕ → ℕ → RowFault
row_fault c f i = record { cause = c; field = f; at = i }

-- a cause in a slip: on a line, at a field, which begins at a byte of the slip
abbrev pub slip_fault : Cause → ℕ → ℕ → ℕ → Fault
slip_fault c l f b = record { cause = c; line = l; field = f; byte = b }

-- a fault of a row gets its line, which begins at byte b of the slip
abbrev pub placed : RowFault → ℕ → ℕ → Fault
placed f l b = slip_fault f.cause l f.field (b + f.at)
