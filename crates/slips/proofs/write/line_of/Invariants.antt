use Rattle.std.proofs.Common.{◌≡◌, ◌+◌, ◌*◌, ◌≤◌, ◌∷◌, map, length, take, decimal}
use Rattle.slips.specs.Format.{letter_byte, commaed}
use Rattle.slips.proofs.write.line_of.Given as goal

abbrev pub invariant-loop-n : goal.invariant-loop-n
invariant-loop-n l = record {
  text : l.line.bytes ≡ letter_byte l.fn.row.letter ∷ commaed (map decimal (take l.n-index l.n-items));
  short : length l.line.bytes ≤ 1 + 8 * l.n-index;
}
