use Rattle.std.proofs.Common.{◌≡◌, ◌-◌, map, length, vec_items}
use Rattle.slips.specs.Format.{names_line}
use Rattle.slips.specs.Seen.{row_seen, found_from, values_in}
use Rattle.slips.specs.Rules.{Read}
use Rattle.slips.proofs.whole.read_slip.Given as goal

abbrev pub invariant-loop-row : goal.invariant-loop-row
invariant-loop-row l = record {
  slip : l.reader.slip.now ≡ l.slip;
  read : Read l.reader.slip.now (values_in (vec_items l.rows)) l.reader.byte l.reader.line;
  found : map row_seen (vec_items l.rows) ≡ found_from (length names_line) 2 (values_in (vec_items l.rows));
}

abbrev pub decreases-loop-row : goal.decreases-loop-row
decreases-loop-row l = length l.slip - l.reader.byte
