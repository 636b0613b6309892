use Rattle.std.proofs.Common.{◌≡◌, ℕ, [], ◌<◌, length, get_or}
use Rattle.slips.specs.Rules.{Number}
use Rattle.slips.specs.Inner.{bytes_of}
use Rattle.slips.proofs.fields.Parts.numbers.Given as goal

abbrev pub invariant-loop-k : goal.invariant-loop-k
invariant-loop-k l = record {
  five : length l.numbers ≡ 5;
  read : (j : ℕ) → j < l.k → Number (get_or (bytes_of l.self.fields) j []) (get_or l.numbers j 0);
}
