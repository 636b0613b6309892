use Rattle.std.proofs.Common.{◌<◌, ◌≤◌, rules, tests}
use Rattle.std.proofs.lemmas.Iterator.{IsFirst-from_position, YieldsList-from_slice}
use Rattle.slips.specs.Format.{most}
use Rattle.slips.proofs.Marks.{first_above}
use Rattle.slips.proofs.write.too_large.Goals as goal

pub returns : goal.returns
returns c =
    first_above most c.position.result c.args.numbers.now (IsFirst-from_position _ _ _ (λ b. most < b) (λ b. b ≤ most) c.position.ensures.ran (YieldsList-from_slice c.args.numbers.now cc) (λ x q k. search (rules, tests)) (λ x q k. search (rules, tests)))
