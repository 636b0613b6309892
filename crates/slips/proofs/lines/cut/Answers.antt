use Rattle.std.proofs.Common.{◌≡◌, ◌≢◌, rules, tests}
use Rattle.std.proofs.lemmas.Iterator.{IsFirst-from_position, YieldsList-from_slice}
use Rattle.slips.proofs.Marks.{cut_first}
use Rattle.slips.proofs.lines.cut.Goals as goal

pub returns : goal.returns
returns c =
    let s = c.args.s.now in
    let h = IsFirst-from_position _ _ _ (λ b. b ≡ c.args.mark) (λ b. b ≢ c.args.mark) c.position.ensures.ran (YieldsList-from_slice s cc) (λ x q k. search (rules, tests)) (λ x q k. search (rules, tests)) in
    cut_first s (rw c.in_ok-at.was at h)
