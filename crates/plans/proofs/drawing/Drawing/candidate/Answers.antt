use Rattle.std.proofs.Common.{◌≡◌, ap, sym, ◌∙◌}
use Rattle.std.proofs.lemmas.Bool.{both_ways}
use Rattle.plans.specs.Searching.{exceeds}
use Rattle.plans.proofs.MeasuresAre.{distance_is}
use Rattle.plans.proofs.drawing.Drawing.candidate.Goals as goal

pub returns-then-exceeds-clause-found : goal.returns-then-exceeds-clause-found
returns-then-exceeds-clause-found g c = λ state r p far l q d within.
    let k = g.K.Length.figures in
    let a = c.args.start.now.tag in
    let b = c.args.last in
    let laws = g.met.K.Length.laws in
    let own : l ≡ c.get-length.result.now = distance_is laws r.lawful a b l d ∙ sym (distance_is laws r.lawful a b _ (far b q)) ∙ sym c.get-length.ensures in
    both_ways (exceeds k c.args.limit l) within (ap (exceeds k c.args.limit) own ∙ sym c.exceeds.ensures ∙ c.if-exceeds.true)
