use Rattle.std.proofs.Common.{◌≡◌, true, false, ap, sym, ◌∙◌, arith}
use Rattle.std.proofs.lemmas.Bool.{both_ways}
use Rattle.lengths.specs.Order.{same}
use Rattle.books.specs.States.{stands}
use Rattle.plans.specs.Ways.{Point}
use Rattle.plans.proofs.Given.{read_here}
use Rattle.plans.proofs.Centered.{central_past, central_less, central_level}
use Rattle.plans.proofs.drawing.Drawing.center_with.Goals as goal

pub returns-then-not-is_point-clause-central : goal.returns-then-not-is_point-clause-central
returns-then-not-is_point-clause-central g c = λ state r was.
    let n = c.args.tag in
    let off : stands (state n) ≡ false = ap stands (sym (read_here r n (omega (arith, c.requires.0)) c.requires.1)) ∙ sym c.is_point.ensures ∙ c.if-not-is_point.true in
    central_past g.met.K.Length.laws r.lawful n c.args.best was (λ s f h. absurd (both_ways (stands (state n)) off s))

pub returns-then-less-clause-central : goal.returns-then-less-clause-central
returns-then-less-clause-central g c = λ state r was.
    let n = c.args.tag in
    let p : Point state n = ap stands (sym (read_here r n (omega (arith, c.requires.0)) c.requires.1)) ∙ sym c.is_point.ensures ∙ c.if-not-is_point.false in
    let less : g.K.Length.figures.less c.of-figure.result c.args.best.figure ≡ true = sym c.less.ensures ∙ c.if-less.true in
    central_less g.met.K.Length.laws r.lawful n c.args.best was p c.of-figure.result (c.of-figure.ensures.figure state r p p) less

pub returns-then-less-2-clause-central : goal.returns-then-less-2-clause-central
returns-then-less-2-clause-central g c = λ state r was.
    let n = c.args.tag in
    let less : g.K.Length.figures.less c.args.best.figure c.of-figure.result ≡ true = sym c.less-2.ensures ∙ c.if-less-2.true in
    central_past g.met.K.Length.laws r.lawful n c.args.best was (λ s f h. rw (c.of-figure.ensures.only state f r s s h) less)

pub returns-clause-central : goal.returns-clause-central
returns-clause-central g c = λ state r was.
    let k = g.K.Length.figures in
    let n = c.args.tag in
    let p : Point state n = ap stands (sym (read_here r n (omega (arith, c.requires.0)) c.requires.1)) ∙ sym c.is_point.ensures ∙ c.if-not-is_point.false in
    let a : k.less c.of-figure.result c.args.best.figure ≡ false = sym c.less.ensures ∙ c.if-less.false in
    let b : k.less c.args.best.figure c.of-figure.result ≡ false = sym c.less-2.ensures ∙ c.if-less-2.false in
    central_level g.met.K.Length.laws r.lawful n c.args.best was p c.of-figure.result (c.of-figure.ensures.figure state r p p) (same g.met.K.Length.laws b a)
