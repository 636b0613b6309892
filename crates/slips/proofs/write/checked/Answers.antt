use Rattle.std.proofs.Common.{◌≡◌, refl, ap, ◌∙◌, rules}
use Rattle.slips.specs.Format.{letter_byte}
use Rattle.slips.specs.Writing.{too_large, not_zero}
use Rattle.slips.proofs.write.checked.Goals as goal

pub returns-in-Some : goal.returns-in-Some
returns-in-Some c =
    let h = c.in-Some.ensures in
    too_large c.in_ok-letter.letter (search rules) c.in-Some.k h.0 h.1 h.2 refl

pub returns : goal.returns
returns c =
    let letter : c.args.letter ≡ letter_byte c.in_ok-letter.letter = search rules in
    not_zero (letter ∙ ap letter_byte c.in-Strike.is) c.in_default.ensures c.in-Some-nonzero_after_tag.k c.in-Some-nonzero_after_tag.ensures refl
