use Rattle.std.proofs.Common.{◌≤◌, List, ℕ, [], ◌∷◌, ◌++◌, length, decimal, get_or, sym, ap, ◌∙◌, subst, arith, rules, length-append}
use Rattle.std.specs.List.{AllByRecursion}
use Rattle.slips.specs.Format.{most, letter_byte}
use Rattle.slips.proofs.Puts.{text_more, digits_few}
use Rattle.slips.proofs.write.line_of.Goals as goal

pub push_str-requires : goal.push_str-requires
push_str-requires c =
    let few = digits_few c.numbers-n-items.result c.loop-n.n-index (search rules) (subst (λ (ns : List ℕ). AllByRecursion (λ n. n ≤ most) ns) (sym c.numbers-n-items.ensures) c.requires.0) in
    omega (arith, few, ap length c.format.ensures.text, ap length (c.push-in-loop-n.ensures.ascii (omega arith)), length-append {A = ℕ})

pub loop-n-preserved : goal.loop-n-preserved
loop-n-preserved c =
    let few = digits_few c.numbers-n-items.result c.loop-n.n-index (search rules) (subst (λ (ns : List ℕ). AllByRecursion (λ n. n ≤ most) ns) (sym c.numbers-n-items.ensures) c.requires.0) in
    let more = text_more c.numbers-n-items.result c.loop-n.n-index (search rules) in
    let comma = c.push-in-loop-n.ensures.ascii (omega arith) in
    let digits = c.format.ensures.text in
    record {
      text = c.push_str.ensures.bytes ∙ ap (λ (t : List ℕ). c.push-in-loop-n.new.self.bytes ++ t) digits
          ∙ ap (λ (t : List ℕ). t ++ decimal (get_or c.numbers-n-items.result c.loop-n.n-index 0)) (comma ∙ ap (λ (t : List ℕ). t ++ 44 ∷ []) c.loop-n.invariant.text)
          ∙ ap (λ (t : List ℕ). letter_byte c.args.row.letter ∷ t) more;
      short = omega (arith, few, ap length digits, ap length comma, length-append {A = ℕ});
    }
