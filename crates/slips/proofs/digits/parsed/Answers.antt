use Rattle.std.proofs.Common.{◌≡◌, Ok, arith, rules}
use Rattle.std.proofs.lemmas.Bool.{leb-true, leb-false}
use Rattle.std.specs.Str.Parse.{ParsesUnsigned}
use Rattle.slips.specs.Format.{most}
use Rattle.slips.specs.Rules.{Number, IsNumber}
use Rattle.slips.proofs.Decimal.{is_text, parses, parsed_number, then_cases}
use Rattle.slips.proofs.digits.parsed.Goals as goal

pub returns-in_err-text : goal.returns-in_err-text
returns-in_err-text c =
    let never : IsNumber c.args.field.now → ⊥ = λ m. let t = is_text c.args.field.now m in search rules in
    rw c.from_residual.ensures never

pub returns-in_err-n : goal.returns-in_err-n
returns-in_err-n c =
    let f = c.args.field.now in
    let text : c.in_ok-text.text.now ≡ f = search rules in
    let p : ParsesUnsigned 32 10 f c.parse.result = rw text at c.parse.ensures.value.0 in
    let never : IsNumber f → ⊥ = λ m. let e = parses f c.parse.result p m in search rules in
    rw c.from_residual-in_err-n.ensures never

pub returns : goal.returns
returns c =
    let f = c.args.field.now in
    let n = c.in_ok-n.n in
    let text : c.in_ok-text.text.now ≡ f = search rules in
    let p : ParsesUnsigned 32 10 f c.parse.result = rw text at c.parse.ensures.value.0 in
    let was : c.parse.result ≡ Ok n = search rules in
    rw c.then_some.ensures (then_cases _ (Number f) _ n
    (λ e. parsed_number f n c.parse.result p was c.requires.sign c.requires.zero (leb-true n most e))
    (λ e m. let q = parses f c.parse.result p m in let same : m.0 ≡ n = cc in omega (arith, leb-false n most e, m.1.0)))
