use Rattle.std.proofs.Common.{refl}
use Rattle.std.proofs.lemmas.Slice.Eq.{slice_eq-Decides}
use Rattle.std.proofs.lemmas.Bool.{both_ways}
use Rattle.slips.specs.Format.{names}
use Rattle.slips.specs.Rules.{not_names}
use Rattle.slips.proofs.Answering.{names_split}
use Rattle.slips.proofs.walk.check_names.Goals as goal
use Rattle.std.proofs.lemmas.Bool.Decides.{Decides-eqb}

pub returns-then-eq : goal.returns-then-eq
unfolding names
returns-then-eq c =
    let same = slice_eq-Decides Decides-eqb c.in-Some.line.now _ c.eq.result c.eq.ensures in
    names_split c.args.slip.now c.in-Some.line.now c.in-Some.field-0-1.now c.in-Some.ensures.0 (same.0 c.if-eq.true)

pub returns-else-eq : goal.returns-else-eq
unfolding names
returns-else-eq c =
    let same = slice_eq-Decides Decides-eqb c.in-Some.line.now _ c.eq.result c.eq.ensures in
    not_names c.in-Some.line.now c.in-Some.field-0-1.now c.in-Some.ensures.0 c.in-Some.ensures.1 (λ n. both_ways c.eq.result c.if-eq.false (same.1 n)) refl
