use Rattle.std.proofs.Common.{◌∙◌, arith}
use Rattle.std.proofs.lemmas.List.{length-take-le}
use Rattle.std.proofs.lemmas.Slice.{drop-append-drop}
use Rattle.rows.proofs.clearing.clear.Goals as goal

pub returns-clause-rest : goal.returns-clause-rest
returns-clause-rest g c =
    let used = c.min-used.result in
    let rows = c.args.rows.now in
    drop-append-drop used rows c.fill.new.self 255 (omega arith) (c.fill.auto.self ∙ length-take-le used rows (omega arith))
