use Rattle.std.proofs.Common.{◌≡◌, ◌+◌, [], ◌++◌, string_bytes, sym, ap, ◌∙◌, inl, inr}
use Rattle.std.proofs.lemmas.List.{append-nil}
use Rattle.report.specs.Lines.{rows_text}
use Rattle.report.proofs.Texts.{rows_none, rows_end}
use Rattle.report.proofs.lines.put_rows.Goals as goal

pub returns : goal.returns
returns c =
    let left = c.loop-i.i-iterator in
    let ms = left.iter.a.rest.now in
    let cs = left.iter.b.rest.now in
    let over : rows_text (left.count + 2) ms cs ≡ [] = elim c.in-None.ensures.steps.0 [
      | inl end ↦ rows_none (left.count + 2) ms cs end.1.0
      | inr end ↦ rows_end (left.count + 2) ms cs end.1.0
    ] in
    sym (append-nil (string_bytes c.loop-i.text)) ∙ ap (λ t. string_bytes c.loop-i.text ++ t) (sym over) ∙ c.loop-i.invariant
