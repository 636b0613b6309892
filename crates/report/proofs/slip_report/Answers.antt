use Rattle.std.proofs.Common.{◌≡◌, ℕ, List, ◌++◌, map, vec_items, string_bytes, codes, refl, sym, ap, ◌∙◌, subst, append_assoc}
use Rattle.std.proofs.lemmas.List.{with_items_is}
use Rattle.slips.specs.declared.rows.Values.{Values}
use Rattle.slips.specs.Seen.{values_in}
use Rattle.lengths.specs.Whole.{mm}
use Rattle.lengths.specs.Pairs.{kind_c_figures}
use Rattle.books.specs.Edits.{Tried}
use Rattle.books.proofs.Courses.{tried_once}
use Rattle.report.specs.Asked.{edit_m, edit_c}
use Rattle.report.specs.Lines.{rows_text, fault_text}
use Rattle.report.proofs.Tries.{tried_as, as_many}
use Rattle.report.proofs.slip_report.Goals as goal

pub returns : goal.returns
returns c =
    let told = c.in_ok-rows.ensures in
    let rows = vec_items c.in_ok-rows.field-0.rows in
    let fault = c.in_ok-rows.field-0.fault in
    let ms = c.try_in_table.new.noted in
    let cs = c.try_in_log.new.noted in
    let tried_m : Tried mm 256 (map edit_m (values_in rows)) ms = tried_as edit_m c.try_in_table.ensures c.as_mut_slice.ensures.value c.in_ok-in_m.ensures c.as_slice.ensures.value in
    let tried_c : Tried kind_c_figures 256 (map edit_c (values_in rows)) cs = tried_as edit_c c.try_in_log.ensures c.as_mut_slice-2.ensures.value c.in_ok-in_c.ensures c.as_slice-2.ensures.value in
    let filled_m : c.as_slice-3.result.now ≡ ms = c.as_slice-3.ensures.value ∙ with_items_is c.in_ok-in_m.in_m ms (as_many _ _ c.try_in_table.ensures.same ∙ c.as_mut_slice.ensures.len) in
    let filled_c : c.as_slice-4.result.now ≡ cs = c.as_slice-4.ensures.value ∙ with_items_is c.in_ok-in_c.in_c cs (as_many _ _ c.try_in_log.ensures.same ∙ c.as_mut_slice-2.ensures.len) in
    let lines : rows_text 2 c.as_slice-3.result.now c.as_slice-4.result.now ≡ rows_text 2 ms cs = λ i. rows_text 2 (filled_m i) (filled_c i) in
    let text : string_bytes c.put_fault.new.text ≡ codes "line,M,C\n" ++ (rows_text 2 ms cs ++ fault_text fault) = c.in_ok-put_fault.ensures
    ∙ ap (λ (t : List ℕ). t ++ fault_text fault)
    (c.in_ok-put_rows.ensures ∙ ap (λ (t : List ℕ). t ++ rows_text 2 c.as_slice-3.result.now c.as_slice-4.result.now) c.in_ok-text.ensures.ok
    ∙ ap (λ (t : List ℕ). codes "line,M,C\n" ++ t) lines)
    ∙ append_assoc (codes "line,M,C\n") (rows_text 2 ms cs) (fault_text fault) in
    record {
      answer = record { rows = values_in rows; fault = fault; holds = told.holds; in_m = ms; in_c = cs; tried_m = tried_m; tried_c = tried_c; lines = text };
      only = λ other h.
          let same = told.only h.rows h.fault h.holds in
          let m = tried_once tried_m (subst (λ (vs : List Values). Tried mm 256 (map edit_m vs) h.in_m) same.0 h.tried_m) in
          let k = tried_once tried_c (subst (λ (vs : List Values). Tried kind_c_figures 256 (map edit_c vs) h.in_c) same.0 h.tried_c) in
          h.lines ∙ (λ i. codes "line,M,C\n" ++ (rows_text 2 (m i) (k i) ++ fault_text (same.1 i))) ∙ sym text;
    }
