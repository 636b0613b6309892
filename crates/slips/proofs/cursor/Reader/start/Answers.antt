use Rattle.std.proofs.Common.{◌≡◌, ℕ, ◌≤◌, ◌++◌, length, drop, sym, ap, subst, rules}
use Rattle.std.proofs.lemmas.Result.{err_from_is_err_and}
use Rattle.slips.specs.Format.{most_bytes, names_line}
use Rattle.slips.specs.Seen.{a_fault, RowsAnswer, no_names, first, later}
use Rattle.slips.specs.Causes.{slip_fault}
use Rattle.slips.proofs.Answering.{names_length}
use Rattle.slips.proofs.Finding.{mapped_err}
use Rattle.slips.proofs.cursor.Reader.start.Goals as goal

pub returns-then-self-ne1-clause-start : goal.returns-then-self-ne1-clause-start
returns-then-self-ne1-clause-start c =
    let few : length c.args.self.now.slip.now ≤ most_bytes = search rules in
    λ a h. later few (search rules) h

pub returns-in_err-map_err-clause-start : goal.returns-in_err-map_err-clause-start
returns-in_err-map_err-clause-start c =
    let q = err_from_is_err_and c.from_residual.result c.from_residual.ensures.1 in
    let f = c.in_err-map_err.field-0.0 in
    let few : length c.args.self.now.slip.now ≤ most_bytes = search rules in
    let one : c.args.self.now.line ≡ 1 = search rules in
    let told = mapped_err c.check_names.result c.map_err.result f c.in_err-map_err.was _ _ _ c.map_err.ensures.cases c.check_names.ensures in
    let placed : f ≡ slip_fault told.0 1 0 0 = search rules in
    rw (q.1, q.2) (no_names told.0 few one told.1 (ap a_fault placed))

pub returns-clause-start : goal.returns-clause-start
returns-clause-start c =
    let slip = c.args.self.now.slip.now in
    let few : length slip ≤ most_bytes = search rules in
    let one : c.args.self.now.line ≡ 1 = search rules in
    let named : slip ≡ names_line ++ drop (length names_line) slip = search rules in
    λ a h. first (drop (length names_line) slip) few one named (subst (λ (n : ℕ). RowsAnswer (drop n slip) n 2 a) (sym names_length) h)
