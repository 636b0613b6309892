use Rattle.std.proofs.Common.{◌≡◌, ℕ, List, [], ◌∷◌, ◌++◌, map, length, vec_items, sym, refl, ap, ◌∙◌, subst, arith, Bor}
use Rattle.std.proofs.lemmas.List.{map_push, length_push}
use Rattle.std.proofs.lemmas.Result.{err_from_is_err_and}
use Rattle.slips.specs.declared.rows.Row.{Row}
use Rattle.slips.specs.Format.{names_line}
use Rattle.slips.specs.Seen.{row_seen, found_from, values_in, a_row, Answers}
use Rattle.slips.specs.Rules.{Read, Holds}
use Rattle.slips.proofs.Progress.{turn, rows_more}
use Rattle.slips.proofs.Unique.{holds_once}
use Rattle.slips.proofs.whole.read_slip.Goals as goal
use Rattle.slips.proofs.whole.read_slip.Goals.{in-Ok-None, in-Err}

pub loop-row-preserved : goal.loop-row-preserved
loop-row-preserved c =
    let row = c.in-Ok-Some.row in
    let rows = vec_items c.loop-row.rows in
    let s = c.loop-row.reader in
    let inv = c.loop-row.invariant in
    let told : Answers s.slip.now s.byte s.line (a_row (row_seen row)) = rw c.in-Ok-Some.field-0-is at c.in-Ok-Some.ensures.answer in
    let moved = rw c.in-Ok-Some.field-0-is at c.in-Ok-Some.ensures.moved in
    let t = turn refl inv.read told moved in
    let same = ap (λ (r : Bor (List ℕ)). r.now) c.in-Ok-Some.ensures.slip in
    let items = c.in_ok-push-in-Ok-Some.ensures.items in
    let values : values_in (vec_items c.push.new.self) ≡ values_in rows ++ (row.values ∷ []) = ap values_in items ∙ map_push (λ (r : Row). r.values) rows row in
    let found : map row_seen (vec_items c.push.new.self) ≡ map row_seen rows ++ (row_seen row ∷ []) = ap (map row_seen) items ∙ map_push row_seen rows row in
    record {
      slip = same ∙ inv.slip;
      read = rw (same, values) t.1;
      found = found ∙ rows_more (map row_seen rows) (values_in rows) (row_seen row) inv.found t.0 ∙ ap (found_from (length names_line) 2) (sym values);
    }

pub returns-in_err-push-in-Ok-Some-clause-memory : goal.returns-in_err-push-in-Ok-Some-clause-memory
returns-in_err-push-in-Ok-Some-clause-memory c =
    let q = err_from_is_err_and c.from_residual.result c.from_residual.ensures.1 in
    let rows = values_in (vec_items c.loop-row.rows) in
    let v = c.in-Ok-Some.row.values in
    let whole = rw c.in-Ok-Some.field-0-is at c.in-Ok-Some.ensures.whole in
    let read = subst (λ (x : List ℕ). Read x (rows ++ v ∷ []) c.read.new.self.byte c.read.new.self.line) c.loop-row.invariant.slip (whole rows c.loop-row.invariant.read) in
    rw q.1 (rows ++ v ∷ [], (_, (_, (omega (arith, length_push rows v), read))))

pub returns : goal.returns
returns c =
    let slip = c.args.slip.now in
    let vs = values_in (vec_items c.loop-row.rows) in
    let inv = c.loop-row.invariant in
    let h : Holds slip vs c.match-read.fault =
    elim c.match-read.branch [
      | in-Ok-None w ↦ let whole = rw w.in-Ok-None.field-0-is at w.in-Ok-None.ensures.whole in rw (w.fault-is, ← inv.slip) (whole vs inv.read)
      | in-Err w ↦ rw (w.fault-is, ← inv.slip) (w.in-Err.ensures.whole vs inv.read)
    ] in
    record { holds = h; only = λ ws o k. holds_once slip ws vs o _ k h; rows = inv.found; memory = tt }
