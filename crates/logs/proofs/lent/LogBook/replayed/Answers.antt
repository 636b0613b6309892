use Rattle.std.proofs.Common.{ℕ, ◌-◌, replicate, take, ap, ◌∙◌}
use Rattle.books.specs.declared.states.State.TheVariants.{Blank}
use Rattle.rows.specs.Rows.{row_of}
use Rattle.logs.specs.Logs.{replay, rows_of}
use Rattle.logs.proofs.lent.LogBook.replayed.Goals as goal

pub returns : goal.returns
unfolding rows_of
returns g c =
    let b = c.args.self.now in
    c.new.ensures ∙ ap (λ (n : ℕ). replay (replicate (n - 1) (row_of Blank)) (take b.used b.entries.now)) c.extent_of.ensures
