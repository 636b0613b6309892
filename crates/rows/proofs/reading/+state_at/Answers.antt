use Rattle.std.proofs.Common.{◌≡◌, ◌<◌, ◌⊎◌, true, false, sym, ap, ◌∙◌, arith, rules}
use Rattle.std.proofs.lemmas.Grind.{common_steps}
use Rattle.books.specs.States.{stands}
use Rattle.rows.specs.Rows.{extent_of, fit, state_of}
use Rattle.rows.proofs.Meaning.{state_root, state_out, said, read_blank, read_struck, read_stands, read_unfit, read_fallen}
use Rattle.rows.proofs.reading.+state_at.Goals as goal
use Rattle.rows.proofs.reading.+state_at.Goals.{else-fits-via-then-fits+else-is_standing, else-fits-via-else-fits}

pub returns-then-tag-eq1 : goal.returns-then-tag-eq1
returns-then-tag-eq1 g t c =
    let k = g.R.Kind.Length.figures in
    let root = state_root k (g.R.Rows.rows c.args.rows.now) in
    let one = ap (state_of k (g.R.Rows.rows c.args.rows.now)) c.if-tag-eq1.true in
    cc

pub returns-then-not-contains : goal.returns-then-not-contains
returns-then-not-contains g t c =
    let k = g.R.Kind.Length.figures in
    let rows = g.R.Rows.rows c.args.rows.now in
    let out : (c.args.tag < 2) ⊎ (extent_of rows < c.args.tag) = grind (arith, common_steps) in
    sym (state_out k rows c.args.tag c.if-tag-eq1.false out)

pub returns-in-Blank : goal.returns-in-Blank
returns-in-Blank g t c =
    let k = g.R.Kind.Length.figures in
    let rows = g.R.Rows.rows c.args.rows.now in
    read_blank k c.args.tag (state_of k rows) ∙ said k rows c.args.tag _ (search rules) (search rules) (sym c.row.ensures ∙ c.in-Blank.is)

pub returns-in-Struck : goal.returns-in-Struck
returns-in-Struck g t c =
    let k = g.R.Kind.Length.figures in
    let rows = g.R.Rows.rows c.args.rows.now in
    read_struck k c.args.tag (state_of k rows) ∙ said k rows c.args.tag _ (search rules) (search rules) (sym c.row.ensures ∙ c.in-Struck.is)

pub returns-then-is_standing : goal.returns-then-is_standing
returns-then-is_standing g t c =
    let k = g.R.Kind.Length.figures in
    let rows = g.R.Rows.rows c.args.rows.now in
    let s = c.in-Standing.spur in
    let fits : fit k c.args.tag s ≡ true = search rules in
    let up : stands (state_of k rows s.parent) ≡ true = search rules in
    read_stands k c.args.tag (state_of k rows) s fits up ∙ said k rows c.args.tag _ (search rules) (search rules) (sym c.row.ensures ∙ c.in-Standing.is)

pub returns-else-fits : goal.returns-else-fits
returns-else-fits g t c =
    let k = g.R.Kind.Length.figures in
    let rows = g.R.Rows.rows c.args.rows.now in
    let s = c.in-Standing.spur in
    let here = said k rows c.args.tag _ (search rules) (search rules) (sym c.row.ensures ∙ c.in-Standing.is) in
    elim c.else-fits.branch [
      | else-fits-via-then-fits+else-is_standing w ↦ let fallen : stands (state_of k rows s.parent) ≡ false = search rules in read_fallen k c.args.tag (state_of k rows) s fallen ∙ here
      | else-fits-via-else-fits w ↦ let unfit : fit k c.args.tag s ≡ false = search rules in read_unfit k c.args.tag (state_of k rows) s unfit ∙ here
    ]
