-- What a log keeps after an accepted edit.
use Rattle.std.proofs.Common.{◌≡◌, ℕ, ◌+◌, ◌-◌, ◌/◌, ◌<◌, min, List, [], ◌∷◌, ◌++◌, map, length, take, drop, set, Some, Ok, Result, sym, ap, ◌∙◌, subst, arith}
use Rattle.std.proofs.lemmas.List.{length-set, map_push, take_more_set, take-set-le, drop-set-lt, drop-drop}
use Rattle.lengths.specs.Figures.{Figures}
use Rattle.books.specs.declared.causes.Refused.{Refused}
use Rattle.books.specs.declared.edits.Edit.{Edit}
use Rattle.books.specs.declared.edits.Edit.TheVariants.{Growth, Strike}
use Rattle.books.specs.declared.edits.Entry.{Entry}
use Rattle.books.specs.declared.states.Spur.{Spur}
use Rattle.books.specs.declared.states.State.{State}
use Rattle.books.specs.declared.states.State.TheVariants.{Blank, Struck, Standing}
use Rattle.books.specs.Edits.{accepted, verdict, Done, Course}
use Rattle.books.specs.States.{left, Grown, StruckOut}
use Rattle.books.proofs.Courses.{course_more}
use Rattle.books.proofs.Steps.{standing_as}
use Rattle.books.proofs.Tables.{MayGrow, MayStrike, may_grow, may_strike}
use Rattle.logs.specs.declared.lent.LogBook.{LogBook}
use Rattle.rows.specs.declared.row.Row.{Row}
use Rattle.rows.specs.Rows as rows
use Rattle.rows.specs.Rows.{row_of, row_at, state_of, Kept}
use Rattle.rows.proofs.Changes.{stood, tag_blank, grown_rows, grown_sound, struck_rows, struck_sound}
use Rattle.logs.specs.Logs.{extent_of, rows_of, log_state, Roomy, Leaves, Replays}
use Rattle.logs.proofs.Logging.{rows_extent, fits, rows_set, roomy_more}

pub extent_set : {K : Type 0} (entries : List (Edit K)) (i : ℕ) (e : Edit K) → extent_of (set entries i e) ≡ extent_of entries
extent_set entries i e = ap (λ (n : ℕ). 1 + min 255 (n / 2)) (length-set entries i e)

-- what was left alone is left alone by an edit more
pub leaves_more : {K : Type 0} {first : List (Edit K)} {before : ℕ} (entries : List (Edit K)) (used : ℕ) (e : Edit K) → Leaves first before entries used → Leaves first before (set entries used e) (used + 1)
leaves_more {K} {first} {before} entries used e l = record {
  longer = omega (arith, l.longer);
  kept = take-set-le before entries used e l.longer ∙ l.kept;
  unused = drop-set-lt (used + 1) entries used e (omega arith) ∙ sym (drop-drop 1 used entries) ∙ ap (drop 1) l.unused ∙ drop-drop 1 used first;
}

-- a log that replays goes on so
pub replays_more : {K : Type 0} {k : Figures K} (entries : List (Edit K)) (used : ℕ) (e : Edit K) → used < length entries
    → Ok tt ≡ verdict k (extent_of entries) (log_state k entries used) e
    → Done e (Ok tt) (log_state k entries used) (log_state k (set entries used e) (used + 1))
    → Replays k entries used → Replays k (set entries used e) (used + 1)
replays_more {K} {k} entries used e h v d r =
    let next = log_state k (set entries used e) (used + 1) in
    let more : map accepted (take (used + 1) (set entries used e)) ≡ map accepted (take used entries) ++ accepted e ∷ [] = ap (map accepted) (take_more_set entries used e h) ∙ map_push accepted (take used entries) e in
    record {
      fresh = r.fresh;
      new = r.new;
      course = subst (λ (n : ℕ). Course k n (map accepted (take (used + 1) (set entries used e))) r.fresh next) (sym (extent_set entries used e))
          (subst (λ (ns : List (Entry K)). Course k (extent_of entries) ns r.fresh next) (sym more) (course_more (accepted e) r.course (ap Some v) (subst (λ (x : Result (Unit {0}) Refused). Done e x (log_state k entries used) next) v d)));
    }

-- what is answered by rows that the edits come to is answered by the log
pub log_as : {K X : Type 0} (k : Figures K) (entries : List (Edit K)) (used : ℕ) {rs : List (Row K)} (answer : ℕ → (ℕ → State K) → X) → rs ≡ rows_of entries used
    → answer (rows.extent_of rs) (state_of k rs) ≡ answer (extent_of entries) (log_state k entries used)
log_as k entries used answer e =
    ap (λ rs. answer (rows.extent_of rs) (state_of k rs)) e ∙ ap (λ (n : ℕ). answer n (log_state k entries used)) (rows_extent entries used)

pub log_verdict : {K : Type 0} (k : Figures K) (b : LogBook K) (e : Edit K) {rs : List (Row K)} → rs ≡ rows_of b.entries.now b.used
    → verdict k (rows.extent_of rs) (state_of k rs) e ≡ verdict k (extent_of b.entries.now) (log_state k b.entries.now b.used) e
log_verdict k b e same = log_as k b.entries.now b.used (λ n s. verdict k n s e) same

-- what comes of an edit more that was accepted
pub record Logged {K : Type 0} (k : Figures K) (entries : List (Edit K)) (used : ℕ) (e : Edit K) : Type 0 where
  pub fits : used < length entries
  pub kept : Kept (rows_of (set entries used e) (used + 1))
  pub room : Roomy (set entries used e) (used + 1)
  pub done : Done e (Ok tt) (log_state k entries used) (log_state k (set entries used e) (used + 1))
  pub replays : Replays k entries used → Replays k (set entries used e) (used + 1)

-- an accepted growth
module _ {K : Type 0} (k : Figures K) (b : LogBook K) (tag : ℕ) (spur : Spur K) {rs : List (Row K)} (same : rs ≡ rows_of b.entries.now b.used) (answer : Ok tt ≡ verdict k (rows.extent_of rs) (state_of k rs) (Growth tag spur)) where
  may : MayGrow k (extent_of b.entries.now) (log_state k b.entries.now b.used) tag spur
  may = may_grow k (extent_of b.entries.now) (log_state k b.entries.now b.used) tag spur (answer ∙ log_verdict k b (Growth tag spur) same)

  row_ok : Ok tt ≡ verdict k (rows.extent_of (rows_of b.entries.now b.used)) (log_state k b.entries.now b.used) (Growth tag spur)
  row_ok = subst (λ (xs : List (Row K)). Ok tt ≡ verdict k (rows.extent_of xs) (state_of k xs) (Growth tag spur)) same answer

  was_blank : row_at (rows_of b.entries.now b.used) (tag - 2) ≡ Blank
  was_blank = tag_blank k (rows_of b.entries.now b.used) tag spur b.kept row_ok

  growth_fits : b.used < length b.entries.now
  growth_fits = fits b.entries.now b.used (Growth tag spur) may.low may.high b.room (omega (arith, ap left was_blank))

  growth_rows : rows_of (set b.entries.now b.used (Growth tag spur)) (b.used + 1) ≡ set (rows_of b.entries.now b.used) (tag - 2) (row_of (Standing spur))
  growth_rows = rows_set b.entries.now b.used (Growth tag spur) may.low may.high b.room growth_fits

  growth_done : Grown (log_state k b.entries.now b.used) (log_state k (set b.entries.now b.used (Growth tag spur)) (b.used + 1)) tag (Standing spur)
  growth_done = subst (λ (rs : List (Row K)). Grown (log_state k b.entries.now b.used) (state_of k rs) tag (Standing spur)) (sym growth_rows) (grown_rows k (rows_of b.entries.now b.used) tag spur b.kept row_ok)

  pub growth_logged : Logged k b.entries.now b.used (Growth tag spur)
  growth_logged = record {
    fits = growth_fits;
    kept = subst Kept (sym growth_rows) (grown_sound k (rows_of b.entries.now b.used) tag spur b.kept row_ok);
    room = roomy_more b.entries.now b.used (Growth tag spur) may.low may.high b.room growth_fits (ap left was_blank);
    done = growth_done;
    replays = replays_more b.entries.now b.used (Growth tag spur) growth_fits (answer ∙ log_verdict k b (Growth tag spur) same) growth_done;
  }

-- an accepted strike
module _ {K : Type 0} (k : Figures K) (b : LogBook K) (tag : ℕ) {rs : List (Row K)} (same : rs ≡ rows_of b.entries.now b.used) (answer : Ok tt ≡ verdict k (rows.extent_of rs) (state_of k rs) (Strike tag)) where
  may_out : MayStrike (extent_of b.entries.now) (log_state k b.entries.now b.used) tag
  may_out = may_strike k (extent_of b.entries.now) (log_state k b.entries.now b.used) tag (answer ∙ log_verdict k b (Strike tag) same)

  row_ok_out : Ok tt ≡ verdict k (rows.extent_of (rows_of b.entries.now b.used)) (log_state k b.entries.now b.used) (Strike tag)
  row_ok_out = subst (λ (xs : List (Row K)). Ok tt ≡ verdict k (rows.extent_of xs) (state_of k xs) (Strike tag)) same answer

  was_standing : left (row_at (rows_of b.entries.now b.used) (tag - 2)) ≡ 1
  was_standing =
      let a = standing_as (log_state k b.entries.now b.used tag) may_out.up in
      ap left (stood k (rows_of b.entries.now b.used) tag a.0 (λ e. omega (arith, may_out.low)) a.1).row

  strike_fits : b.used < length b.entries.now
  strike_fits = fits b.entries.now b.used (Strike tag) may_out.low may_out.high b.room (omega (arith, was_standing))

  strike_rows : rows_of (set b.entries.now b.used (Strike tag)) (b.used + 1) ≡ set (rows_of b.entries.now b.used) (tag - 2) (row_of Struck)
  strike_rows = rows_set b.entries.now b.used (Strike tag) may_out.low may_out.high b.room strike_fits

  strike_done : StruckOut (log_state k b.entries.now b.used) (log_state k (set b.entries.now b.used (Strike tag)) (b.used + 1)) tag
  strike_done = subst (λ (rs : List (Row K)). StruckOut (log_state k b.entries.now b.used) (state_of k rs) tag) (sym strike_rows) (struck_rows k (rows_of b.entries.now b.used) tag b.kept row_ok_out)

  pub strike_logged : Logged k b.entries.now b.used (Strike tag)
  strike_logged = record {
    fits = strike_fits;
    kept = subst Kept (sym strike_rows) (struck_sound k (rows_of b.entries.now b.used) tag b.kept row_ok_out);
    room = roomy_more b.entries.now b.used (Strike tag) may_out.low may_out.high b.room strike_fits was_standing;
    done = strike_done;
    replays = replays_more b.entries.now b.used (Strike tag) strike_fits (answer ∙ log_verdict k b (Strike tag) same) strike_done;
  }
