use Rattle.std.proofs.Common.{◌≡◌, ℕ, ◌<◌, List, [], Some, length, get_or, take, sym, refl, ap, ◌∙◌, subst, rules}
use Rattle.std.proofs.lemmas.List.{take_all}
use Rattle.books.specs.declared.edits.Entry.{Entry}
use Rattle.books.specs.Edits.{Course, nothing, verdict, Done, Wrote, end}
use Rattle.books.proofs.Counts.{course_less, course_few}
use Rattle.books.proofs.Courses.{course_more, course_led, course_answered, course_once, wrote_more}
use Rattle.books.proofs.Runs.{answered_as, edits_kept, led_new, noted_more}
use Rattle.books.proofs.applying.apply.Goals as goal

pub loop-entry-init : goal.loop-entry-init
loop-entry-init g c = record { edits = refl; size = refl; course = nothing (λ t. refl); leaves = λ a h. h; wrote = end refl }

pub loop-entry-preserved : goal.loop-entry-preserved
loop-entry-preserved g c =
    let k = g.B.Kind.Length.figures in
    let n = g.B.Book.extent c.args.book.now in
    let xs = c.loop-entry.entries in
    let i = c.loop-entry.entry-index in
    let y : Entry g.row.B-Kind.Denot = record { edit = (get_or xs i c.entry-item.result).edit; answer = Some c.attempt-answer.result } in
    let within : i < length xs = search rules in
    let done = c.attempt-answer.ensures in
    let s = g.B.Book.state c.loop-entry.book in
    let t = g.B.Book.state c.attempt-answer.new.book in
    let answer = done.answer ∙ ap (λ (m : ℕ). verdict k m s y.edit) c.loop-entry.invariant.size in
    -- whatever the body noted, that it is the answer has to be found (`search`): so an edit of the body is judged by what it notes
    record {
      edits = edits_kept xs i c.entry-item.result _ within ∙ c.loop-entry.invariant.edits;
      size = done.size ∙ c.loop-entry.invariant.size;
      course = subst (λ (es : List (Entry g.row.B-Kind.Denot)). Course k n es (g.B.Book.state c.args.book.now) t) (sym (noted_more xs i y _ within (search rules)))
          (course_more y c.loop-entry.invariant.course (ap Some answer) (subst (λ r. Done y.edit r s t) answer done.done));
      leaves = λ a h. done.leaves a (c.loop-entry.invariant.leaves a h);
      wrote = subst (λ (es : List (Entry g.row.B-Kind.Denot)). Wrote g.B.Book.writes c.args.book.now es c.attempt-answer.new.book) (sym (noted_more xs i y _ within (search rules)))
          (wrote_more y.edit c.attempt-answer.result c.loop-entry.invariant.wrote done.writes done.refused);
    }

pub returns : goal.returns
returns g c =
    let k = g.B.Kind.Length.figures in
    let n = g.B.Book.extent c.args.book.now in
    let xs = c.loop-entry.entries in
    let all : take c.loop-entry.entry-index xs ≡ xs = search (rules, take_all) in
    let s = g.B.Book.state c.args.book.now in
    let t = g.B.Book.state c.loop-entry.book in
    let course : Course k n xs s t = subst (λ (es : List (Entry g.row.B-Kind.Denot)). Course k n es s t) all c.loop-entry.invariant.course in
    record {
      edits = c.loop-entry.invariant.edits;
      size = c.loop-entry.invariant.size;
      led = λ h led. course_led h course led;
      answers = λ h led. answered_as n h (course_answered h course led);
      new = λ new. let led = led_new s new in (course_led [] course led, answered_as n [] (course_answered [] course led));
      called = λ h led. course_answered h course led;
      course = course;
      leaves = c.loop-entry.invariant.leaves;
      wrote = subst (λ (es : List (Entry g.row.B-Kind.Denot)). Wrote g.B.Book.writes c.args.book.now es c.loop-entry.book) all c.loop-entry.invariant.wrote;
      spent = course_less course;
      few = course_few course;
      agree = λ ns u v e same other. course_once course other e same;
    }
