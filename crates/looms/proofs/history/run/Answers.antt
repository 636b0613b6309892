use Rattle.std.proofs.Common.{◌≡◌, ℕ, ◌+◌, ◌-◌, ◌<◌, Bool, false, List, [], ◌∷◌, ◌++◌, Some, length, get_or, take, set, sym, refl, ap, ◌∙◌, subst, rules, arith}
use Rattle.std.proofs.lemmas.List.{take_all, take_more_set}
use Rattle.books.specs.declared.edits.Entry.{Entry}
use Rattle.books.specs.Edits.{Course, nothing, Wrote, end, accepted_in}
use Rattle.books.specs.States.{lefts}
use Rattle.looms.specs.declared.calls.Noted.{Noted}
use Rattle.looms.specs.Histories.{edit_of, edits_of, releases, released_after, count_of, Right}
use Rattle.looms.specs.Lists.{released_in, book_in, count_in, is_figure, any_figure, MemoryLeft, AllRight}
use Rattle.looms.proofs.Goes.{released_more}
use Rattle.looms.proofs.Listed.{edits_on, count_on, led_from, course_on, wrote_on, right_none, right_more, memory_more, figure_more, calls_kept}
use Rattle.looms.proofs.history.run.Goals as goal

pub loop-note-init : goal.loop-note-init
unfolding released_after edits_of
loop-note-init g c =
    let k = g.B.Kind.Length.figures in
    let b = c.open.ensures.book in
    record {
      calls = refl;
      size = ap g.B.Book.extent b;
      stage = refl;
      course = nothing (λ t. ap (λ x. g.B.Book.state x t) b);
      wrote = end b;
      left_alone = λ a h. subst (g.B.Book.leaves a) (sym b) h;
      count = (c.open.ensures.count, omega (arith, c.open.ensures.count, c.open.ensures.few, ap (λ x. lefts (g.B.Book.state x) (g.B.Book.extent c.args.book - 1)) b));
      right = right_none k (g.B.Book.extent c.args.book) (length c.args.memory.now) (g.B.Book.state c.args.book);
      memory = refl;
    }

pub loop-note-preserved : goal.loop-note-preserved
loop-note-preserved g c =
    let k = g.B.Kind.Length.figures in
    let most = g.B.Book.extent c.args.book in
    let first = g.B.Book.state c.args.book in
    let room = length c.args.memory.now in
    let xs = c.loop-note.notes in
    let i = c.loop-note.note-index in
    let done = take i xs in
    let was = c.loop-note.invariant in
    let loom = c.loop-note.loom in
    let next = c.step-next.result.0 in
    let a = c.step-next.result.1 in
    let call = (get_or xs i c.note-item.result).call in
    let y : Noted g.row.B-Kind.Denot = record { call = call; answer = Some a } in
    let within : i < length xs = search rules in
    let more : take (i + 1) (set xs i y) ≡ done ++ y ∷ [] = take_more_set xs i y within in
    let does = c.step-next.ensures.does in
    let state = g.B.Book.state (book_in loom) in
    let then_state = g.B.Book.state (book_in next) in
    let edits = ap edits_of more ∙ edits_on done call a in
    let exact = does.exact (rw was.size was.count.1) in
    record {
      calls = calls_kept xs i c.note-item.result (Some a) within ∙ was.calls;
      size = does.size ∙ was.size;
      stage = does.stage ∙ ap (λ (r : Bool). releases r call) was.stage ∙ sym (ap (released_after false) more ∙ released_more false done y);
      course = subst (λ (es : List (Entry g.row.B-Kind.Denot)). Course k most es first then_state) (sym edits) (course_on was.course (rw was.size at does.course));
      wrote = subst (λ (es : List (Entry g.row.B-Kind.Denot)). Wrote g.B.Book.writes c.args.book es (book_in next)) (sym edits) (wrote_on was.wrote does.wrote);
      left_alone = λ b h. does.left_alone b (was.left_alone b h);
      count = (exact.0 ∙ ap (λ (m : ℕ). m + accepted_in (edit_of call (Some a))) was.count.0 ∙ sym (ap count_of more ∙ count_on done call a), rw (does.size, was.size) at exact.1);
      right =
          let sized = subst (λ (n : ℕ). Right k n (length c.loop-note.memory) (released_in loom) state (count_in loom) call a) was.size does.right in
          let roomy = subst (λ (r : ℕ). Right k most r (released_in loom) state (count_in loom) call a) c.loop-note.auto.memory sized in
          let staged = subst (λ (r : Bool). Right k most room r state (count_in loom) call a) was.stage roomy in
          let counted = subst (λ (n : ℕ). Right k most room (released_after false done) state n call a) was.count.0 staged in
          subst (AllRight k most room first) (sym more) (right_more k most room first state done call a was.course counted was.right);
      memory =
          let here = subst (λ (n : ℕ). MemoryLeft k n (is_figure a) c.loop-note.memory c.step-next.new.memory) was.size c.step-next.ensures.memory in
          subst (λ (b : Bool). MemoryLeft k most b c.args.memory.now c.step-next.new.memory) (sym (ap any_figure more ∙ figure_more k most room done call a))
          (memory_more k most room (any_figure done) (is_figure a) c.args.memory.now c.loop-note.memory c.step-next.new.memory was.memory here);
    }

pub returns : goal.returns
returns g c =
    let k = g.B.Kind.Length.figures in
    let most = g.B.Book.extent c.args.book in
    let first = g.B.Book.state c.args.book in
    let loom = c.loop-note.loom in
    let was = c.loop-note.invariant in
    let all : take c.loop-note.note-index c.loop-note.notes ≡ c.loop-note.notes = search (rules, take_all) in
    let course = subst (λ (ns : List (Noted g.row.B-Kind.Denot)). Course k most (edits_of ns) first (g.B.Book.state (book_in loom))) all was.course in
    let stage = was.stage ∙ ap (released_after false) all in
    let count = was.count.0 ∙ ap count_of all in
    record {
      calls = was.calls;
      size = was.size;
      stage = stage;
      course = course;
      wrote = subst (λ (ns : List (Noted g.row.B-Kind.Denot)). Wrote g.B.Book.writes c.args.book (edits_of ns) (book_in loom)) all was.wrote;
      leaves = was.left_alone;
      count = (count, was.count.1);
      right = subst (AllRight k most (length c.args.memory.now) first) all was.right;
      led = λ new. led_from c.loop-note.notes new course stage count was.count.1;
      memory = subst (λ (ns : List (Noted g.row.B-Kind.Denot)). MemoryLeft k most (any_figure ns) c.args.memory.now c.loop-note.memory) all was.memory;
    }
