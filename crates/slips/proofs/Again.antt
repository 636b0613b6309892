-- A row that was handed out of a slip is written as it stands there.
use Rattle.std.proofs.Common.{◌≡◌, ℕ, ◌≤◌, List, length, take, drop, Ok, Err, Result, sym, refl, ap, ◌∙◌, arith, MatchResult}
use Rattle.std.proofs.ByRecursion.{All-get_or}
use Rattle.std.proofs.lemmas.List.{take_at}
use Rattle.slips.specs.declared.faults.WriteFault.{WriteFault}
use Rattle.slips.specs.declared.faults.WriteFault.TheVariants.{ShortBuffer}
use Rattle.slips.specs.declared.rows.Letter.{Letter}
use Rattle.slips.specs.declared.rows.Letter.TheVariants.{Strike}
use Rattle.slips.specs.declared.rows.Row.{Row}
use Rattle.slips.specs.declared.rows.Values.{Values}
use Rattle.slips.specs.Format.{most, letter_byte, numbers, Proper, row_line}
use Rattle.slips.specs.Seen.{row_seen, Handed}
use Rattle.slips.specs.Writing as writing
use Rattle.slips.specs.Writing.{RowOf, BadRow, Unwritten, Written, SameBytes}
use Rattle.slips.proofs.Puts.{values_of}
use Rattle.slips.proofs.Single.{letter_once, zero_at}

-- a letter and numbers are those of one row
row_once : (v w : Values) → RowOf (letter_byte v.letter) (numbers v) w → w ≡ v
unfolding values_of
row_once v w h =
    let same : values_of w.letter (numbers w) ≡ values_of v.letter (numbers v) =
    ap (λ (l : Letter). values_of l (numbers w)) (sym (letter_once v.letter w.letter h.letter)) ∙ ap (values_of v.letter) (sym h.five) in
    same

-- a proper row is not refused for what it says
not_bad : (v : Values) (f : WriteFault) → Proper v → BadRow (letter_byte v.letter) (numbers v) f → ⊥
not_bad v f p (writing.bad_letter n d) = n v.letter refl
not_bad v f p (writing.too_large l e k h before big d) = omega (arith, All-get_or (λ n. n ≤ most) (numbers v) k 0 h p.0)
not_bad v f p (writing.not_zero e small k first d) =
    first.not_zero (zero_at (numbers v) k first.after_tag first.within (p.1 (letter_once v.letter Strike e)))

pub written_same : (r : Row) (slip before after : List ℕ) (res : Result ℕ WriteFault) → Handed slip (row_seen r)
    → MatchResult res (λ n. Written (letter_byte r.values.letter) (numbers r.values) before after n) (λ f. Unwritten (letter_byte r.values.letter) (numbers r.values) (length before) f × (after ≡ before))
    → SameBytes r slip res after
written_same r slip before after (Ok n) h w =
    let v = r.values in
    let same : w.row ≡ v = row_once v w.row w.given in
    let long : n ≡ length (row_line v) = w.long ∙ ap (λ (x : Values). length (row_line x)) same in
    ap (take n) w.bytes ∙ take_at (row_line w.row) (drop n before) n (sym w.long) ∙ ap row_line same
    ∙ sym (ap (λ (k : ℕ). take k (drop r.letter.place slip)) long ∙ h.written)
written_same r slip before after (Err f) h w = refused f w.0
  where
    refused : (g : WriteFault) → Unwritten (letter_byte r.values.letter) (numbers r.values) (length before) g → g ≡ ShortBuffer
    refused g (writing.bad_row b) = absurd (not_bad r.values g h.proper b)
    refused g (writing.short_buffer v e p low d) = d
