-- From what the reader found to the answer that the rules name.
use Rattle.std.proofs.Common.{◌≡◌, ℕ, List, [], ◌∷◌, ◌++◌, length, drop, sym, refl, ap, ◌∙◌}
use Rattle.std.proofs.lemmas.List.Prefix.{front_rest}
use Rattle.std.proofs.lemmas.List.{append_assoc}
use Rattle.slips.specs.declared.rows.Values.{Values}
use Rattle.slips.specs.Format.{names, names_line, row_text, row_line}

pub names_length : length names_line ≡ 35
unfolding names
names_length = refl

-- the names, and what follows their line
pub names_split : (slip line after : List ℕ) → slip ≡ line ++ 10 ∷ after → line ≡ names → slip ≡ names_line ++ drop (length names_line) slip
names_split slip line after e n =
    let whole : slip ≡ names_line ++ after = e ∙ ap (λ (t : List ℕ). t ++ 10 ∷ after) n ∙ sym (append_assoc names (10 ∷ []) after) in
    whole ∙ ap (λ (t : List ℕ). names_line ++ t) (sym (front_rest slip names_line after whole))

-- a row's text and its newline are its line
pub line_of : (v : Values) (rest text after : List ℕ) → rest ≡ text ++ 10 ∷ after → text ≡ row_text v → rest ≡ row_line v ++ after
line_of v rest text after e t =
    e ∙ ap (λ (x : List ℕ). x ++ 10 ∷ after) t ∙ sym (append_assoc (row_text v) (10 ∷ []) after)
