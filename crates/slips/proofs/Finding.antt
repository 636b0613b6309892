-- A row as it is handed out: its fields where the slip has them.
use Rattle.std.proofs.Common.{◌≡◌, ℕ, ◌+◌, List, [], ◌∷◌, ◌++◌, map, length, take, drop, Ok, Err, decimal, Result, sym, refl, ap, ◌∙◌, subst, arith, MatchResult, IsErrAnd}
use Rattle.std.specs.List.{AllByRecursion}
use Rattle.std.proofs.lemmas.List.Prefix.{front_rest}
use Rattle.std.proofs.lemmas.List.{append_assoc, take_at, drop_at, drop-drop}
use Rattle.slips.specs.declared.rows.Values.{Values}
use Rattle.slips.specs.Format.{letter_byte, numbers, Proper, commaed, row_text, row_line, names_line}
use Rattle.slips.specs.Layout.{Part, laid}
use Rattle.slips.specs.Seen.{found, Answer, Handed, HandsOut, RowsAnswer, ends, faulty, row, Answers, too_long, no_names, first, later}

-- an error that was mapped, and what was so of it before
pub mapped_err : {T E D : Type 0} (r : Result T E) (s : Result T D) (d : D) → s ≡ Err d → (P : T → Type 0) (Q : E → Type 0) (R : E → D → Type 0)
    → MatchResult r (λ x. s ≡ Ok x) (λ e. IsErrAnd s (R e)) → MatchResult r P Q → (e : E) × Q e × R e d
mapped_err {T} {E} {D} (Ok x) s d was P Q R h told = let z : ◌≡◌ {A = ℕ} 0 1 = cc in absurd (omega arith)
mapped_err {T} {E} {D} (Err e) s d was P Q R h told = (e, told, subst (λ (t : Result T D). IsErrAnd t (R e)) was h)

-- fields that are laid where the slip has their texts are parts of it
laid_parts : (slip : List ℕ) (i : ℕ) (f : List ℕ) (fs : List (List ℕ)) (rest : List ℕ) → drop i slip ≡ f ++ (commaed fs ++ rest) → AllByRecursion (Part slip) (laid i (f ∷ fs))
laid_parts slip i f [] rest e = (ap (take (length f)) e ∙ take_at f rest (length f) refl, tt)
laid_parts slip i f (g ∷ gs) rest e =
    let tail : (commaed (g ∷ gs)) ++ rest ≡ 44 ∷ (g ++ (commaed gs ++ rest)) = ap (λ (t : List ℕ). 44 ∷ t) (append_assoc g (commaed gs) rest) in
    let next : drop (i + length f + 1) slip ≡ g ++ (commaed gs ++ rest) =
    ap (λ (k : ℕ). drop k slip) (omega arith) ∙ sym (drop-drop (length f + 1) i slip) ∙ ap (drop (length f + 1)) e
    ∙ sym (drop-drop 1 (length f) (f ++ (commaed (g ∷ gs) ++ rest))) ∙ ap (drop 1) (drop_at f (commaed (g ∷ gs) ++ rest) (length f) refl ∙ tail) in
    (ap (take (length f)) e ∙ take_at f (commaed (g ∷ gs) ++ rest) (length f) refl, laid_parts slip (i + length f + 1) g gs rest next)

found_handed : (slip : List ℕ) (b l : ℕ) (v : Values) (after : List ℕ) → Proper v → drop b slip ≡ row_line v ++ after → Handed slip (found b l v)
found_handed slip b l v after p e = record {
  proper = p;
  written = ap (take (length (row_line v))) e ∙ take_at (row_line v) after (length (row_line v)) refl;
  parts = laid_parts slip b (letter_byte v.letter ∷ []) (map decimal (numbers v)) (10 ∷ after) (e ∙ append_assoc (row_text v) (10 ∷ []) after);
}

rows_hand : (slip : List ℕ) (b l : ℕ) (a : Answer) → RowsAnswer (drop b slip) b l a → HandsOut slip a
rows_hand slip b l a (ends e d) = subst (HandsOut slip) (sym d) tt
rows_hand slip b l a (faulty f k d) = subst (HandsOut slip) (sym d) tt
rows_hand slip b l a (row v after p e d) = subst (HandsOut slip) (sym d) (found_handed slip b l v after p e)

pub answers_hand : (slip : List ℕ) (b l : ℕ) (a : Answer) → Answers slip b l a → HandsOut slip a
answers_hand slip b l a (too_long h d) = subst (HandsOut slip) (sym d) tt
answers_hand slip b l a (no_names c h o n d) = subst (HandsOut slip) (sym d) tt
answers_hand slip b l a (first rest h o e k) =
    rows_hand slip (length names_line) 2 a (subst (λ (r : List ℕ). RowsAnswer r (length names_line) 2 a) (sym (front_rest slip names_line rest e)) k)
answers_hand slip b l a (later h o k) = rows_hand slip b l a k
