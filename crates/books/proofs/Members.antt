-- What is among the elements of a list with one more at its end.
use Rattle.std.proofs.Common.{◌≡◌, ◌⊎◌, List, [], ◌∷◌, ◌++◌, inl, inr}
use Rattle.books.specs.Edits.{Among, here, there}

pub among_more : {A : Type 0} {x : A} {xs : List A} (y : A) → Among x xs → Among x (xs ++ y ∷ [])
among_more y (here e) = here e
among_more y (there h) = there (among_more y h)

pub among_end : {A : Type 0} {x y : A} (xs : List A) → x ≡ y → Among x (xs ++ y ∷ [])
among_end [] e = here e
among_end (z ∷ xs) e = there (among_end xs e)

pub among_cases : {A : Type 0} {x : A} (xs : List A) (y : A) → Among x (xs ++ y ∷ []) → Among x xs ⊎ (x ≡ y)
among_cases [] y (here e) = inr e
among_cases [] y (there h) = inl h
among_cases (z ∷ xs) y (here e) = inl (here e)
among_cases (z ∷ xs) y (there h) = elim (among_cases xs y h) [ inl m ↦ inl (there m) | inr e ↦ inr e ]
