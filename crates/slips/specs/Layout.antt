-- Where fields stand.
use Rattle.std.specs.Prelude.{◌≡◌, ℕ, ◌+◌, List, [], ◌∷◌, length, take, drop}
use Rattle.slips.specs.declared.rows.Field.{Field}

-- bytes, and where they begin
pub record Text : Type 0 where
  pub bytes : List ℕ
  pub place : ℕ

abbrev pub text : List ℕ → ℕ → Text
text bs i = record { bytes = bs; place = i }

-- a field handed out, by the bytes that it refers to
abbrev pub field_seen : Field → Text
field_seen f = text f.bytes.now f.place

-- a part of the slip: its bytes stand there from its place on
abbrev pub Part : List ℕ → Text → Type 0
Part slip t = take (length t.bytes) (drop t.place slip) ≡ t.bytes

-- fields that stand one after another, a comma between each and the next, the first at byte i
abbrev pub laid : ℕ → List (List ℕ) → List Text
laid i [] = []
laid i (f ∷ fs) = text f i ∷ laid (i + length f + 1) fs
