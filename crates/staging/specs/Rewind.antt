-- What a traced memory held before its last stores.
--   note_of place before    the note of a store at `place`, where `before` stood
--   undone words notes      `words` with the noted stores undone, the last of them first
--   rewound words notes n   what it held after the first n of the noted stores
--   noted_moments words notes            what it held after each of the noted stores
--   Noted words notes moments words' notes'
--                           from `words` on it held each of `moments`, the last of them `words'`, and noted each store
use Rattle.std.specs.Prelude.{◌≡◌, ℕ, List, [], ◌∷◌, ◌++◌, drop, slice_set}
use Rattle.staging.specs.declared.traced.Note.{Note}

abbrev pub note_of : ℕ → ℕ → Note
note_of place before = record { place = place; before = before }

abbrev pub undone : List ℕ → List Note → List ℕ
undone words [] = words
undone words (note ∷ notes) = slice_set (undone words notes) note.place note.before

abbrev pub rewound : List ℕ → List Note → ℕ → List ℕ
rewound words notes n = undone words (drop n notes)

abbrev pub noted_moments : List ℕ → List Note → List (List ℕ)
noted_moments words [] = []
noted_moments words (note ∷ notes) = undone words notes ∷ noted_moments words notes

abbrev pub Noted : List ℕ → List Note → List (List ℕ) → List ℕ → List Note → Type 0
Noted words notes moments words' notes' =
    (more : List Note) × (notes' ≡ notes ++ more) × (words ≡ undone words' more) × (moments ≡ noted_moments words' more)
