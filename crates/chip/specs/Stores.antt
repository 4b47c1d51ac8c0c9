-- What a word memory held, store by store.
--   Stores before moments last   from `before` on, each of `moments` is the one before with one word stored, and the last is `last`
use Rattle.std.specs.Prelude.{◌≡◌, ℕ, List, [], ◌∷◌, slice_set}

abbrev pub Stores : List ℕ → List (List ℕ) → List ℕ → Type 0
Stores before [] last = before ≡ last
Stores before (next ∷ rest) last = ((place : ℕ) × (word : ℕ) × (next ≡ slice_set before place word)) × Stores next rest last
