-- What a power cut leaves of a chip's words.
--   Kept words count found      `found` is a first part of `words` that holds at least the first `count` of them
--   Gapless before moments last    from `before` on, each of `moments` is the one before, or that with one word more, and the last is `last`
use Rattle.std.specs.Prelude.{◌≡◌, ℕ, ◌≤◌, ◌⊎◌, List, [], ◌∷◌, ◌++◌, length, take}

pub record Kept (words : List ℕ) (count : ℕ) (found : List ℕ) : Type 0 where
  pub first_part : found ≡ take (length found) words
  pub enough : count ≤ length found

abbrev pub Gapless : List ℕ → List (List ℕ) → List ℕ → Type 0
Gapless before [] last = before ≡ last
Gapless before (next ∷ rest) last = ((next ≡ before) ⊎ ((word : ℕ) × (next ≡ before ++ word ∷ []))) × Gapless next rest last
