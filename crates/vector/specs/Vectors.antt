-- Vectors of log places, one place for each chip, as lists of eight.
--   joined a b       at each chip the larger of the two places
--   reached_by a b   no place of `a` is larger than the one of `b` at the same chip: `a` is reached by `b`
--   LeastAbove a b c    `c` is above both, and below every vector that is above both
--   zeros            the vector of no place
use Rattle.std.specs.Prelude.{◌≡◌, ℕ, max, Bool, true, false, ◌&&◌, List, [], ◌∷◌, length, nat_le}

abbrev pub zeros : List ℕ
zeros = 0 ∷ 0 ∷ 0 ∷ 0 ∷ 0 ∷ 0 ∷ 0 ∷ 0 ∷ []

abbrev pub joined : List ℕ → List ℕ → List ℕ
joined [] bs = []
joined (a ∷ rest) [] = []
joined (a ∷ rest) (b ∷ bs) = max a b ∷ joined rest bs

abbrev pub reached_by : List ℕ → List ℕ → Bool
reached_by [] bs = true
reached_by (a ∷ rest) [] = false
reached_by (a ∷ rest) (b ∷ bs) = nat_le a b && reached_by rest bs

-- `c` is above both `a` and `b`, and below every vector that is: it holds what either asks for and nothing more
pub record LeastAbove (a b c : List ℕ) : Type 0 where
  pub first : reached_by a c ≡ true
  pub second : reached_by b c ≡ true
  pub least : (d : List ℕ) → length d ≡ length c → reached_by a d ≡ true → reached_by b d ≡ true → reached_by c d ≡ true
