-- The stores of one call, spread over memories that are stored to from the first to the last. A memory has noted
-- `s` stores at the start of the call and `e` at its end.
--   made_by starts ends           how many stores the call made
--   counts_after starts ends n    how many stores each memory has noted after the first n of them
use Rattle.std.specs.Prelude.{ℕ, ◌+◌, ◌-◌, min, List, [], ◌∷◌}

abbrev pub made_by : List ℕ → List ℕ → ℕ
made_by [] ends = 0
made_by (s ∷ starts) [] = 0
made_by (s ∷ starts) (e ∷ ends) = (e - s) + made_by starts ends

abbrev pub counts_after : List ℕ → List ℕ → ℕ → List ℕ
counts_after [] ends n = []
counts_after (s ∷ starts) [] n = []
counts_after (s ∷ starts) (e ∷ ends) n = (s + min (e - s) n) ∷ counts_after starts ends (n - min (e - s) n)
