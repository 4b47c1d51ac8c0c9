-- Laws of `Stores`.
use Rattle.std.specs.Prelude.{ℕ, List, [], ◌∷◌, ◌++◌}
use Rattle.std.proofs.Common.{sym, subst}
use Rattle.chip.specs.Stores.{Stores}

pub stores_joined : (xs ys : List (List ℕ)) (a b c : List ℕ) → Stores a xs b → Stores b ys c → Stores a (xs ++ ys) c
stores_joined [] ys a b c here more = subst (λ s. Stores s ys c) (sym here) more
stores_joined (x ∷ xs) ys a b c here more = (here.0, stores_joined xs ys x b c here.1 more)
