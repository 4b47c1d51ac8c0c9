-- Where one list of counts ends, no store is left.
use Rattle.std.proofs.Common.{◌≡◌, ℕ, ◌⊎◌, List, [], ◌∷◌, length, refl, arith}
use Rattle.staging.specs.Spread.{made_by, counts_after}

pub counts_none : (starts ends : List ℕ) (n : ℕ) → (length starts ≡ 0) ⊎ (length ends ≡ 0) → counts_after starts ends n ≡ []
counts_none [] ends n none = refl
counts_none (s ∷ starts) [] n none = refl
counts_none (s ∷ starts) (e ∷ ends) n none =
    let never : ⊥ = omega arith in
    absurd never

pub made_none : (starts ends : List ℕ) → (length starts ≡ 0) ⊎ (length ends ≡ 0) → made_by starts ends ≡ 0
made_none [] ends none = refl
made_none (s ∷ starts) [] none = refl
made_none (s ∷ starts) (e ∷ ends) none =
    let never : ⊥ = omega arith in
    absurd never
