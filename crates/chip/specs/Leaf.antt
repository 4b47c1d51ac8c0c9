-- A chip over one memory, at the moments between two stores.
--   LeafPasses holds through sound found m moments n
--     the memory went from `m` to `n` store by store; after each store a mount accepts it and finds the next of
--     `moments`, each of which is the one before or that with one word more
use Rattle.std.specs.Prelude.{◌≡◌, ℕ, Bool, true, List, map}
use Rattle.std.specs.List.{AllByRecursion}
use Rattle.chip.specs.Cut.{Gapless}

abbrev pub LeafPasses : {M : Type 0} → (M → List ℕ) → (M → List (List ℕ) → M → Type 0) → (List ℕ → Bool) → (List ℕ → List ℕ) → M → List (List ℕ) → M → Type 0
LeafPasses holds through sound found m moments n =
    (contents : List (List ℕ)) × through m contents n × AllByRecursion (λ c. sound c ≡ true) contents × (moments ≡ map found contents) × Gapless (found (holds m)) moments (found (holds n))
