-- Laws of `Gapless` and `LeafPasses`.
use Rattle.std.specs.Prelude.{◌≡◌, ℕ, Bool, true, List, [], ◌∷◌, ◌++◌, map}
use Rattle.std.proofs.Common.{sym, ap, subst, ◌∙◌}
use Rattle.std.proofs.ByRecursion.{All-append}
use Rattle.std.proofs.lemmas.List.{map-append}
use Rattle.chip.specs.Cut.{Gapless}
use Rattle.chip.specs.Leaf.{LeafPasses}

pub gapless_joined : (xs ys : List (List ℕ)) (a b c : List ℕ) → Gapless a xs b → Gapless b ys c → Gapless a (xs ++ ys) c
gapless_joined [] ys a b c here more = subst (λ s. Gapless s ys c) (sym here) more
gapless_joined (x ∷ xs) ys a b c here more = (here.0, gapless_joined xs ys x b c here.1 more)

pub leaf_joined : {M : Type 0} (holds : M → List ℕ) (through : M → List (List ℕ) → M → Type 0) (sound : List ℕ → Bool) (found : List ℕ → List ℕ) → ((a b c : M) (xs ys : List (List ℕ)) → through a xs b → through b ys c → through a (xs ++ ys) c) → (a b c : M) (xs ys : List (List ℕ)) → LeafPasses holds through sound found a xs b → LeafPasses holds through sound found b ys c → LeafPasses holds through sound found a (xs ++ ys) c
leaf_joined holds through sound found joins a b c xs ys here more =
    (here.0 ++ more.0, joins a b c here.0 more.0 here.1 more.1, All-append (λ m. sound m ≡ true) here.0 more.0 here.2 more.2, ap (λ l. l ++ ys) here.3 ∙ ap (λ l. map found here.0 ++ l) more.3 ∙ sym (map-append found here.0 more.0), gapless_joined xs ys (found (holds a)) (found (holds b)) (found (holds c)) here.4 more.4)
