-- One of two kinds of chip: what it means is what the chip inside means.
--   EitherPasses ..         the chip inside passes its own moments and stays of its kind
use Rattle.std.specs.Prelude.{ℕ, List, ◌++◌}
use Rattle.either.specs.declared.Either.{Either}
use Rattle.either.specs.declared.Either.TheVariants.{Left, Right}

module _ {A B : Type 0} (passes_left : A → List (List ℕ) → A → Type 0) (passes_right : B → List (List ℕ) → B → Type 0) where
  abbrev pub EitherPasses : Either A B → List (List ℕ) → Either A B → Type 0
  EitherPasses (Left a) ls (Left b) = passes_left a ls b
  EitherPasses (Left a) ls (Right b) = ⊥
  EitherPasses (Right a) ls (Left b) = ⊥
  EitherPasses (Right a) ls (Right b) = passes_right a ls b

  -- its moments join where those of both kinds do
  pub either_joined : ((a b c : A) (xs ys : List (List ℕ)) → passes_left a xs b → passes_left b ys c → passes_left a (xs ++ ys) c) → ((a b c : B) (xs ys : List (List ℕ)) → passes_right a xs b → passes_right b ys c → passes_right a (xs ++ ys) c) → (a b c : Either A B) (xs ys : List (List ℕ)) → EitherPasses a xs b → EitherPasses b ys c → EitherPasses a (xs ++ ys) c
  either_joined joins_left joins_right (Left a) (Left b) (Left c) xs ys here more = joins_left a b c xs ys here more
  either_joined joins_left joins_right (Left a) (Left b) (Right c) xs ys here more = absurd more
  either_joined joins_left joins_right (Left a) (Right b) c xs ys here more = absurd here
  either_joined joins_left joins_right (Right a) (Left b) c xs ys here more = absurd here
  either_joined joins_left joins_right (Right a) (Right b) (Left c) xs ys here more = absurd more
  either_joined joins_left joins_right (Right a) (Right b) (Right c) xs ys here more = joins_right a b c xs ys here more
