-- The names of the kinds of work.
--   name_of kind              the kind's name
--   NamesWork text result     the kind that a text names, or none does
use Rattle.std.specs.Prelude.{◌≡◌, ℕ, List, Result, MatchResult, codes}
use Rattle.listing.specs.declared.chosen.Chosen.{Chosen}
use Rattle.listing.specs.declared.chosen.Chosen.TheVariants.{Values, Commands}
use Rattle.listing.specs.declared.chosen.UnknownWork.{UnknownWork}

abbrev pub name_of : Chosen → List ℕ
name_of Values = codes "values"
name_of Commands = codes "commands"

abbrev pub NamesWork : List ℕ → Result Chosen UnknownWork → Type 0
NamesWork text result =
    MatchResult result (λ kind. text ≡ name_of kind) (λ _. (kind : Chosen) → text ≡ name_of kind → ⊥)
