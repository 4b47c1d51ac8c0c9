-- The number of each refusal, as it is printed.
use Rattle.std.specs.Prelude.{ℕ}
use Rattle.chip.specs.declared.refusal.Refusal.{Refusal}
use Rattle.chip.specs.declared.refusal.Refusal.TheVariants.{UnfitMemory, PairTooLarge, FirstNotFull, BlankWord, ChipFull, NoSuchWord}

abbrev pub number_of : Refusal → ℕ
number_of UnfitMemory = 1
number_of PairTooLarge = 2
number_of FirstNotFull = 3
number_of BlankWord = 4
number_of ChipFull = 5
number_of NoSuchWord = 6
