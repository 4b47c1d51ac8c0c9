-- Each kind that can be chosen is lawful.
use Rattle.work.specs.Kinds.{Lawful}
use Rattle.work.specs.ValuesLaws.{values_lawful}
use Rattle.commands.specs.CommandLaws.{commands_lawful}
use Rattle.listing.specs.Kinds.{chosen_kind}
use Rattle.listing.specs.declared.chosen.Chosen.{Chosen}
use Rattle.listing.specs.declared.chosen.Chosen.TheVariants.{Values, Commands}

pub chosen_lawful : (s : Chosen) → Lawful (chosen_kind s)
chosen_lawful Values = values_lawful
chosen_lawful Commands = commands_lawful
