-- The kind of work that is chosen.
use Rattle.work.specs.Kinds.{Kind}
use Rattle.work.specs.Values.{values}
use Rattle.commands.specs.Commands.{commands}
use Rattle.listing.specs.declared.chosen.Chosen.{Chosen}
use Rattle.listing.specs.declared.chosen.Chosen.TheVariants.{Values, Commands}

abbrev pub chosen_kind : Chosen → Kind
chosen_kind Values = values
chosen_kind Commands = commands
