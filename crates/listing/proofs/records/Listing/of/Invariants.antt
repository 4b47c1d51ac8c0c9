use Rattle.std.proofs.Common.{◌-◌, List, ◌++◌, length, vec_items}
use Rattle.logs.specs.declared.record.Record.{Record}
use Rattle.listing.specs.Listings.{Listed}
use Rattle.listing.specs.declared.records.Ending.{Ending}
use Rattle.listing.proofs.records.Listing.of.Given as goal

-- what is listed from the start on stands behind what is listed already
abbrev pub invariant-loop-record : goal.invariant-loop-record
invariant-loop-record l =
    (records : List Record) (ending : Ending) → Listed l.reading l.words l.start records ending → Listed l.reading l.words 0 (vec_items l.records ++ records) ending

abbrev pub decreases-loop-record : goal.decreases-loop-record
decreases-loop-record l = length l.words - l.start
