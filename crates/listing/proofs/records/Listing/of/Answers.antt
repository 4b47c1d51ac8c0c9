use Rattle.std.proofs.Common.{vec_items, arith}
use Rattle.listing.proofs.ListingLaws.{listed_on}
use Rattle.listing.proofs.records.Listing.of.Goals as goal

pub loop-record-smaller : goal.loop-record-smaller
loop-record-smaller c = omega (arith, c.in-Ok.ensures.stands.0, c.in-Ok.ensures.behind)

pub loop-record-preserved : goal.loop-record-preserved
loop-record-preserved c =
    listed_on c.args.reading c.args.words.now c.loop-record.start (vec_items c.loop-record.records) (vec_items c.push.new.self) c.in-Ok.record c.in_ok-push-in-Ok.ensures.items c.in-Ok.ensures.stands c.loop-record.invariant
