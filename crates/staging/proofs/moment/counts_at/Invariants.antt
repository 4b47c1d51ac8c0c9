use Rattle.std.proofs.Common.{◌≡◌, ◌++◌, vec_items}
use Rattle.staging.specs.Spread.{counts_after}
use Rattle.staging.proofs.moment.counts_at.Given as goal

abbrev pub invariant-loop-start : goal.invariant-loop-start
invariant-loop-start l =
    vec_items l.counts ++ counts_after l.start-iterator.a.rest.now l.start-iterator.b.rest.now l.left ≡ counts_after l.before l.after l.stores
