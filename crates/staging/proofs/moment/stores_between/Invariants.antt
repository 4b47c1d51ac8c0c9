use Rattle.std.proofs.Common.{◌≡◌, ◌+◌, ◌≤◌, min}
use Rattle.staging.specs.Spread.{made_by}
use Rattle.staging.proofs.moment.stores_between.Given as goal

abbrev pub invariant-loop-start : goal.invariant-loop-start
invariant-loop-start l =
    (min 18446744073709551615 (l.sum + made_by l.start-iterator.a.rest.now l.start-iterator.b.rest.now) ≡ min 18446744073709551615 (made_by l.before l.after)) × (l.sum ≤ 18446744073709551615)
