use Rattle.std.proofs.Common.{◌≡◌, ◌-◌, length, take, vec_items}
use Rattle.listing.specs.Kinds.{chosen_kind}
use Rattle.listing.proofs.judgement.names.Given as goal

abbrev pub invariant-loop-name : goal.invariant-loop-name
invariant-loop-name l = vec_items l.names ≡ take (length (vec_items l.names)) ((chosen_kind l.kind).names l.body)

abbrev pub decreases-loop-name : goal.decreases-loop-name
decreases-loop-name l = length ((chosen_kind l.kind).names l.body) - length (vec_items l.names)
