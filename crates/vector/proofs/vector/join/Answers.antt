use Rattle.std.proofs.Common.{◌≡◌, length, rules, arith}
use Rattle.vector.specs.Vectors.{joined}
use Rattle.vector.proofs.VectorLaws.{joined_from_fn, joined_least}
use Rattle.vector.proofs.vector.join.Goals as goal

pub returns : goal.returns
returns c =
    let a = c.args.a in
    let b = c.args.b in
    let level : length a ≡ length b = omega arith in
    let same : c.from_fn.result ≡ joined a b =
    joined_from_fn _ _ c.from_fn.result a b level (omega arith) c.from_fn.ensures.items (λ i y q k. search rules) in
    record { value = same; least_above_both = rw same (joined_least a b level) }
