use Rattle.std.proofs.Common.{⊎_elim, inl, inr, arith}
use Rattle.staging.proofs.SpreadLaws.{made_none}
use Rattle.staging.proofs.moment.stores_between.Goals as goal

pub returns : goal.returns
returns c =
    let none = made_none c.loop-start.start-iterator.a.rest.now c.loop-start.start-iterator.b.rest.now (⊎_elim (λ e. inl e.1.0) (λ e. inr e.1.0) c.in-None.ensures.steps) in
    omega (arith, none, c.loop-start.invariant)
