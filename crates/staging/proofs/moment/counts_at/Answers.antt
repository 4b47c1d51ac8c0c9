use Rattle.std.proofs.Common.{◌++◌, sym, ap, ◌∙◌, ⊎_elim, inl, inr}
use Rattle.std.proofs.lemmas.List.{append-nil}
use Rattle.staging.proofs.SpreadLaws.{counts_none}
use Rattle.staging.proofs.moment.counts_at.Goals as goal

pub returns : goal.returns
returns c =
    let items = c.loop-start.counts.items in
    let none = counts_none c.loop-start.start-iterator.a.rest.now c.loop-start.start-iterator.b.rest.now c.loop-start.left (⊎_elim (λ e. inl e.1.0) (λ e. inr e.1.0) c.in-None.ensures.steps) in
    sym (append-nil items) ∙ ap (λ l. items ++ l) (sym none) ∙ c.loop-start.invariant
