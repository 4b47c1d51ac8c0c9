use Rattle.std.proofs.Common.{rules, tests}
use Rattle.std.proofs.lemmas.List.Sorted.{answers_always}
use Rattle.work.proofs.ValuePairs.{cells_below, rising_by_pairs}
use Rattle.work.proofs.values.cells_rise.Goals as goal

pub returns : goal.returns
returns c = rising_by_pairs c.args.body.now _ (rw (← c.pairs.ensures) (c.is_sorted_by.ensures.cases cells_below (answers_always _ _ _ (λ f a r g k. search (rules, tests)))))
