use Rattle.std.proofs.Common.{nat_lt, slice_index, rules, tests, sym, ◌∙◌}
use Rattle.std.proofs.lemmas.Iterator.{YieldsList-from_slice}
use Rattle.std.proofs.lemmas.Iterator.Search.{all_from_yields_List}
use Rattle.work.specs.Values.{pairs_of}
use Rattle.work.proofs.ValuePairs.{within_by_pairs}
use Rattle.work.proofs.values.cells_are_there.Goals as goal

pub returns : goal.returns
returns c =
    all_from_yields_List (λ p. nat_lt (slice_index p 0) c.args.cells) c.all.new.self _ _ c.all.ensures.ran (YieldsList-from_slice (pairs_of c.args.body.now) cc) (λ x r q k. search (rules, tests))
    ∙ sym (within_by_pairs c.args.cells c.args.body.now)
