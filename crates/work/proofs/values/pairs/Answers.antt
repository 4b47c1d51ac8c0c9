use Rattle.std.proofs.Common.{◌∙◌}
use Rattle.work.proofs.ValuePairs.{chunks_are_pairs}
use Rattle.work.proofs.values.pairs.Goals as goal

pub returns : goal.returns
returns c = c.as_chunks.ensures.front ∙ chunks_are_pairs c.args.body.now
