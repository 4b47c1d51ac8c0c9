use Rattle.std.proofs.Common.{arith}
use Rattle.std.proofs.lemmas.Grind.{common_steps}
use Rattle.work.proofs.ValuePairs.{effect_by_pairs}
use Rattle.work.proofs.values.ValuesWork.run.Goals as goal

pub returns : goal.returns
returns c = grind (arith, common_steps, effect_by_pairs)
