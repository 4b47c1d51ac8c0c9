use Rattle.std.proofs.Common.{nat_lt, refl, rules}
use Rattle.std.proofs.lemmas.List.Recursion.{and_is}
use Rattle.work.specs.Kinds.{fit_payloads}
use Rattle.work.proofs.table.payloads_fit.Goals as goal

pub returns : goal.returns
returns c = and_is fit_payloads (λ p. nat_lt p 536870912) refl (λ _ _. refl) c.args.body.now 0 _ (search rules) (search rules)
