use Rattle.std.proofs.Common.{refl, ◌∙◌, ◌-◌, arith, rules}
use Rattle.std.proofs.lemmas.Iterator.{YieldsList-from_range}
use Rattle.std.proofs.lemmas.Iterator.Search.{all_from_yields_List}
use Rattle.chip.specs.Finding.{blank_at, all_blank_places}
use Rattle.chip.proofs.page.is_blank_from.Goals as goal

pub returns : goal.returns
returns g c =
    let ws = g.M.Memory.holds c.args.memory.now in
    let from = c.args.from in
    let n = c.len.result - from in
    let all = all_from_yields_List (blank_at ws) _ _ c.all.result c.all.ensures.ran (YieldsList-from_range from c.len.result n refl refl) (λ x b q k. search rules) in
    all ∙ all_blank_places ws n from (omega arith)
