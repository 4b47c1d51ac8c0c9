use Rattle.std.proofs.Common.{refl, arith, rules}
use Rattle.std.proofs.lemmas.Iterator.{YieldsList-from_range}
use Rattle.std.proofs.lemmas.Iterator.Search.{find_from_yields_List}
use Rattle.chip.specs.Finding.{blank_at, first_blank_place}
use Rattle.chip.proofs.page.first_blank.Goals as goal

pub returns : goal.returns
returns g c =
    let ws = g.M.Memory.holds c.args.memory.now in
    let found = find_from_yields_List (blank_at ws) _ _ c.find.result c.find.ensures.ran (YieldsList-from_range 0 c.len-len.result c.len-len.result refl (omega arith)) (λ x b q k. search rules) in
    let place = first_blank_place ws c.len-len.result 0 (omega (arith, c.len-len.ensures)) in
    search (rules, found, place)
