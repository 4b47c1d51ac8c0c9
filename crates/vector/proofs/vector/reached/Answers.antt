use Rattle.std.proofs.Common.{rules, tests, ◌∙◌, nat_le, sym, arith}
use Rattle.std.proofs.lemmas.Iterator.{YieldsList-from_slice, YieldsList-from_zip}
use Rattle.std.proofs.lemmas.Iterator.Search.{all_from_yields_List}
use Rattle.vector.proofs.VectorLaws.{reached_by-zip}
use Rattle.vector.proofs.vector.reached.Goals as goal

pub returns : goal.returns
returns c =
    let a = c.args.a in
    let b = c.args.b in
    all_from_yields_List (λ p. nat_le p.0 p.1) c.all.new.self _ _ c.all.ensures.ran
    (YieldsList-from_zip (YieldsList-from_slice a cc) (YieldsList-from_slice b cc)) (λ x r q k. search (rules, tests))
    ∙ sym (reached_by-zip a b (omega arith))
