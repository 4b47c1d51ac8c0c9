use Rattle.std.proofs.Common.{◌∙◌, length, sym, ap, arith}
use Rattle.work.specs.ValuesLaws.{nth_behind, nth_pair}
use Rattle.work.proofs.ValuePairs.{length-pairs, cell_of_pair}
use Rattle.work.proofs.values.ValuesWork.name.Goals as goal

pub returns-in_err-cell : goal.returns-in_err-cell
returns-in_err-cell c =
    let body = c.args.body.now in
    let long = ap length c.pairs.ensures ∙ length-pairs body in
    c.from_residual.ensures ∙ sym (nth_behind body c.args.index (omega (arith, long, c.in_err-cell.ensures.lookup.3)))

pub returns : goal.returns
returns c =
    let body = c.args.body.now in
    let i = c.args.index in
    let found = c.in_ok-cell.ensures.lookup in
    let level = ap length c.pairs.ensures in
    let named = nth_pair body i (omega (arith, level, length-pairs body, found.3.0)) in
    let cell = cell_of_pair body i c.in_ok-cell.field-0.now (omega (arith, level, found.3.0)) in
    cc (found.1)
