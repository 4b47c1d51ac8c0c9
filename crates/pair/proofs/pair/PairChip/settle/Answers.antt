use Rattle.std.proofs.Common.{◌≡◌, ◌+◌, ◌<◌, ◌++◌, length, sym, ap, ◌∙◌, ⊎_elim, arith}
use Rattle.std.proofs.lemmas.Bool.{cases_lt}
use Rattle.chip.specs.Cut.{Kept}
use Rattle.pair.specs.PairLaws.{kept_all, kept_none}
use Rattle.pair.specs.PairMoments.{Seen, seen_joined, seen_first, seen_first_stays, seen_second, seen_second_stays}
use Rattle.pair.proofs.pair.PairChip.settle.Goals as goal

pub returns-clause-cut_inside : goal.returns-clause-cut_inside
returns-clause-cut_inside g c =
    let A = g.A.Chip in
    let B = g.B.Chip in
    let x = c.args.self.now.first in
    let y = c.args.self.now.second in
    let x' = c.settle.new.self in
    let y' = c.settle-2.new.self in
    let a = A.accepted x in
    let b = B.accepted y in
    let low = A.settled x + B.settled y in
    let fits-a = g.met.A.Chip.bounded x in
    let fits-b = g.met.B.Chip.bounded y in
    let ordered = c.args.self.now.ordered in
    let first = c.settle.ensures.cut_inside in
    let second = c.settle-2.ensures.cut_inside in
    let ra : A.room x' ≡ A.room x = c.settle.ensures.same_room in
    let na : length (A.accepted x') ≡ length a = ap length c.settle.ensures.words in
    let nb : length (B.accepted y') ≡ length b = ap length c.settle-2.ensures.words in
    let sa : A.settled x' ≡ length a = c.settle.ensures.all_settled in
    let found : A.left x' ≡ a = kept_all (A.accepted x') (A.settled x') (A.left x') (g.met.A.Chip.keeps x') (omega arith) ∙ c.settle.ensures.words in
    let kept_b : Kept b (B.settled y) (B.left y) = g.met.B.Chip.keeps y in
    let here : 0 < length b → A.left x ≡ a = λ some. kept_all a (A.settled x) (A.left x) (g.met.A.Chip.keeps x) (ordered.settled some) in
    let before : Seen A.passes B.passes A.room A.left B.left x y x' y (a ++ b) low =
    ⊎_elim
    (λ some. seen_first_stays A.passes B.passes A.room A.left B.left a b (A.settled x) (B.settled y) low x x' y first.0 first.1 first.2 (ordered.settled some) (ap length (here some) ∙ ordered.full some) (here some) found kept_b (omega (arith, ordered.settled some)))
    (λ none. seen_first A.passes B.passes A.room A.left B.left a b (A.settled x) (B.settled y) low x x' y first.0 first.1 (kept_none b (B.settled y) (B.left y) kept_b none) first.2 (omega (arith, fits-b.0)))
    (cases_lt 0 (length b)) in
    let behind : Seen A.passes B.passes A.room A.left B.left x' y x' y' (a ++ b) low =
    ⊎_elim
    (λ some. seen_second A.passes B.passes A.room A.left B.left a b (A.settled x) (B.settled y) low x' y y' second.0 second.1 (ap length found ∙ ordered.full some ∙ sym ra) found second.2 (omega (arith, fits-a.0)))
    (λ none. seen_second_stays A.passes B.passes A.room A.left B.left a b (A.settled x) (B.settled y) low x' y y' second.0 second.1 found (kept_none b (B.settled y) (B.left y) kept_b none) (kept_none (B.accepted y') (B.settled y') (B.left y') (g.met.B.Chip.keeps y') (omega (arith, nb))) none second.2 (omega (arith, fits-a.0)))
    (cases_lt 0 (length b)) in
    seen_joined A.passes B.passes A.room A.left B.left before x' y' behind
