use Rattle.std.proofs.Common.{◌≡◌, ◌+◌, ◌<◌, ◌≤◌, [], ◌++◌, length, sym, ap, ◌∙◌, subst, arith}
use Rattle.std.specs.List.{AllByRecursion}
use Rattle.chip.specs.Cut.{Kept}
use Rattle.pair.specs.Pair.PairPasses.{still}
use Rattle.pair.specs.PairLaws.{kept_all, kept_none}
use Rattle.pair.specs.PairMoments.{Seen, seen_joined, seen_first, seen_second}
use Rattle.pair.proofs.pair.PairChip.append.Goals as goal

pub returns-then-word-eq-BLANK-clause-cut_inside : goal.returns-then-word-eq-BLANK-clause-cut_inside
returns-then-word-eq-BLANK-clause-cut_inside g c = ([], still, tt)

pub returns-then-count-capacity-clause-cut_inside : goal.returns-then-count-capacity-clause-cut_inside
returns-then-count-capacity-clause-cut_inside g c = ([], still, tt)

-- the second has words already
pub returns-then-count-gt0-clause-cut_inside : goal.returns-then-count-gt0-clause-cut_inside
returns-then-count-gt0-clause-cut_inside g c =
    let A = g.A.Chip in
    let B = g.B.Chip in
    let x = c.args.self.now.first in
    let y = c.args.self.now.second in
    let y' = c.append.new.self in
    let a = A.accepted x in
    let ordered = c.args.self.now.ordered in
    let some : 0 < length (B.accepted y) = omega (arith, c.count-2.ensures) in
    let found : A.left x ≡ a = kept_all a (A.settled x) (A.left x) (g.met.A.Chip.keeps x) (ordered.settled some) in
    let second = c.append.ensures.cut_inside in
    seen_second A.passes B.passes A.room A.left B.left a (B.accepted y') (A.settled x) (B.settled y) (A.settled x + B.settled y) x y y' second.0 second.1 (ap length found ∙ ordered.full some) found second.2 (omega (arith, (g.met.A.Chip.bounded x).0))

-- the first has room
pub returns-then-count-capacity-2-clause-cut_inside : goal.returns-then-count-capacity-2-clause-cut_inside
returns-then-count-capacity-2-clause-cut_inside g c =
    let A = g.A.Chip in
    let B = g.B.Chip in
    let call = c.append-then-count-capacity-2 in
    let x = c.args.self.now.first in
    let y = c.args.self.now.second in
    let x' = call.new.self in
    let b = B.accepted y in
    let none : length b ≤ 0 = omega (arith, c.count-2.ensures) in
    let empty : B.left y ≡ [] = kept_none b (B.settled y) (B.left y) (g.met.B.Chip.keeps y) none in
    let first = call.ensures.cut_inside in
    seen_first A.passes B.passes A.room A.left B.left (A.accepted x') b (A.settled x) (B.settled y) (A.settled x + B.settled y) x x' y first.0 first.1 empty first.2 (omega (arith, (g.met.B.Chip.bounded y).0))

-- the first is full, and settled before the second gets its first word
pub returns-clause-cut_inside : goal.returns-clause-cut_inside
returns-clause-cut_inside g c =
    let A = g.A.Chip in
    let B = g.B.Chip in
    let call = c.append_behind in
    let x = c.args.self.now.first in
    let y = c.args.self.now.second in
    let x' = c.settle.new.self in
    let y' = call.new.second in
    let a = A.accepted x in
    let b = B.accepted y in
    let a' = A.accepted x' in
    let b' = B.accepted y' in
    let low = A.settled x + B.settled y in
    let same : a' ≡ a = c.settle.ensures.words in
    let none : length b ≤ 0 = omega (arith, c.count-2.ensures) in
    let empty : B.left y ≡ [] = kept_none b (B.settled y) (B.left y) (g.met.B.Chip.keeps y) none in
    let found : A.left x' ≡ a' = kept_all a' (A.settled x') (A.left x') (g.met.A.Chip.keeps x') (c.settle.ensures.all_settled ∙ sym (ap length same)) in
    let filled : length a' ≡ A.room x' = omega (arith, ap length same, c.settle.ensures.same_room, c.count-3.ensures, c.capacity-2.ensures, c.if-count-capacity-2.false, (g.met.A.Chip.bounded x).1) in
    let first = c.settle.ensures.cut_inside in
    let second = call.ensures.cut_inside in
    let settles : Seen A.passes B.passes A.room A.left B.left x y x' y (a' ++ b') low =
    seen_first A.passes B.passes A.room A.left B.left a' b' (A.settled x) (B.settled y) low x x' y first.0 first.1 empty (subst (λ w. AllByRecursion (Kept w (A.settled x)) first.0) (sym same) first.2) (omega (arith, (g.met.B.Chip.bounded y).0)) in
    let appends : Seen A.passes B.passes A.room A.left B.left x' y x' y' (a' ++ b') low =
    seen_second A.passes B.passes A.room A.left B.left a' b' (A.settled x) (B.settled y) low x' y y' second.0 second.1 (ap length found ∙ filled) found second.2 (omega (arith, ap length same, (g.met.A.Chip.bounded x).0)) in
    seen_joined A.passes B.passes A.room A.left B.left settles x' y' appends
