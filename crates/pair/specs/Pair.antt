-- Two chips as one: the second takes words once the first is full and settled.
-- Of the first and the second, ra and rb are the capacities, ca and cb the counts of accepted words, sa and sb how many
-- are settled.
--   pair_refusal ra rb ca cb             why two chips of capacities ra and rb with ca and cb words make no pair
--   pair_early ra ca cb sa sb ea eb      how many are settled after one more word, where ea and eb are after one on
--                                        the first or the second
--   PairOrdered ra rb ca cb sa           what every pair keeps: the capacities are within the limit, and the second has
--                                        words only behind a first that is full and settled
--   PairPasses ..                        what a mount of both finds, moment by moment. What is found on the first changes
--                                        only while nothing is found on the second, and what is found on the second
--                                        only while the first is found full; so a mount is refused at no moment
use Rattle.std.specs.Prelude.{◌≡◌, ℕ, ◌+◌, ◌<◌, ◌≤◌, cond, ◌&&◌, List, [], ◌++◌, map, length, Some, None, Option, nat_lt}
use Rattle.std.specs.List.{AllByRecursion}
use Rattle.chip.specs.declared.refusal.Refusal.{Refusal}
use Rattle.chip.specs.declared.refusal.Refusal.TheVariants.{PairTooLarge, FirstNotFull}

abbrev pub pair_refusal : ℕ → ℕ → ℕ → ℕ → Option Refusal
pair_refusal ra rb ca cb =
    cond (nat_lt 1048576 (ra + rb)) (Some PairTooLarge) (cond (nat_lt ca ra && nat_lt 0 cb) (Some FirstNotFull) None)

abbrev pub pair_early : ℕ → ℕ → ℕ → ℕ → ℕ → ℕ → ℕ → ℕ
pair_early ra ca cb sa sb ea eb =
    cond (nat_lt 0 cb) (sa + eb) (cond (nat_lt ca ra) (ea + sb) (ca + eb))

pub record PairOrdered (ra rb ca cb sa : ℕ) : Type 0 where
  pub within : ra + rb ≤ 1048576
  pub full : 0 < cb → ca ≡ ra
  pub settled : 0 < cb → sa ≡ ca

module _ {A B : Type 0} (passes_first : A → List (List ℕ) → A → Type 0) (passes_second : B → List (List ℕ) → B → Type 0) (room_first : A → ℕ) (left_first : A → List ℕ) (left_second : B → List ℕ) where
  pub data PairPasses : A → B → List (List ℕ) → A → B → Type 0 where
    -- no step
    still : {a : A} {b : B} → PairPasses a b [] a b
    -- the first passes moments while nothing is found on the second
    first_moves : {a a' c : A} {b d : B} {moments more : List (List ℕ)} → passes_first a moments a' → left_second b ≡ [] → PairPasses a' b more c d → PairPasses a b (map (λ l. l ++ left_second b) moments ++ more) c d
    -- the first is found full, and steps that change nothing that is found on it
    first_stays : {a a' c : A} {b d : B} {moments more : List (List ℕ)} → passes_first a moments a' → length (left_first a) ≡ room_first a → AllByRecursion (λ l. l ≡ left_first a) moments → left_first a' ≡ left_first a → PairPasses a' b more c d → PairPasses a b (map (λ l. l ++ left_second b) moments ++ more) c d
    -- the second passes moments while the first is found full
    second_moves : {a c : A} {b b' d : B} {moments more : List (List ℕ)} → passes_second b moments b' → length (left_first a) ≡ room_first a → PairPasses a b' more c d → PairPasses a b (map (λ l. left_first a ++ l) moments ++ more) c d
    -- nothing is found on the second, and steps that change nothing of that
    second_stays : {a c : A} {b b' d : B} {moments more : List (List ℕ)} → passes_second b moments b' → left_second b ≡ [] → AllByRecursion (λ l. l ≡ left_second b) moments → left_second b' ≡ left_second b → PairPasses a b' more c d → PairPasses a b (map (λ l. left_first a ++ l) moments ++ more) c d
