-- The moments that a pair passes join, and leave no gap.
use Rattle.std.specs.Prelude.{◌≡◌, ℕ, ◌+◌, ◌≤◌, List, [], ◌++◌, map, length, refl}
use Rattle.std.proofs.Common.{sym, subst, ◌∙◌}
use Rattle.std.specs.List.{AllByRecursion}
use Rattle.std.proofs.ByRecursion.{All-append, All-map, All-weaker}
use Rattle.std.proofs.lemmas.List.{append_assoc}
use Rattle.chip.specs.Cut.{Kept, Gapless}
use Rattle.pair.specs.Pair.{PairPasses}
use Rattle.pair.specs.Pair.PairPasses.{still, first_moves, first_stays, second_moves, second_stays}
use Rattle.chip.specs.LeafLaws.{gapless_joined}
use Rattle.pair.specs.PairLaws.{gapless_behind, gapless_before, gapless_same, kept_all, kept_none, kept_on_first, kept_on_second}

module _ {A B : Type 0} (passes_first : A → List (List ℕ) → A → Type 0) (passes_second : B → List (List ℕ) → B → Type 0) (room_first : A → ℕ) (left_first : A → List ℕ) (left_second : B → List ℕ) where
  abbrev Passes : A → B → List (List ℕ) → A → B → Type 0
  Passes = PairPasses passes_first passes_second room_first left_first left_second

  pub pair_joined : {a c : A} {b d : B} {xs : List (List ℕ)} → Passes a b xs c d → (e : A) (f : B) (ys : List (List ℕ)) → Passes c d ys e f → Passes a b (xs ++ ys) e f
  pair_joined still e f ys more = more
  pair_joined (first_moves {a = a} {b = b} {moments = ms} {more = rest} step none tail) e f ys more =
      subst (λ l. Passes a b l e f) (sym (append_assoc (map (λ l. l ++ left_second b) ms) rest ys)) (first_moves step none (pair_joined tail e f ys more))
  pair_joined (first_stays {a = a} {b = b} {moments = ms} {more = rest} step fit same last tail) e f ys more =
      subst (λ l. Passes a b l e f) (sym (append_assoc (map (λ l. l ++ left_second b) ms) rest ys)) (first_stays step fit same last (pair_joined tail e f ys more))
  pair_joined (second_moves {a = a} {b = b} {moments = ms} {more = rest} step full tail) e f ys more =
      subst (λ l. Passes a b l e f) (sym (append_assoc (map (λ l. left_first a ++ l) ms) rest ys)) (second_moves step full (pair_joined tail e f ys more))
  pair_joined (second_stays {a = a} {b = b} {moments = ms} {more = rest} step fit same last tail) e f ys more =
      subst (λ l. Passes a b l e f) (sym (append_assoc (map (λ l. left_first a ++ l) ms) rest ys)) (second_stays step fit same last (pair_joined tail e f ys more))

  module _ (gapless_first : (a b : A) (xs : List (List ℕ)) → passes_first a xs b → Gapless (left_first a) xs (left_first b)) (gapless_second : (a b : B) (xs : List (List ℕ)) → passes_second a xs b → Gapless (left_second a) xs (left_second b)) where
    pub pair_gapless : {a c : A} {b d : B} {xs : List (List ℕ)} → Passes a b xs c d → Gapless (left_first a ++ left_second b) xs (left_first c ++ left_second d)
    pair_gapless still = refl
    pair_gapless (first_moves {a = a} {a' = a'} {c = c} {b = b} {d = d} {moments = ms} {more = rest} step none tail) =
        gapless_joined (map (λ l. l ++ left_second b) ms) rest (left_first a ++ left_second b) (left_first a' ++ left_second b) (left_first c ++ left_second d) (gapless_before (left_second b) ms (left_first a) (left_first a') none (gapless_first a a' ms step)) (pair_gapless tail)
    pair_gapless (first_stays {a = a} {a' = a'} {c = c} {b = b} {d = d} {moments = ms} {more = rest} step fit same last tail) =
        gapless_joined (map (λ l. l ++ left_second b) ms) rest (left_first a ++ left_second b) (left_first a' ++ left_second b) (left_first c ++ left_second d) (gapless_same (left_first a) (left_second b) ms (left_first a') same last) (pair_gapless tail)
    pair_gapless (second_moves {a = a} {c = c} {b = b} {b' = b'} {d = d} {moments = ms} {more = rest} step full tail) =
        gapless_joined (map (λ l. left_first a ++ l) ms) rest (left_first a ++ left_second b) (left_first a ++ left_second b') (left_first c ++ left_second d) (gapless_behind (left_first a) ms (left_second b) (left_second b') (gapless_second b b' ms step)) (pair_gapless tail)
    pair_gapless (second_stays {a = a} {c = c} {b = b} {b' = b'} {d = d} {moments = ms} {more = rest} step fit same last tail) =
        gapless_joined (map (λ l. left_first a ++ l) ms) rest (left_first a ++ left_second b) (left_first a ++ left_second b') (left_first c ++ left_second d) (gapless_behind (left_first a) ms (left_second b) (left_second b') (gapless_second b b' ms step)) (pair_gapless tail)

  -- the moments from one state of both to another, each with a first part of `words` that has at least `low` of them
  abbrev pub Seen : A → B → A → B → List ℕ → ℕ → Type 0
  Seen a b c d words low = (ls : List (List ℕ)) × Passes a b ls c d × AllByRecursion (Kept words low) ls

  pub seen_joined : {a c : A} {b d : B} {words : List ℕ} {low : ℕ} → Seen a b c d words low → (e : A) (f : B) → Seen c d e f words low → Seen a b e f words low
  seen_joined {words = words} {low = low} here e f more =
      (here.0 ++ more.0, pair_joined here.1 e f more.0 more.1, All-append (Kept words low) here.0 more.0 here.2 more.2)

  -- one chip passes moments, and what is found on the other stands still
  module _ (wa wb : List ℕ) (sa sb low : ℕ) where
    mapped : (f : List ℕ → List ℕ) (words : List ℕ) (bound : ℕ) → ((l : List ℕ) → Kept words bound l → Kept (wa ++ wb) low (f l)) → (xs : List (List ℕ)) → AllByRecursion (Kept words bound) xs → AllByRecursion (Kept (wa ++ wb) low) (map f xs ++ [])
    mapped f words bound each xs kept =
        All-append (Kept (wa ++ wb) low) (map f xs) [] (All-map (Kept (wa ++ wb) low) f xs (All-weaker (Kept words bound) (λ l. Kept (wa ++ wb) low (f l)) each xs kept)) tt

    pub seen_first : (a a' : A) (b : B) (xs : List (List ℕ)) → passes_first a xs a' → left_second b ≡ [] → AllByRecursion (Kept wa sa) xs → low ≤ sa → Seen a b a' b (wa ++ wb) low
    seen_first a a' b xs step none kept below =
        (map (λ l. l ++ left_second b) xs ++ [], first_moves step none still, mapped (λ l. l ++ left_second b) wa sa (λ l k. kept_on_first wa wb sa low l (left_second b) k none below) xs kept)

    pub seen_first_stays : (a a' : A) (b : B) (xs : List (List ℕ)) → passes_first a xs a' → AllByRecursion (Kept wa sa) xs → sa ≡ length wa → length (left_first a) ≡ room_first a → left_first a ≡ wa → left_first a' ≡ wa → Kept wb sb (left_second b) → low ≤ length wa + sb → Seen a b a' b (wa ++ wb) low
    seen_first_stays a a' b xs step kept all full here there second below =
        (map (λ l. l ++ left_second b) xs ++ [], first_stays step full (All-weaker (Kept wa sa) (λ l. l ≡ left_first a) (λ l k. kept_all wa sa l k all ∙ sym here) xs kept) (there ∙ sym here) still, mapped (λ l. l ++ left_second b) wa sa (λ l k. kept_on_second wa wb sb low l (left_second b) (kept_all wa sa l k all) second below) xs kept)

    pub seen_second : (a : A) (b b' : B) (ys : List (List ℕ)) → passes_second b ys b' → length (left_first a) ≡ room_first a → left_first a ≡ wa → AllByRecursion (Kept wb sb) ys → low ≤ length wa + sb → Seen a b a b' (wa ++ wb) low
    seen_second a b b' ys step full here kept below =
        (map (λ l. left_first a ++ l) ys ++ [], second_moves step full still, mapped (λ l. left_first a ++ l) wb sb (λ l k. kept_on_second wa wb sb low (left_first a) l here k below) ys kept)

    pub seen_second_stays : (a : A) (b b' : B) (ys : List (List ℕ)) → passes_second b ys b' → left_first a ≡ wa → left_second b ≡ [] → left_second b' ≡ [] → length wb ≤ 0 → AllByRecursion (Kept wb sb) ys → low ≤ length wa + sb → Seen a b a b' (wa ++ wb) low
    seen_second_stays a b b' ys step here none none' empty kept below =
        (map (λ l. left_first a ++ l) ys ++ [], second_stays step none (All-weaker (Kept wb sb) (λ l. l ≡ left_second b) (λ l k. kept_none wb sb l k empty ∙ sym none) ys kept) (none' ∙ sym none) still, mapped (λ l. left_first a ++ l) wb sb (λ l k. kept_on_second wa wb sb low (left_first a) l here k below) ys kept)
