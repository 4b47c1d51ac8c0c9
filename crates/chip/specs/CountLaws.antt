-- The count chip's words, and what its two stores leave.
use Rattle.std.specs.Prelude.{◌≡◌, ℕ, suc, ◌+◌, ◌<◌, ◌≤◌, true, ◌&&◌, List, [], ◌∷◌, ◌++◌, length, take, nat_lt, slice_set, get_or, drop, slice_index, slice_index_or}
use Rattle.std.proofs.Common.{sym, ap, subst, ◌∙◌, arith, add-one}
use Rattle.std.proofs.lemmas.List.{append-nil, length-take, length-drop, length-set, take_more_set, take-set, get_or-take, get_or-drop, get_or_default}
use Rattle.std.proofs.lemmas.Bool.{and_parts, and_from, ltb-true, lt-ltb}
use Rattle.chip.specs.Cut.{Kept}
use Rattle.chip.specs.Count.{count_room, count_of, count_words, count_sound}
use Rattle.chip.specs.Finding.{kept_front}

pub counted_sound : (ws : List ℕ) → count_sound ws ≡ true → (1 < length ws) × (length ws < 1048578) × (count_of ws < length ws)
counted_sound ws h =
    let outer = and_parts (nat_lt 1 (length ws)) (nat_lt (length ws) 1048578 && nat_lt (count_of ws) (length ws)) h in
    let inner = and_parts (nat_lt (length ws) 1048578) (nat_lt (count_of ws) (length ws)) outer.1 in
    (ltb-true 1 (length ws) outer.0, ltb-true (length ws) 1048578 inner.0, ltb-true (count_of ws) (length ws) inner.1)

pub sound_counted : (ws : List ℕ) → 1 < length ws → length ws < 1048578 → count_of ws < length ws → count_sound ws ≡ true
sound_counted ws some few within =
    and_from (nat_lt 1 (length ws)) (nat_lt (length ws) 1048578 && nat_lt (count_of ws) (length ws)) (lt-ltb 1 (length ws) some) (and_from (nat_lt (length ws) 1048578) (nat_lt (count_of ws) (length ws)) (lt-ltb (length ws) 1048578 few) (lt-ltb (count_of ws) (length ws) within))

module _ (ws : List ℕ) (sound : count_sound ws ≡ true) where
  pub length_counted : length (count_words ws) ≡ count_of ws
  length_counted =
      let within = (counted_sound ws sound).2 in
      simp (length-take, length-drop) (omega (arith, within))

  pub count_bounded : (count_of ws ≤ length (count_words ws)) × (length (count_words ws) ≤ count_room ws) × (count_room ws ≤ 1048576)
  count_bounded =
      let parts = counted_sound ws sound in
      (omega (arith, length_counted), omega (arith, length_counted, parts.2), omega (arith, parts.1))

  pub count_keeps : Kept (count_words ws) (count_of ws) (count_words ws)
  count_keeps =
      kept_front (count_words ws) [] (count_words ws) (count_of ws) (sym (append-nil (count_words ws))) (omega (arith, length_counted))

  pub read_counted : (place : ℕ) → place < count_of ws → slice_index (count_words ws) place ≡ slice_index_or ws (place + 1) 4294967295
  read_counted place below =
      let within = (counted_sound ws sound).2 in
      get_or-take (count_of ws) (drop 1 ws) place 0 below ∙ get_or-drop 1 ws place 0 ∙ get_or_default ws (1 + place) 0 4294967295 (omega (arith, within)) ∙ ap (λ k. get_or ws k 4294967295) (omega arith)

-- what the two stores of an Append leave, in their order
pub record Appended (ws first second : List ℕ) (w : ℕ) : Type 0 where
  pub nothing_yet : count_words first ≡ count_words ws
  pub one_more : count_words second ≡ count_words ws ++ w ∷ []
  pub same_room : count_room second ≡ count_room ws
  pub first_sound : count_sound first ≡ true
  pub second_sound : count_sound second ≡ true

-- a memory of a number n and words xs; the word w is stored behind the n counted ones, then their number
module _ (n : ℕ) (xs : List ℕ) (w : ℕ) (sound : count_sound (n ∷ xs) ≡ true) (room : n < length xs) where
  long : length (slice_set xs n w) ≡ length xs
  long = length-set xs n w

  number_first : Appended (n ∷ xs) (n ∷ slice_set xs n w) (suc n ∷ slice_set xs n w) w
  number_first =
      let parts = counted_sound (n ∷ xs) sound in
      record {
        nothing_yet = take-set xs n w;
        one_more = ap (λ k. take k (slice_set xs n w)) (sym (add-one n)) ∙ take_more_set xs n w room;
        same_room = omega (arith, long);
        first_sound = sound_counted (n ∷ slice_set xs n w) (omega (arith, long, parts.0)) (omega (arith, long, parts.1)) (omega (arith, long));
        second_sound = sound_counted (suc n ∷ slice_set xs n w) (omega (arith, long, parts.0)) (omega (arith, long, parts.1)) (omega (arith, long));
      }

pub appended : (ws : List ℕ) (w : ℕ) → count_sound ws ≡ true → count_of ws < count_room ws → Appended ws (slice_set ws (count_of ws + 1) w) (slice_set (slice_set ws (count_of ws + 1) w) 0 (count_of ws + 1)) w
appended [] w sound room =
    let never : ⊥ = omega arith in
    absurd never
appended (n ∷ xs) w sound room =
    subst (λ k. Appended (n ∷ xs) (slice_set (n ∷ xs) k w) (slice_set (slice_set (n ∷ xs) k w) 0 k) w) (sym (add-one n)) (number_first n xs w sound (omega arith))
