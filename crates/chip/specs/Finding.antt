-- What a mount of a page chip finds.
use Rattle.std.specs.Prelude.{◌≡◌, ℕ, zero, suc, ◌+◌, ◌-◌, ◌<◌, ◌≤◌, Bool, true, false, cond, not, ◌&&◌, List, [], ◌∷◌, ◌++◌, map, length, take, drop, set, Some, ◌==◌, ◌≢◌, slice_index_or, slice_set, unwrap_or, refl, get_or}
use Rattle.std.proofs.Common.{sym, ap, ◌∙◌, arith, inr, ⊎_elim, add-one}
use Rattle.std.specs.List.{AllByRecursion, find, list_all, range_with_len}
use Rattle.std.proofs.ByRecursion.{All-weaker}
use Rattle.std.proofs.lemmas.List.{append-nil, append_assoc, length-set, length_push, take_at, at_drop_more, at_drop_all}
use Rattle.std.proofs.lemmas.Bool.{and_parts, and_from, not-true, ne_eqb, cases_Bool, eq-eqb}
use Rattle.chip.specs.Cut.{Kept, Gapless}
use Rattle.chip.specs.Page.{page_found, all_blank, none_blank, blank_behind, written, writes}

abbrev is_blank : ℕ → Bool
is_blank w = w == 4294967295

-- of blank words nothing is found, and they are blank behind their first
found_blank : (ws : List ℕ) → all_blank ws ≡ true → page_found ws ≡ []
found_blank [] h = refl
found_blank (w ∷ ws) h = ap (λ b. cond b [] (w ∷ page_found ws)) (and_parts (is_blank w) (all_blank ws) h).0

behind_blank : (ws : List ℕ) → all_blank ws ≡ true → blank_behind ws ≡ true
behind_blank [] h = refl
behind_blank (w ∷ ws) h =
    let parts = and_parts (is_blank w) (all_blank ws) h in
    ap (λ b. cond b (all_blank ws) (blank_behind ws)) parts.0 ∙ parts.1

-- one word more is stored behind those that are found
abbrev Stored : List ℕ → ℕ → Type 0
Stored ws w = (page_found (slice_set ws (length (page_found ws)) w) ≡ page_found ws ++ w ∷ []) × (blank_behind (slice_set ws (length (page_found ws)) w) ≡ true)

module _ (x : ℕ) (xs : List ℕ) (w : ℕ) (unblank : is_blank w ≡ false) where
  abbrev StoredAt : Bool → Type 0
  StoredAt b =
      let found : List ℕ = cond b [] (x ∷ page_found xs) in
      (page_found (slice_set (x ∷ xs) (length found) w) ≡ found ++ w ∷ []) × (blank_behind (slice_set (x ∷ xs) (length found) w) ≡ true)

  stored_first : all_blank xs ≡ true → StoredAt true
  stored_first blank =
      (ap (λ b. cond b [] (w ∷ page_found xs)) unblank ∙ ap (λ l. w ∷ l) (found_blank xs blank), ap (λ b. cond b (all_blank xs) (blank_behind xs)) unblank ∙ behind_blank xs blank)

  stored_later : is_blank x ≡ false → Stored xs w → StoredAt false
  stored_later e more =
      let rest = set xs (length (page_found xs)) w in
      (ap (λ b. cond b [] (x ∷ page_found rest)) e ∙ ap (λ l. x ∷ l) more.0, ap (λ b. cond b (all_blank rest) (blank_behind rest)) e ∙ more.1)

  stored_by : (blank_behind xs ≡ true → length (page_found xs) < length xs → Stored xs w) → (b : Bool) → is_blank x ≡ b → cond b (all_blank xs) (blank_behind xs) ≡ true → length (cond b [] (x ∷ page_found xs)) < suc (length xs) → StoredAt b
  stored_by more true e behind room = stored_first behind
  stored_by more false e behind room = stored_later e (more behind (omega arith))

pub found_stored : (ws : List ℕ) (w : ℕ) → is_blank w ≡ false → blank_behind ws ≡ true → length (page_found ws) < length ws → Stored ws w
found_stored [] w unblank behind room =
    let never : ⊥ = omega arith in
    absurd never
found_stored (x ∷ xs) w unblank behind room = stored_by x xs w unblank (found_stored xs w unblank) (is_blank x) refl behind room

-- a first part of a list
pub kept_front : (front rest words : List ℕ) (low : ℕ) → words ≡ front ++ rest → low ≤ length front → Kept words low front
kept_front front rest words low e enough =
    record { first_part = sym (ap (take (length front)) e ∙ take_at front rest (length front) refl); enough = enough }

-- `more` is stored behind the words that are found, which makes them `total`
pub record Programmed (ws : List ℕ) (at : ℕ) (more total : List ℕ) (low : ℕ) : Type 0 where
  pub found : page_found (written ws at more) ≡ total
  pub behind : blank_behind (written ws at more) ≡ true
  pub moments : AllByRecursion (λ m. (blank_behind m ≡ true) × (length m ≡ length ws) × Kept total low (page_found m)) (writes ws at more)
  pub gapless : Gapless (page_found ws) (map page_found (writes ws at more)) total

pub programmed : (more ws : List ℕ) (at : ℕ) (total : List ℕ) (low : ℕ) → at ≡ length (page_found ws) → low ≤ at → total ≡ page_found ws ++ more → blank_behind ws ≡ true → none_blank more ≡ true → at + length more ≤ length ws → Programmed ws at more total low
programmed [] ws at total low counted enough whole behind unblank fits =
    let same : page_found ws ≡ total = sym (whole ∙ append-nil (page_found ws)) in
    record { found = same; behind = behind; moments = tt; gapless = same }
programmed (w ∷ rest) ws at total low counted enough whole behind unblank fits =
    let parts = and_parts (not (is_blank w)) (none_blank rest) unblank in
    let next : List ℕ = set ws at w in
    let within : length (page_found ws) < length ws = omega arith in
    let unblank-w : is_blank w ≡ false = not-true (is_blank w) parts.0 in
    let stored : Stored ws w = found_stored ws w unblank-w behind within in
    let found-next : page_found next ≡ page_found ws ++ w ∷ [] = ap (λ n. page_found (slice_set ws n w)) counted ∙ stored.0 in
    let behind-next : blank_behind next ≡ true = ap (λ n. blank_behind (slice_set ws n w)) counted ∙ stored.1 in
    let counted_next : suc at ≡ length (page_found next) = ap suc counted ∙ sym (ap length found-next ∙ length_push (page_found ws) w ∙ add-one (length (page_found ws))) in
    let long : length next ≡ length ws = length-set ws at w in
    let whole-next : total ≡ page_found next ++ rest = whole ∙ sym (ap (λ l. l ++ rest) found-next ∙ append_assoc (page_found ws) (w ∷ []) rest) in
    let more = programmed rest next (suc at) total low counted_next (omega arith) whole-next behind-next parts.1 (omega arith) in
    let here : Kept total low (page_found next) = kept_front (page_found next) rest total low whole-next (omega arith) in
    let later = All-weaker (λ m. (blank_behind m ≡ true) × (length m ≡ length next) × Kept total low (page_found m)) (λ m. (blank_behind m ≡ true) × (length m ≡ length ws) × Kept total low (page_found m)) (λ m h. (h.0, h.1 ∙ long, h.2)) (writes next (suc at) rest) more.moments in
    record { found = more.found; behind = more.behind; moments = ((behind-next, long, here), later); gapless = (inr (w, found-next), more.gapless) }

front_by : (w : ℕ) (ws : List ℕ) → page_found ws ≡ take (length (page_found ws)) ws → (b : Bool) → cond b [] (w ∷ page_found ws) ≡ take (length (cond b [] (w ∷ page_found ws))) (w ∷ ws)
front_by w ws h true = refl
front_by w ws h false = ap (λ l. w ∷ l) h

-- what is found is the first part of the memory
pub found_front : (ws : List ℕ) → page_found ws ≡ take (length (page_found ws)) ws
found_front [] = refl
found_front (w ∷ ws) = front_by w ws (found_front ws) (is_blank w)

-- whether a word is blank, by its place
abbrev pub blank_at : List ℕ → ℕ → Bool
blank_at ws i = slice_index_or ws i 4294967295 == 4294967295

-- the first of the n places from i on that has a blank word, or the end
pub first_blank_place : (ws : List ℕ) (n i : ℕ) → i + n ≡ length ws → unwrap_or (find (blank_at ws) (range_with_len i n)) (length ws) ≡ i + length (page_found (drop i ws))
first_blank_place ws zero i e = omega (arith, ap length (at_drop_all page_found ws i (omega arith)))
first_blank_place ws (suc n) i e =
    let here = at_drop_more page_found ws i 4294967295 (omega arith) in
    let blank : blank_at ws i ≡ true → unwrap_or (find (blank_at ws) (range_with_len i (suc n))) (length ws) ≡ i + length (page_found (drop i ws)) = λ t.
    ap (λ b. unwrap_or (cond b (Some i) (find (blank_at ws) (range_with_len (i + 1) n))) (length ws)) t ∙ omega (arith, ap length (here ∙ ap (λ b. cond b [] (slice_index_or ws i 4294967295 ∷ page_found (drop (i + 1) ws))) t)) in
    let word : blank_at ws i ≡ false → unwrap_or (find (blank_at ws) (range_with_len i (suc n))) (length ws) ≡ i + length (page_found (drop i ws)) = λ t.
    ap (λ b. unwrap_or (cond b (Some i) (find (blank_at ws) (range_with_len (i + 1) n))) (length ws)) t ∙ first_blank_place ws n (i + 1) (omega arith) ∙ omega (arith, ap length (here ∙ ap (λ b. cond b [] (slice_index_or ws i 4294967295 ∷ page_found (drop (i + 1) ws))) t)) in
    ⊎_elim blank word (cases_Bool (blank_at ws i))

-- whether all of the n places from i on have a blank word
pub all_blank_places : (ws : List ℕ) (n i : ℕ) → length ws - i ≡ n → list_all (blank_at ws) (range_with_len i n) ≡ all_blank (drop i ws)
all_blank_places ws zero i e = sym (at_drop_all all_blank ws i (omega arith))
all_blank_places ws (suc n) i e =
    ap (λ b. blank_at ws i && b) (all_blank_places ws n (i + 1) (omega arith)) ∙ sym (at_drop_more all_blank ws i 4294967295 (omega arith))

-- one place on
module _ (ws : List ℕ) (i : ℕ) (within : i < length ws) where
  pub found_at_blank : get_or ws i 4294967295 ≡ 4294967295 → page_found (drop i ws) ≡ []
  found_at_blank blank =
      at_drop_more page_found ws i 4294967295 within ∙ ap (λ b. cond b [] (slice_index_or ws i 4294967295 ∷ page_found (drop (i + 1) ws))) (eq-eqb (slice_index_or ws i 4294967295) 4294967295 blank)

  pub found_past_word : (slice_index_or ws i 4294967295 ≢ 4294967295) → length (page_found (drop i ws)) ≡ suc (length (page_found (drop (i + 1) ws)))
  found_past_word word =
      ap length (at_drop_more page_found ws i 4294967295 within ∙ ap (λ b. cond b [] (slice_index_or ws i 4294967295 ∷ page_found (drop (i + 1) ws))) (ne_eqb (slice_index_or ws i 4294967295) 4294967295 word))

  pub blank_past_blank : get_or ws i 4294967295 ≡ 4294967295 → all_blank (drop i ws) ≡ all_blank (drop (i + 1) ws)
  blank_past_blank blank =
      at_drop_more all_blank ws i 4294967295 within ∙ ap (λ b. b && all_blank (drop (i + 1) ws)) (eq-eqb (slice_index_or ws i 4294967295) 4294967295 blank)

  pub blank_at_word : (slice_index_or ws i 4294967295 ≢ 4294967295) → all_blank (drop i ws) ≡ false
  blank_at_word word =
      at_drop_more all_blank ws i 4294967295 within ∙ ap (λ b. b && all_blank (drop (i + 1) ws)) (ne_eqb (slice_index_or ws i 4294967295) 4294967295 word)

behind_by : (w : ℕ) (ws : List ℕ) → blank_behind ws ≡ all_blank (drop (length (page_found ws)) ws) → (b : Bool) → is_blank w ≡ b → cond b (all_blank ws) (blank_behind ws) ≡ all_blank (drop (length (cond b [] (w ∷ page_found ws))) (w ∷ ws))
behind_by w ws h true e = sym (ap (λ b. b && all_blank ws) e)
behind_by w ws h false e = h

-- nothing but blank words from the first blank one on
pub behind_is : (ws : List ℕ) → blank_behind ws ≡ all_blank (drop (length (page_found ws)) ws)
behind_is [] = refl
behind_is (w ∷ ws) = behind_by w ws (behind_is ws) (is_blank w) refl

pub none_blank_push : (ws : List ℕ) (w : ℕ) → none_blank ws ≡ true → (w ≢ 4294967295) → none_blank (ws ++ w ∷ []) ≡ true
none_blank_push [] w h word = ap (λ b. not b && true) (ne_eqb w 4294967295 word)
none_blank_push (x ∷ xs) w h word =
    let parts = and_parts (not (is_blank x)) (none_blank xs) h in
    and_from (not (is_blank x)) (none_blank (xs ++ w ∷ [])) parts.0 (none_blank_push xs w parts.1 word)
